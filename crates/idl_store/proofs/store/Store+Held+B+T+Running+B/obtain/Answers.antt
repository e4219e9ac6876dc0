-- What a look-up finds is the result there, and where it finds none, a run gives it.
use Rattle.std.proofs.Common.{◌∙◌, ◌∷◌, [], ap, inl, inr, length, refl, subst, sym, arith}
use Rattle.std.specs.Option.{option_cmp}
use Rattle.std.proofs.lemmas.Result.{IfErr-at_err, IfOk-at_ok}
use Rattle.idl_memo.specs.Kept.{IsSound, NoneAlikeAt, SomeAlikeAt, result_over}
use Rattle.idl_memo.specs.Meter.{compared_after, raised}
use Rattle.idl_store.specs.Buckets.{bucket_of}
use Rattle.idl_store.specs.Index.{IsGapAmong}
use Rattle.idl_store.specs.Order.{results_cmp}
use Rattle.idl_store.specs.Stored.{grown, results_in}
use Rattle.idl_store.proofs.Obtaining.{keys-same}
use Rattle.std.proofs.lemmas.Grind.{common_steps}
use Rattle.idl_store.proofs.store.Store+Held+B+T+Running+B.obtain.Goals as goal

pub returns-in-Ok-clause-result : goal.returns-in-Ok-clause-result
returns-in-Ok-clause-result g c = c.into_shared-shared.ensures ∙ (IfOk-at_ok _ c.in-Ok.is c.in_ok-found.ensures.found).0

pub returns-in-Ok-clause-ok : goal.returns-in-Ok-clause-ok
returns-in-Ok-clause-ok g c =
    let text = g.T.Task.text_of c.args.task.now in
    let bank = g.B.Bank.at c.args.bank.now in
    let here = result_over g.B.Key.PartialEq.eq g.T.Task.query (text, bank) in
    (IfOk-at_ok _ c.in-Ok.is c.in_ok-found.ensures.found).2 ∙ ap (λ s. grown s (here ∷ [])) c.self.view_is

pub returns-in-Ok-clause-meter : goal.returns-in-Ok-clause-meter
returns-in-Ok-clause-meter g c =
    let text = g.T.Task.text_of c.args.task.now in
    let bank = g.B.Bank.at c.args.bank.now in
    let is = IfOk-at_ok _ c.in-Ok.is c.in_ok-found.ensures.found in
    let found = c.deref.ensures ∙ c.into_shared-shared.ensures ∙ is.0 in
    let keys = c.len.ensures ∙ ap (λ l. length l) c.log.ensures ∙ keys-same _ _ found in
    inl (
      subst (λ s. SomeAlikeAt (text, bank) (results_in s)) c.self.view_is is.1,
      c.compare.ensures ∙ ap (λ n. record c.args.meter.now { compared = compared_after c.args.meter.now.compared n }) keys,
    )

pub put-requires-clause-sound : goal.put-requires-clause-sound
put-requires-clause-sound g c =
    let is = c.of.ensures ∙ c.in_ok-kept.ensures in
    subst (λ k. IsSound g.B.Key.PartialEq.eq g.T.Task.query k) (sym is) (g.B.Bank.at c.args.bank.now, refl)

pub put-requires-clause-bucket : goal.put-requires-clause-bucket
put-requires-clause-bucket g c =
    let is = c.of.ensures ∙ c.in_ok-kept.ensures in
    (IfErr-at_err _ c.in-Err.is c.in_ok-found.ensures.missed).2 ∙ ap (bucket_of g.T.Text.Hash.hash_input g.T.Task.hint_of) (sym is)

pub put-requires-clause-gap : goal.put-requires-clause-gap
put-requires-clause-gap g c =
    let is = c.of.ensures ∙ c.in_ok-kept.ensures in
    let order = results_cmp g.T.Text.Ord.cmp (option_cmp g.B.Answer.Ord.cmp) in
    subst (λ k. IsGapAmong (λ other. order other k) c.take_alike.new.shelf.index c.in-Err.gap) (sym is) (IfErr-at_err _ c.in-Err.is c.in_ok-found.ensures.missed).1

pub returns-clause-ok : goal.returns-clause-ok
returns-clause-ok g c =
    let is = c.of.ensures ∙ c.in_ok-kept.ensures in
    let before = ap (λ s. s.stored) (IfErr-at_err _ c.in-Err.is c.in_ok-found.ensures.same) ∙ c.self.view_is in
    c.in_ok-held.ensures.ok ∙ (λ i. grown (before i) (is i ∷ []))

pub returns-clause-meter : goal.returns-clause-meter
returns-clause-meter g c =
    let text = g.T.Task.text_of c.args.task.now in
    let bank = g.B.Bank.at c.args.bank.now in
    let none = (IfErr-at_err _ c.in-Err.is c.in_ok-found.ensures.missed).0 in
    inr (subst (λ s. NoneAlikeAt (text, bank) (results_in s)) c.self.view_is none, c.raise.ensures ∙ ap (λ kind. raised kind c.args.meter.now) c.KIND.ensures)

pub returns-clause-result : goal.returns-clause-result
returns-clause-result g c = c.into_shared.ensures ∙ c.in_ok-held.ensures.result ∙ c.of.ensures ∙ c.in_ok-kept.ensures

pub returns-clause-err : goal.returns-clause-err
returns-clause-err g c = grind (arith, common_steps)

pub returns-in-Ok-clause-err : goal.returns-in-Ok-clause-err
returns-in-Ok-clause-err g c = grind (arith, common_steps)
