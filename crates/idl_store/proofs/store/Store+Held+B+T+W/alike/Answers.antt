-- What is found is the result there, and where nothing is, none is alike.
use Rattle.std.proofs.Common.{◌≡◌, ◌∙◌, Some, ap, subst}
use Rattle.std.specs.Prelude.{IfNone, IfSome}
use Rattle.std.proofs.lemmas.Option.{IfSome_then}
use Rattle.idl_memo.specs.Kept.{NoneAlikeAt, result_over}
use Rattle.idl_store.specs.Buckets.{bucket_at}
use Rattle.idl_store.specs.Spots.{result_on}
use Rattle.idl_store.specs.Stored.{results_in}
use Rattle.idl_store.proofs.Exactness.{exact_task}
use Rattle.idl_store.proofs.Looking.{found-here, none-among, none-weaker, place-sought}
use Rattle.idl_store.proofs.store.Store+Held+B+T+W.alike.Goals as goal

pub returns-clause-found : goal.returns-clause-found
returns-clause-found g c =
    let exact = exact_task g.T.Text.Ord.cmp g.T.Text.PartialEq.eq g.B.Answer.Ord.cmp g.B.Answer.PartialEq.eq g.B.Key.PartialEq.eq g.met.T.Text.Ord.total g.met.T.Text.Ord.matches_eq g.met.T.Text.Datum.same g.met.B.Answer.Ord.total g.met.B.Answer.Ord.matches_eq g.met.B.Answer.Datum.same g.met.B.Key.Eq.laws.refl g.met.B.Key.Datum.same in
    let query = g.T.Task.query in
    let text = g.T.Task.text_of c.args.task.now in
    let bank = g.B.Bank.at c.args.bank.now in
    subst (λ s. IfSome c.spot.result (λ spot. result_on s spot ≡ Some (result_over g.B.Key.PartialEq.eq query (text, bank)))) c.self.view_is
    (IfSome_then c.spot.result c.spot.ensures.found (λ spot is. is.1 ∙ ap Some (found-here exact query text bank is.0 is.3 is.2)))

pub returns-clause-none : goal.returns-clause-none
returns-clause-none g c =
    let exact = exact_task g.T.Text.Ord.cmp g.T.Text.PartialEq.eq g.B.Answer.Ord.cmp g.B.Answer.PartialEq.eq g.B.Key.PartialEq.eq g.met.T.Text.Ord.total g.met.T.Text.Ord.matches_eq g.met.T.Text.Datum.same g.met.B.Answer.Ord.total g.met.B.Answer.Ord.matches_eq g.met.B.Answer.Datum.same g.met.B.Key.Eq.laws.refl g.met.B.Key.Datum.same in
    let query = g.T.Task.query in
    let text = g.T.Task.text_of c.args.task.now in
    let bank = g.B.Bank.at c.args.bank.now in
    let input = g.T.Text.Hash.hash_input in
    let hint = g.T.Task.hint_of in
    let at = c.bucket_of-bucket.ensures ∙ (λ i. bucket_at input (c.text.ensures i) (c.hint.ensures i)) in
    subst (λ s. IfNone c.spot.result (NoneAlikeAt (text, bank) (results_in s))) c.self.view_is
    (none-weaker c.spot.result (c.spot.ensures.none (result_over g.B.Key.PartialEq.eq query (text, bank)) (place-sought exact query text bank))
    (none-among exact query text bank input hint c.bucket_of-bucket.result at (results_in c.self.inside.shelf.stored)))
