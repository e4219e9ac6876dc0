-- Results that came of their tasks are one where nothing in the order tells them apart.
use Rattle.std.proofs.Common.{◌≡◌, ◌∙◌, ◌∷◌, [], OnErr, OnOk, ap, refl, subst, sym}
use Rattle.std.specs.List.{slice_get}
use Rattle.idl_memo.specs.Kept.{IsSound}
use Rattle.idl_store.specs.Buckets.{bucket_at}
use Rattle.idl_store.specs.Stored.{grown}
use Rattle.idl_store.proofs.Exactness.{exact_task}
use Rattle.idl_store.proofs.Searching.{equal-results}
use Rattle.idl_store.proofs.store.Store+Held+B+T+W.put.Goals as goal

pub put_once-requires-clause-sound : goal.put_once-requires-clause-sound
put_once-requires-clause-sound g c = subst (λ k. IsSound g.B.Key.PartialEq.eq g.T.Task.query k) (sym c.of.ensures) c.requires.sound

pub put_once-requires-clause-bucket : goal.put_once-requires-clause-bucket
put_once-requires-clause-bucket g c =
    let input = g.T.Text.Hash.hash_input in
    let text = c.text.ensures ∙ ap (λ k. k.text) (c.deref.ensures ∙ sym c.of.ensures) in
    let hint = c.requires.hint ∙ ap (λ k. g.T.Task.hint_of k.text (slice_get k.log 0)) (sym c.of.ensures) in
    c.bucket_of-bucket.ensures ∙ (λ i. bucket_at input (text i) (hint i))

pub put_once-requires-clause-sought : goal.put_once-requires-clause-sought
put_once-requires-clause-sought g c = λ other sound. refl

pub put_once-requires-clause-same : goal.put_once-requires-clause-same
put_once-requires-clause-same g c = λ other sound found.
    let exact = exact_task g.T.Text.Ord.cmp g.T.Text.PartialEq.eq g.B.Answer.Ord.cmp g.B.Answer.PartialEq.eq g.B.Key.PartialEq.eq g.met.T.Text.Ord.total g.met.T.Text.Ord.matches_eq g.met.T.Text.Datum.same g.met.B.Answer.Ord.total g.met.B.Answer.Ord.matches_eq g.met.B.Answer.Datum.same g.met.B.Key.Eq.laws.refl g.met.B.Key.Datum.same in
    let is = subst (λ k. IsSound g.B.Key.PartialEq.eq g.T.Task.query k) (sym c.of.ensures) c.requires.sound in
    equal-results exact g.T.Task.query other c.of.result sound is found

pub returns-clause-ok : goal.returns-clause-ok
returns-clause-ok g c =
    subst (λ s. OnOk c.put_once.result (c.put_once.new.self.stored ≡ grown s (c.args.kept.value ∷ []))) c.self.view_is
    (subst (λ k. OnOk c.put_once.result (c.put_once.new.self.stored ≡ grown c.self.inside.shelf.stored (k ∷ []))) c.of.ensures c.put_once.ensures.ok)

pub returns-clause-err : goal.returns-clause-err
returns-clause-err g c = subst (λ s. OnErr c.put_once.result (c.put_once.new.self.stored ≡ s)) c.self.view_is c.put_once.ensures.err
