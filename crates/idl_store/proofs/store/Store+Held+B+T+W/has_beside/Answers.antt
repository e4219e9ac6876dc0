-- Those of the bucket are tried, and the others have other texts or hints.
use Rattle.std.proofs.Common.{◌≡◌, ◌∙◌, false, subst, sym}
use Rattle.std.proofs.lemmas.List.Elements.{All-weaker}
use Rattle.std.specs.Prelude.{All, Any, IsTrue}
use Rattle.std.specs.List.{slice_get}
use Rattle.idl_store.specs.Buckets.{bucket_of}
use Rattle.idl_store.specs.Stored.{results_in}
use Rattle.idl_store.proofs.Hinting.{bucket-as}
use Rattle.idl_store.proofs.store.Store+Held+B+T+W.has_beside.Goals as goal

pub returns-clause-some : goal.returns-clause-some
returns-clause-some g c = λ is.
    subst (λ s. Any (λ kept. IsTrue (g.Q.Test.passes c.args.test.now kept)) (results_in s)) c.self.view_is (c.has_passing.ensures.some is)

pub returns-clause-none : goal.returns-clause-none
returns-clause-none g c = λ is.
    let input = g.T.Text.Hash.hash_input in
    let hint = g.T.Task.hint_of in
    let test = g.Q.Test.passes c.args.test.now in
    subst (λ s. All (λ kept. input kept.text ≡ input c.args.text.now → hint kept.text (slice_get kept.log 0) ≡ c.args.hint → test kept ≡ false) (results_in s)) c.self.view_is
    (All-weaker (λ kept. bucket_of input hint kept ≡ c.bucket_of.result → test kept ≡ false)
    (λ kept. input kept.text ≡ input c.args.text.now → hint kept.text (slice_get kept.log 0) ≡ c.args.hint → test kept ≡ false)
    (λ kept none hashed hinted. none (bucket-as input kept.text c.args.text.now (hint kept.text (slice_get kept.log 0)) c.args.hint hashed hinted ∙ sym c.bucket_of.ensures))
    (results_in c.self.inside.shelf.stored) (c.has_passing.ensures.none is))
