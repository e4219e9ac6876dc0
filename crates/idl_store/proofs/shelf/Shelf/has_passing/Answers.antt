-- Those of the bucket are tried.
use Rattle.std.proofs.Common.{◌≡◌, ◌∙◌, false, ap, sym}
use Rattle.std.proofs.lemmas.List.Elements.{All-weaker}
use Rattle.std.specs.Prelude.{Any}
use Rattle.idl_store.specs.Stored.{results_in}
use Rattle.idl_store.proofs.Tested.{kept-there, none-passes, some-passes, those-kept}
use Rattle.idl_store.proofs.shelf.Shelf.has_passing.Goals as goal

pub returns-clause-some : goal.returns-clause-some
returns-clause-some g c = λ is.
    let stored = c.args.self.now.stored in
    some-passes (g.Q.Test.passes c.args.test.now) c.bucket.result.now (results_in stored)
    (those-kept c.self.invariant.0 c.args.bucket c.bucket.result.now c.bucket.ensures.value stored (ap (λ s. s.stored) c.self.view_is)) (sym c.has_passing.ensures ∙ is)

pub returns-clause-none : goal.returns-clause-none
returns-clause-none g c = λ is.
    let stored = c.args.self.now.stored in
    let test = g.Q.Test.passes c.args.test.now in
    All-weaker (λ one. g.R.Ranked.bucket one ≡ c.args.bucket → Any (λ other. other.result ≡ one) c.bucket.result.now) (λ one. g.R.Ranked.bucket one ≡ c.args.bucket → test one ≡ false)
    (λ one there here. none-passes test c.bucket.result.now (sym c.has_passing.ensures ∙ is) one (there here)) (results_in stored)
    (kept-there c.self.invariant.0 c.args.bucket c.bucket.result.now c.bucket.ensures.value stored (ap (λ s. s.stored) c.self.view_is))
