-- Step by step: what is left tells.
use Rattle.std.proofs.Common.{Option, flat_map, refl, subst, sym, ap}
use Rattle.std.specs.Prelude.{All}
use Rattle.std.proofs.lemmas.List.Elements.{All-append, All-nil}
use Rattle.idl_memo.proofs.run.Run.shares.Goals as goal

pub steps-init : goal.steps-init
steps-init g c =
    let P : g.row.B-Key.Denot × Option g.row.B-Answer.Denot → Type 0 = λ e. g.D.Digests.has c.args.digests.now (g.B.Key.Digest.digest_of e.0) → ⊥ in
    λ all. subst (All P) (sym c.lent-steps.ensures) all

pub steps-preserved : goal.steps-preserved
steps-preserved g c =
    let f = g.B.Step.Step.logged c.lent-steps.result.0.now in
    let P : g.row.B-Key.Denot × Option g.row.B-Answer.Denot → Type 0 = λ e. g.D.Digests.has c.args.digests.now (g.B.Key.Digest.digest_of e.0) → ⊥ in
    let left = ap (flat_map f) c.in-Some.ensures.some in
    λ all. c.steps.invariant (subst (All P) (sym left) (All-append P (f c.in-Some.step.now) (flat_map f c.in-Some.others) (c.shares.ensures c.if-shares.false) all))

pub returns : goal.returns
returns g c =
    let f = g.B.Step.Step.logged c.lent-steps.result.0.now in
    let P : g.row.B-Key.Denot × Option g.row.B-Answer.Denot → Type 0 = λ e. g.D.Digests.has c.args.digests.now (g.B.Key.Digest.digest_of e.0) → ⊥ in
    λ _. c.steps.invariant (subst (All P) (sym (ap (flat_map f) (c.in_default.ensures.none refl))) (All-nil P))
