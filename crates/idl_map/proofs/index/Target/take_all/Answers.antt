use Rattle.std.proofs.Common.{◌<◌, ◌+◌, ◌-◌, ℕ, inl, inr, subst, arith}
use Rattle.idl_map.specs.Buckets.{StandsAt, tag_of}
use Rattle.idl_map.proofs.BitLemmas.{below_next}
use Rattle.idl_map.proofs.BucketLemmas.{AreKept-twice, FindsIn-kept, beside_ahead, number_ahead, tag_of_some}
use Rattle.idl_map.proofs.index.Target.take_all.Goals as goal

pub returns-then-not-take-clause-kept : goal.returns-then-not-take-clause-kept
returns-then-not-take-clause-kept c =
    AreKept-twice c.args.buckets.now c.loop-ahead.buckets c.take.new.buckets c.loop-ahead.invariant.kept c.take.ensures.kept

pub loop-ahead-preserved : goal.loop-ahead-preserved
loop-ahead-preserved c =
    let old = c.args.buckets.now in
    let before = c.loop-ahead.buckets in
    let after = c.take.new.buckets in
    let target = c.args.self.now in
    let first = c.args.old.first in
    record {
      kept = AreKept-twice old before after c.loop-ahead.invariant.kept c.take.ensures.kept;
      taken = λ d i n below of at. elim (below_next n c.loop-ahead.ahead below) [
        | inl low ↦ FindsIn-kept target.part before after d i c.take.ensures.kept (c.loop-ahead.invariant.taken d i n low of at)
        | inr here ↦
            c.take.ensures.taken c.if-not-take.false d i of (
              at.0,
              c.loop-ahead.invariant.kept.stands (first + c.loop-ahead.ahead) at.0 (tag_of d) i (tag_of_some d)
                  (subst (λ (m : ℕ). StandsAt old (first + m) at.0 (tag_of d) i) here at.1),
            )
      ];
    }

pub returns-clause-taken : goal.returns-clause-taken
returns-clause-taken c done d i of found = elim found.1 [
  | inl here ↦
      let on = number_ahead c.args.old d in
      let all : on.ahead < c.loop-ahead.ahead = omega (arith, on.below, c.loop-ahead-test.false) in
      c.loop-ahead.invariant.taken d i on.ahead all of (found.0, subst (λ (n : ℕ). StandsAt c.args.buckets.now n found.0 (tag_of d) i) on.is here)
  | inr beside ↦
      let on = beside_ahead c.args.old d in
      let all : on.ahead < c.loop-ahead.ahead = omega (arith, on.below, c.loop-ahead-test.false) in
      c.loop-ahead.invariant.taken d i on.ahead all of (found.0 - 16, subst (λ (n : ℕ). StandsAt c.args.buckets.now n (found.0 - 16) (tag_of d) i) on.is beside.1)
]
