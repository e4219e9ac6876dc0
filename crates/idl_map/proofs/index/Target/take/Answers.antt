use Rattle.std.proofs.Common.{◌≡◌, ◌<◌, ℕ, inl, inr, sym, ap, subst, ◌∙◌, arith}
use Rattle.std.specs.Int.{bit_at}
use Rattle.std.proofs.lemmas.Bool.Decides.{eqb_tells}
use Rattle.std.proofs.lemmas.Nat.Bits.{bit_at-zero}
use Rattle.idl_map.specs.Buckets.{FindsIn, IsOf, StandsAt, tag_of}
use Rattle.idl_map.proofs.BucketLemmas.{AreKept-same, AreKept-twice, FindsIn-kept, tag_of_some}
use Rattle.idl_map.proofs.index.Target.take.Goals as goal

pub loop-marks-init : goal.loop-marks-init
loop-marks-init c =
    record {
      kept = AreKept-same c.args.buckets.now;
      taken = λ slot d i of at. inr (c.taken-marks.ensures slot (tag_of d) i (tag_of_some d) at);
    }

pub loop-marks-preserved : goal.loop-marks-preserved
loop-marks-preserved c =
    let old = c.args.buckets.now in
    let before = c.loop-marks.buckets in
    let after = c.put.new.buckets in
    let target = c.args.self.now in
    let number = c.args.number in
    let low = c.lowest-slot.result in
    record {
      kept = AreKept-twice old before after c.loop-marks.invariant.kept c.put.ensures.kept;
      taken = λ slot d i of at. elim (c.loop-marks.invariant.taken slot d i of at) [
        | inl found ↦ inl (FindsIn-kept target.part before after d i c.put.ensures.kept found)
        | inr marked ↦ elim (eqb_tells slot low) [
          | inl t ↦
              let there : StandsAt old number low (tag_of d) i = subst (λ (s : ℕ). StandsAt old number s (tag_of d) i) t.1 at in
              let is : c.place-place.result ≡ i = c.place-place.ensures (tag_of d) i (c.loop-marks.invariant.kept.stands number low (tag_of d) i (tag_of_some d) there) in
              let own : IsOf target.digests.now target.number d c.place-place.result = subst (λ (p : ℕ). IsOf target.digests.now target.number d p) (sym is) of in
              inl (subst (λ (p : ℕ). FindsIn target.part after d p) is (c.put.ensures.put c.if-not-put.false d own))
          | inr f ↦
              let within : slot < 64 = omega (arith, at.below) in
              inr (c.without-marks.ensures.kept slot within f.1 ∙ marked)
        ]
      ];
    }

pub returns-then-not-put-clause-kept : goal.returns-then-not-put-clause-kept
returns-then-not-put-clause-kept c =
    AreKept-twice c.args.buckets.now c.loop-marks.buckets c.put.new.buckets c.loop-marks.invariant.kept c.put.ensures.kept

pub returns-clause-taken : goal.returns-clause-taken
returns-clause-taken c done d i of found = elim (c.loop-marks.invariant.taken found.0 d i of found.1) [
  | inl there ↦ there
  | inr marked ↦ (let none : bit_at c.loop-marks.marks found.0 ≡ 0 = ap (λ m. bit_at m found.0) c.loop-marks-test.false ∙ bit_at-zero found.0 in absurd (omega (arith, none, marked)))
]
