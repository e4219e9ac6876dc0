use Rattle.std.proofs.Common.{◌≡◌, ◌<◌, ℕ, true≢false, Some, inl, inr, slice_get, sym, ap, subst, ◌∙◌, arith}
use Rattle.std.specs.Map.{keys_of}
use Rattle.std.specs.Int.{bit_at}
use Rattle.std.proofs.lemmas.Nat.Bits.{bit_at-zero}
use Rattle.std.proofs.lemmas.Bool.Decides.{eqb_tells}
use Rattle.std.proofs.lemmas.Option.{none-some, same_Some}
use Rattle.idl_map.specs.Buckets.{Stands}
use Rattle.idl_map.proofs.BucketLemmas.{Stands-below, spot-stands}
use Rattle.idl_map.proofs.PlaceLemmas.{digest-at}
use Rattle.idl_map.proofs.arena.Arena.place_at.Goals as goal

pub returns-then-is_at : goal.returns-then-is_at
returns-then-is_at g c i =
    let arena = c.args.self.now in
    let key = g.L.Lent.key c.args.key.now in
    let place = c.place-place.result in
    let at : slice_get (keys_of arena.entries.items) place ≡ Some key = c.is_at.ensures.0 c.if-is_at.true in (
      λ h. ap (slice_get (keys_of arena.entries.items)) (sym (same_Some place i h)) ∙ at,
      λ h. ap Some (c.requires.sound.distinct key place i at h),
    )

pub loop-marks-init : goal.loop-marks-init
loop-marks-init g c slot i at = inr (c.marked-marks.ensures slot i at)

pub loop-marks-preserved : goal.loop-marks-preserved
loop-marks-preserved g c slot i at =
    let arena = c.args.self.now in
    let key = g.L.Lent.key c.args.key.now in
    let spot = c.args.spot in
    let low = c.lowest-slot.result in
    elim (c.loop-marks.invariant slot i at) [
      | inl other ↦ inl other
      | inr marked ↦ elim (eqb_tells slot low) [
        | inl t ↦
            let is : c.place-place.result ≡ i = c.place-place.ensures i (subst (λ (s : ℕ). Stands arena.index spot.digest s i) t.1 at) in
            inl (λ here. absurd (true≢false (sym (c.is_at.ensures.1 (ap (slice_get (keys_of arena.entries.items)) is ∙ here)) ∙ c.if-is_at.false)))
        | inr f ↦
            let within : slot < 64 = Stands-below arena.index spot.digest slot i at in
            inr (c.without-marks.ensures.kept slot within f.1 ∙ marked)
      ]
    ]

pub returns : goal.returns
returns g c i =
    let arena = c.args.self.now in
    let keys = keys_of arena.entries.items in
    let key = g.L.Lent.key c.args.key.now in (
      λ h. absurd (none-some i h),
      λ h.
          let digest : slice_get arena.index.digests.items i ≡ Some c.args.spot.digest =
          digest-at g.K.Digest.digest_of arena.index.digests.items keys i key c.requires.sound.digests h ∙ ap Some (sym c.requires.digest) in
          let found = spot-stands arena.index c.args.spot c.requires.spot c.requires.sound.indexed i digest in
          elim (c.loop-marks.invariant found.0 i found.1) [
            | inl other ↦ absurd (other h)
            | inr marked ↦ (let none : bit_at c.loop-marks.marks found.0 ≡ 0 = ap (λ m. bit_at m found.0) c.loop-marks-test.false ∙ bit_at-zero found.0 in absurd (omega (arith, none, marked)))
          ],
    )
