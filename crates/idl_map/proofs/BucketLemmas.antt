-- Digests in buckets.
use Rattle.std.proofs.Common.{◌≡◌, ◌≢◌, ◌<◌, ◌≤◌, ◌+◌, ◌-◌, ◌/◌, ◌%◌, ◌^◌, ℕ, Bool, true, false, cond, inl, inr, ◌⊎◌, Some, bit_and, bit_xor, get_or, slice_get, refl, sym, subst, ◌∙◌, arith}
use Rattle.std.proofs.Math.Dec.{eqb}
use Rattle.std.proofs.lemmas.Bool.Decides.{eqb_tells}
use Rattle.std.proofs.lemmas.Nat.{and_le_r}
use Rattle.std.proofs.lemmas.Option.{same_Some, slice_get_read}
use Rattle.idl_map.specs.declared.buckets.Buckets.{Buckets}
use Rattle.idl_map.specs.declared.index.Index.{Index}
use Rattle.idl_map.specs.declared.index.Stripe.{Stripe}
use Rattle.idl_map.specs.declared.index.Slot.{Slot}
use Rattle.idl_map.specs.Buckets.{AreKept, AreThere, FindsIn, HasAt, IsFull, IsIndexed, IsSpot, IsThere, Stands, StandsAt, StandsIn, number_beside, number_in, tag_of}

-- no digest has the tag 0
pub tag_of_some : (digest : ℕ) → 0 < tag_of digest
unfolding tag_of
tag_of_some digest = by (eqb (digest / 2 ^ 56) 0) (eqb_tells (digest / 2 ^ 56) 0)
  where
    by : (b : Bool) → ((eqb (digest / 2 ^ 56) 0 ≡ true) × (digest / 2 ^ 56 ≡ 0)) ⊎ ((eqb (digest / 2 ^ 56) 0 ≡ false) × (digest / 2 ^ 56 ≢ 0)) → 0 < cond (eqb (digest / 2 ^ 56) 0) 1 (digest / 2 ^ 56)
    by b (inl t) = subst (λ c. 0 < cond c 1 (digest / 2 ^ 56)) (sym t.0) (omega arith)
    by b (inr f) = let some : 0 < digest / 2 ^ 56 = omega (arith, f.1) in subst (λ c. 0 < cond c 1 (digest / 2 ^ 56)) (sym f.0) some

-- the part read at a digest is its own
pub own-chosen : (index : Index) (digest : ℕ) (own : Stripe) → IsIndexed index → own ≡ get_or index.parts.items (digest % 64) own
    → slice_get index.parts.items (digest % 64) ≡ Some own
own-chosen index digest own sound read =
    let within : digest % 64 < 64 = omega arith in
    slice_get_read index.parts.items 64 (digest % 64) own (sym sound.parts) within read

-- each bucket keeps what it has, and what is kept twice is kept
pub AreKept-same : (a : Buckets) → AreKept a a
AreKept-same a =
    record {
      stands = λ number slot tag place some at. at;
      full = λ number full. full;
      there = λ number there. there;
    }

pub AreKept-twice : (a b c : Buckets) → AreKept a b → AreKept b c → AreKept a c
AreKept-twice a b c first then =
    record {
      stands = λ number slot tag place some at. then.stands number slot tag place some (first.stands number slot tag place some at);
      full = λ number full. then.full number (first.full number full);
      there = λ number there. then.there number (first.there number there);
    }

-- the buckets of a part stay there
pub AreThere-kept : (part : Stripe) (old new : Buckets) → AreKept old new → AreThere old part → AreThere new part
AreThere-kept part old new kept there ahead within = kept.there (part.first + ahead) (there ahead within)

-- what a digest finds it finds later too
pub FindsIn-kept : (part : Stripe) (old new : Buckets) (digest place : ℕ) → AreKept old new → FindsIn part old digest place → FindsIn part new digest place
FindsIn-kept part old new digest place kept found = (
  found.0,
  elim found.1 [
    | inl here ↦ inl (kept.stands (number_in part digest) found.0 (tag_of digest) place (tag_of_some digest) here)
    | inr beside ↦ inr ((kept.full (number_in part digest) beside.0.0, beside.0.1), kept.stands (number_beside part digest) (found.0 - 16) (tag_of digest) place (tag_of_some digest) beside.1)
  ],
)

-- what has been put in beside a full bucket is found
pub FindsIn-beside : (part : Stripe) (buckets : Buckets) (digest place : ℕ) → IsFull buckets (number_in part digest)
    → HasAt buckets (number_beside part digest) (tag_of digest) place → FindsIn part buckets digest place
FindsIn-beside part buckets digest place full found =
    let is : 16 + found.0 - 16 ≡ found.0 = omega arith in
    (16 + found.0, inr ((full, omega arith), subst (λ (s : ℕ). StandsAt buckets (number_beside part digest) s (tag_of digest) place) (sym is) found.1))

-- a bucket is one of a part
pub record IsAhead (part : Stripe) (number : ℕ) : Type 0 where
  pub ahead : ℕ
  pub below : ahead < part.mask + 1
  pub is : number ≡ part.first + ahead

-- the bucket of a digest is one of its part, and the one beside it is
pub number_ahead : (part : Stripe) (digest : ℕ) → IsAhead part (number_in part digest)
unfolding number_in
number_ahead part digest =
    let low : bit_and (digest / 2 ^ 32 % 2 ^ 32) part.mask ≤ part.mask = and_le_r (digest / 2 ^ 32 % 2 ^ 32) part.mask in
    record {
      ahead = bit_and (digest / 2 ^ 32 % 2 ^ 32) part.mask;
      below = omega arith;
      is = refl;
    }

pub beside_ahead : (part : Stripe) (digest : ℕ) → IsAhead part (number_beside part digest)
unfolding number_beside
beside_ahead part digest =
    let low : bit_and (bit_xor (digest / 2 ^ 32 % 2 ^ 32) 1) part.mask ≤ part.mask = and_le_r (bit_xor (digest / 2 ^ 32 % 2 ^ 32) 1) part.mask in
    record {
      ahead = bit_and (bit_xor (digest / 2 ^ 32 % 2 ^ 32) 1) part.mask;
      below = omega arith;
      is = refl;
    }

-- so they are there where those of the part are
pub number-there : (part : Stripe) (buckets : Buckets) (digest : ℕ) → AreThere buckets part → IsThere buckets (number_in part digest)
number-there part buckets digest there = (let on = number_ahead part digest in subst (IsThere buckets) (sym on.is) (there on.ahead on.below))

pub beside-there : (part : Stripe) (buckets : Buckets) (digest : ℕ) → AreThere buckets part → IsThere buckets (number_beside part digest)
beside-there part buckets digest there = (let on = beside_ahead part digest in subst (IsThere buckets) (sym on.is) (there on.ahead on.below))

pub spot-there : (index : Index) (spot : Slot) → IsSpot index.parts.items spot → IsIndexed index → IsThere index.buckets spot.number
spot-there index spot chosen sound =
    subst (IsThere index.buckets) (sym chosen.number) (number-there chosen.part index.buckets spot.digest (sound.there (spot.digest % 64) chosen.part chosen.chosen))

-- each place of a spot's digest stands in one of its slots, which are 32
pub spot-stands : (index : Index) (spot : Slot) → IsSpot index.parts.items spot → IsIndexed index → (i : ℕ) → slice_get index.digests.items i ≡ Some spot.digest
    → (slot : ℕ) × Stands index spot.digest slot i
spot-stands index spot chosen sound i at = (let found = sound.finds spot.digest i at chosen.part chosen.chosen in (found.0, (chosen.part, (chosen.chosen, found.1))))

pub Stands-below : (index : Index) (digest slot place : ℕ) → Stands index digest slot place → slot < 64
Stands-below index digest slot place at = elim at.1.1 [
  | inl here ↦ omega (arith, here.below)
  | inr beside ↦ omega (arith, beside.0.1, beside.1.below)
]

-- what stands in a slot of a spot stands in its bucket with its tag, or where that is full, in the one beside it
pub spot-at : (index : Index) (spot : Slot) (chosen : IsSpot index.parts.items spot) → (slot place : ℕ) → Stands index spot.digest slot place
    → StandsAt index.buckets spot.number slot spot.tag place
    ⊎ ((IsFull index.buckets spot.number × (16 ≤ slot)) × StandsAt index.buckets (number_beside chosen.part spot.digest) (slot - 16) (tag_of spot.digest) place)
spot-at index spot chosen slot place at =
    let own = subst (λ (p : Stripe). StandsIn p index.buckets spot.digest slot place) (same_Some at.0 chosen.part (sym at.1.0 ∙ chosen.chosen)) at.1.1 in
    elim own [
      | inl here ↦
          inl (subst (λ (n : ℕ). StandsAt index.buckets n slot spot.tag place) (sym chosen.number)
          (subst (λ (t : ℕ). StandsAt index.buckets (number_in chosen.part spot.digest) slot t place) (sym chosen.tag) here))
      | inr beside ↦ inr ((subst (λ (n : ℕ). IsFull index.buckets n) (sym chosen.number) beside.0.0, beside.0.1), beside.1)
    ]

-- an index stays one where its buckets are kept
pub IsIndexed-kept : (index : Index) (new : Buckets) → IsIndexed index → AreKept index.buckets new
    → IsIndexed (record { digests = index.digests; parts = index.parts; buckets = new })
IsIndexed-kept index new sound kept =
    record {
      parts = sound.parts;
      there = λ number part is. AreThere-kept part index.buckets new kept (sound.there number part is);
      finds = λ d i at part is. FindsIn-kept part index.buckets new d i kept (sound.finds d i at part is);
    }
