-- Buckets, in which digests find the places of entries.
use Rattle.std.specs.Prelude.{◌≡◌, ℕ, ◌+◌, ◌/◌, ◌%◌, ◌^◌, ◌<◌, ◌≤◌, ◌-◌, ◌==◌, ◌⊎◌, List, [], Some, bit_and, bit_xor, length, slice_get, slice_index, slice_index_or, if◌then◌else◌}
use Rattle.idl_map.specs.declared.buckets.Buckets.{Buckets}
use Rattle.idl_map.specs.declared.index.Stripe.{Stripe}
use Rattle.idl_map.specs.declared.index.Index.{Index}
use Rattle.idl_map.specs.declared.index.Slot.{Slot}

-- the tag of a digest: its first eight bits, but 1 where these are 0
unfoldable pub tag_of : ℕ → ℕ
tag_of digest = if digest / 2 ^ 56 == 0 then 1 else digest / 2 ^ 56

-- the tags of a bucket and its places, by its number
abbrev pub tags_at : Buckets → ℕ → List ℕ
tags_at buckets number = slice_index_or buckets.tags.items number []

abbrev pub places_at : Buckets → ℕ → List ℕ
places_at buckets number = slice_index_or buckets.places.items number []

-- a place stands in a slot of a bucket with this tag
pub record StandsAt (buckets : Buckets) (number slot tag place : ℕ) : Type 0 where
  pub among_tags : number < length buckets.tags.items
  pub among_places : number < length buckets.places.items
  pub below : slot < 16
  pub tagged : slice_index (tags_at buckets number) slot ≡ tag
  pub placed : slice_index (places_at buckets number) slot ≡ place

-- it stands in one of its slots
abbrev pub HasAt : Buckets → ℕ → ℕ → ℕ → Type 0
HasAt buckets number tag place = (slot : ℕ) × StandsAt buckets number slot tag place

-- there is such a bucket
abbrev pub IsThere : Buckets → ℕ → Type 0
IsThere buckets number =
    (number < length buckets.tags.items) × (number < length buckets.places.items)

-- its last slot isn't empty, which is the last to be taken
abbrev pub IsFull : Buckets → ℕ → Type 0
IsFull buckets number =
    (number < length buckets.tags.items) × (0 < slice_index (tags_at buckets number) 15)

-- there are the buckets of a part
abbrev pub AreThere : Buckets → Stripe → Type 0
AreThere buckets part = (ahead : ℕ) → ahead < part.mask + 1 → IsThere buckets (part.first + ahead)

-- what stands in a slot stands there later too, a full bucket stays full, and none is taken away
pub record AreKept (old new : Buckets) : Type 0 where
  pub stands : (number slot tag place : ℕ) → 0 < tag → StandsAt old number slot tag place
      → StandsAt new number slot tag place
  pub full : (number : ℕ) → IsFull old number → IsFull new number
  pub there : (number : ℕ) → IsThere old number → IsThere new number

-- the number of the bucket of a digest in its part
unfoldable pub number_in : Stripe → ℕ → ℕ
number_in part digest = part.first + bit_and (digest / 2 ^ 32 % 2 ^ 32) part.mask

-- and of the one beside it
unfoldable pub number_beside : Stripe → ℕ → ℕ
number_beside part digest = part.first + bit_and (bit_xor (digest / 2 ^ 32 % 2 ^ 32) 1) part.mask

-- a place stands in a slot of a digest in a part: sixteen are those of its bucket, and where that is
-- full, those of the one beside it are behind them
abbrev pub StandsIn : Stripe → Buckets → ℕ → ℕ → ℕ → Type 0
StandsIn part buckets digest slot place =
    StandsAt buckets (number_in part digest) slot (tag_of digest) place
    ⊎ ((IsFull buckets (number_in part digest) × (16 ≤ slot))
    × StandsAt buckets (number_beside part digest) (slot - 16) (tag_of digest) place)

-- a digest finds a place in one of its slots
abbrev pub FindsIn : Stripe → Buckets → ℕ → ℕ → Type 0
FindsIn part buckets digest place = (slot : ℕ) × StandsIn part buckets digest slot place

-- a digest stands at this place of digests, and chooses the part with this number
abbrev pub IsOf : List ℕ → ℕ → ℕ → ℕ → Type 0
IsOf digests number digest place =
    (slice_get digests place ≡ Some digest) × (digest % 64 ≡ number)

-- a place stands in a slot of a digest in the part that it chooses
abbrev pub Stands : Index → ℕ → ℕ → ℕ → Type 0
Stands index digest slot place =
    (part : Stripe) × ((slice_get index.parts.items (digest % 64) ≡ Some part)
    × StandsIn part index.buckets digest slot place)

-- a digest finds a place in the part that it chooses
abbrev pub Finds : Index → ℕ → ℕ → Type 0
Finds index digest place =
    (part : Stripe) → slice_get index.parts.items (digest % 64) ≡ Some part
    → FindsIn part index.buckets digest place

-- a spot has the bucket of its digest, in the part that this chooses, and its tag
pub record IsSpot (parts : List Stripe) (spot : Slot) : Type 0 where
  pub part : Stripe
  pub chosen : slice_get parts (spot.digest % 64) ≡ Some part
  pub number : spot.number ≡ number_in part spot.digest
  pub tag : spot.tag ≡ tag_of spot.digest

-- each digest finds its place in the part that it chooses, one of 64, and there are the buckets of each
pub record IsIndexed (index : Index) : Type 0 where
  pub parts : length index.parts.items ≡ 64
  pub there : (number : ℕ) (part : Stripe) → slice_get index.parts.items number ≡ Some part
      → AreThere index.buckets part
  pub finds : (digest place : ℕ) → slice_get index.digests.items place ≡ Some digest
      → Finds index digest place
