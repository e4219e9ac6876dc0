-- The buckets in which kept results are found.
use Rattle.std.specs.Prelude.{◌≡◌, ◌↔◌, ◌⊎◌, ℕ, ◌+◌, ◌*◌, ◌/◌, ◌^◌, List, Option, Contains, fold, slice_get}
use Rattle.std.specs.Hash.FoldHasher as folding
use Rattle.idl_memo.specs.Kept.{Kept}

-- the digest of a text, which is fed to a hasher as these bytes
unfoldable pub digest : {T : Type 0} → (T → List (List ℕ)) → T → ℕ
digest input text = folding.finish (fold folding.write folding.initial (input text))

-- the number of the bucket of a text under a hint: one half tells the hint, the other the text
abbrev pub bucket_at : {T : Type 0} → (T → List (List ℕ)) → T → ℕ → ℕ
bucket_at input text hint = hint / 2 ^ 32 * 2 ^ 32 + digest input text / 2 ^ 32

-- the number of the bucket of a kept result: its hint is that of the first entry of its log
abbrev pub bucket_of : {K V T O : Type 0} → (T → List (List ℕ))
    → (T → Option (K × V) → ℕ) → Kept K V T O → ℕ
bucket_of input hint kept = bucket_at input kept.text (hint kept.text (slice_get kept.log 0))

-- the new list has what the old one has, and the item
pub record AddsOne {X : Type 0} (old new : List X) (item : X) : Type 0 where
  pub has : (x : X) → Contains new x ↔ ((x ≡ item) ⊎ Contains old x)
