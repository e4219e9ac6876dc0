-- Results with their numbers, in buckets, and in order in each bucket.
use Rattle.std.specs.Prelude.{◌≡◌, ◌↔◌, ◌⊎◌, ◌≤◌, ℕ, List, [], ◌∷◌, All, Contains, Vec, map, length, nat_eq, take, drop}
use Rattle.std.specs.Global.{Global}
use Rattle.std.specs.HashMap.{HashMap}
use Rattle.std.specs.Map.{lookup}
use Rattle.std.specs.Option.{unwrap_or}
use Rattle.std.specs.declared.cmp.Ordering.{Ordering}
use Rattle.std.specs.declared.cmp.Ordering.TheVariants.{Less, Greater}
use Rattle.idl_store.specs.declared.index.Gap.{Gap}
use Rattle.idl_store.specs.declared.index.Numbered.{Numbered}

-- each item comes before all behind it
abbrev pub AreInOrder : {X : Type 0} → (X → X → Ordering) → List X → Type 0
AreInOrder cmp [] = Unit {0}
AreInOrder cmp (x ∷ xs) = All (λ y. cmp x y ≡ Less) xs × AreInOrder cmp xs

-- a place among items: those before it come before what is looked for, and the others behind it
pub record IsGap {X : Type 0} (order : X → Ordering) (items : List X) (place : ℕ) : Type 0 where
  pub within : place ≤ length items
  pub before : All (λ y. order y ≡ Less) (take place items)
  pub behind : All (λ y. order y ≡ Greater) (drop place items)

module _ {R : Type 0} where
  -- buckets as they stand in a map: each with its number, and its results in their order
  abbrev pub buckets_of : {S : Type 0} → HashMap ℕ (Vec (Numbered R) Global) S
      → List (ℕ × List (Numbered R))
  buckets_of buckets =
      map (λ (e : ℕ × Vec (Numbered R) Global). (e.0, e.1.items)) buckets.entries

  -- the results of the bucket of a number; none where there is no such bucket
  abbrev pub bucket_in : List (ℕ × List (Numbered R)) → ℕ → List (Numbered R)
  bucket_in buckets bucket = unwrap_or (lookup (nat_eq bucket) buckets) []

  -- a result with its number
  abbrev pub numbered : R → ℕ → Numbered R
  numbered result number = record { result = result; number = number }

  -- the order of results, whatever their numbers
  abbrev pub numbered_cmp : (R → R → Ordering) → Numbered R → Numbered R → Ordering
  numbered_cmp cmp one other = cmp one.result other.result

  -- the results of each bucket are in their order
  abbrev pub IsInOrder : (R → R → Ordering) → List (ℕ × List (Numbered R)) → Type 0
  IsInOrder cmp buckets =
      (bucket : ℕ) → AreInOrder (numbered_cmp cmp) (bucket_in buckets bucket)

  -- where a result of this order would go, between those of its bucket
  abbrev pub IsGapAmong : (R → Ordering) → List (ℕ × List (Numbered R)) → Gap → Type 0
  IsGapAmong order buckets gap =
      IsGap (λ one. order one.result) (bucket_in buckets gap.bucket) gap.place

  -- a number is that of one result among these
  abbrev pub IsAlone : ℕ → List (Numbered R) → Type 0
  IsAlone number results =
      (one other : Numbered R) → Contains results one → Contains results other
      → one.number ≡ number → other.number ≡ number → one.result ≡ other.result

  -- the new buckets have what the old ones have, and in this one the item
  pub record AddsTo (old new : List (ℕ × List (Numbered R))) (bucket : ℕ) (item : Numbered R)
      : Type 0 where
    pub has : (b : ℕ) (one : Numbered R) → Contains (bucket_in new b) one
        ↔ (((b ≡ bucket) × (one ≡ item)) ⊎ Contains (bucket_in old b) one)
