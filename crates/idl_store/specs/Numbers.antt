-- The numbers under which results are kept, and how often each is used.
use Rattle.std.specs.Prelude.{◌≡◌, ◌≢◌, ◌↔◌, ℕ, ◌+◌, ◌<◌, List, [], ◌∷◌, Option, None, Some, IsSome, Contains, Vec, if◌then◌else◌, map, filter_map, nat_eq}
use Rattle.std.specs.Global.{Global}
use Rattle.std.specs.List.{flat_map}
use Rattle.std.specs.Option.{option_map}
use Rattle.slab.specs.Slab.{Slab, get}
use Rattle.idl_store.specs.Index.{bucket_in}
use Rattle.idl_store.specs.Stored.{Stored, results_in}
use Rattle.idl_store.specs.declared.index.Numbered.{Numbered}
use Rattle.idl_store.specs.declared.numbers.Draft.{Draft}
use Rattle.idl_store.specs.declared.numbers.Used.{Used}

-- how often a number is among others
abbrev pub times : ℕ → List ℕ → ℕ
times n [] = 0
times n (m ∷ ms) = (if nat_eq n m then 1 else 0) + times n ms

-- the numbers of lists, one list after another
abbrev pub joined : List (List ℕ) → List ℕ
joined lists = flat_map (λ list. list) lists

-- lists of numbers
abbrev pub lists_of : List (Vec ℕ Global) → List (List ℕ)
lists_of lists = map (λ l. l.items) lists

-- drafts by their numbers
abbrev pub drafts_of : List Draft → List (ℕ × List ℕ)
drafts_of drafts = map (λ d. (d.at, d.numbers.items)) drafts

-- both
abbrev pub numbers_of : List (Vec ℕ Global) → List Draft → Stored ℕ
numbers_of lists drafts = record { lists = lists_of lists; drafts = drafts_of drafts }

-- the same with what each number stands for; a number that stands for nothing is left out
abbrev pub shown : {X : Type 0} → (ℕ → Option X) → Stored ℕ → Stored X
shown of numbers =
    record {
      lists = map (filter_map of) numbers.lists;
      drafts = map (λ d. (d.0, filter_map of d.1)) numbers.drafts;
    }

module _ {R : Type 0} where
  -- a result, and in which bucket of the index it is
  abbrev pub with_bucket : Used R → R × ℕ
  with_bucket u = (u.result, u.bucket)

  -- the same of what is kept under a number
  abbrev pub kept_at : Slab (Used R) → ℕ → Option (R × ℕ)
  kept_at used n = option_map with_bucket (get used n)

  -- at how many places it is used, as it is noted
  abbrev pub uses_of : Slab (Used R) → ℕ → ℕ
  uses_of used n = elim (get used n) [ None ↦ 0 | Some u ↦ u.uses ]

  -- whatever is kept is used
  abbrev pub AreUsed : Slab (Used R) → Type 0
  AreUsed used = (n : ℕ) → IsSome (get used n) → 0 < uses_of used n

  -- nothing else is kept, and the uses are more by those that these numbers have beyond those
  pub record AreMore (old new : Slab (Used R)) (before after : List ℕ) : Type 0 where
    pub uses : (n : ℕ) → uses_of new n + times n before ≡ uses_of old n + times n after
    pub kept : (n : ℕ) → kept_at new n ≡ kept_at old n

  -- a result more is kept, under a number that was free, and is used once
  pub record IsPut (old new : Slab (Used R)) (result : R) (bucket number : ℕ) : Type 0 where
    pub free : get old number ≡ None
    pub place : ℕ
    pub changed : get new number
        ≡ Some (record { result = result; uses = 1; bucket = bucket; place = place })
    pub others : (n : ℕ) → n ≢ number → get new n ≡ get old n

  -- the uses are fewer by those of these numbers, and what is used still is kept still
  pub record AreFewer (old new : Slab (Used R)) (numbers : List ℕ) : Type 0 where
    pub uses : (n : ℕ) → uses_of new n + times n numbers ≡ uses_of old n
    pub kept : (n : ℕ) → 0 < uses_of new n → kept_at new n ≡ kept_at old n

  -- the result under a number
  abbrev pub result_of : Slab (Used R) → ℕ → Option R
  result_of used n = option_map (λ (r : R × ℕ). r.0) (kept_at used n)

  -- the index has each result that is kept, in its bucket, with its number, and no other
  abbrev pub IsIndexOf : Slab (Used R) → List (ℕ × List (Numbered R)) → Type 0
  IsIndexOf used index =
      (b : ℕ) (one : Numbered R)
      → Contains (bucket_in index b) one ↔ (kept_at used one.number ≡ Some (one.result, b))

  -- it came about as it should, and is in its bucket
  pub record IsSoundAt (is_sound : R → Type 0) (bucket : R → ℕ) (kept : R × ℕ) : Type 0 where
    pub sound : is_sound kept.0
    pub at : kept.1 ≡ bucket kept.0

  module _ (is_sound : R → Type 0) (bucket : R → ℕ) where
    -- the results of the lists and drafts are kept, each once, are counted and found, and came
    -- about as they should
    pub record IsStored (used : Slab (Used R)) (index : List (ℕ × List (Numbered R)))
        (numbers : Stored ℕ) : Type 0 where
      pub counted : (n : ℕ) → uses_of used n ≡ times n (results_in numbers)
      pub needed : AreUsed used
      pub indexed : IsIndexOf used index
      pub sound : (n : ℕ) (kept : R × ℕ) → kept_at used n ≡ Some kept
          → IsSoundAt is_sound bucket kept
