-- Results in lists and drafts, with what finds them.
use Rattle.std.specs.Prelude.{◌≡◌, ℕ, List}
use Rattle.std.specs.declared.cmp.Ordering.{Ordering}
use Rattle.idl_store.specs.Stored.{Stored}
use Rattle.idl_store.specs.declared.index.Numbered.{Numbered}

-- the lists and drafts, and each of their results once, with its number, in its bucket
pub record Shelved (R : Type 0) : Type 0 where
  pub stored : Stored R
  pub index : List (ℕ × List (Numbered R))

-- a look-up is for this one: each that came about as it should stands to what is looked for as to
-- it
abbrev pub IsSought : {R : Type 0} → (R → Type 0) → (R → R → Ordering) → (R → Ordering) → R → Type 0
IsSought {R} is_sound rank stand one =
    (other : R) → is_sound other → stand other ≡ rank other one
