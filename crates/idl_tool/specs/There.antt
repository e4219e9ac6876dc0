-- Which files of two versions are there.
use Rattle.std.specs.Prelude.{◌≡◌, ℕ, Bool, false, true, ◌||◌, List, ◌∷◌, Some, codes, map, not, if◌then◌else◌}
use Rattle.std.specs.List.{AllZip}
use Rattle.idl_source.specs.names.Path.{joined_path}
use Rattle.idl_loader.specs.Holding.{Allows, File, Holding, NoFile}
use Rattle.idl_driver.specs.declared.options.Options.{Options}

-- what is told of a file lets it be there, or not
abbrev pub Has : Holding → Bool → Type 0
Has told true = (bytes : List ℕ) × Allows told (File bytes)
Has told false = Allows told NoFile

-- and this is the file to which a FILE leads
abbrev pub IsHad : (List ℕ → Holding) → List ℕ → Bool → Type 0
IsHad told file is =
    (name : List ℕ) × (joined_path (codes ".") file ≡ Some name) × Has (told name) is

-- FILEs of a version without those that it hasn't and the other one has
abbrev pub kept : (had others : List Bool) → List (List ℕ) → List (List ℕ)
kept (is ∷ had) (other ∷ others) (file ∷ files) =
    if is || not other then file ∷ kept had others files else kept had others files
kept had others files = files

-- of FILEs of two versions that belong together those are left that aren't missing in one alone
pub record ArePairs (told : List ℕ → Holding) (old new kept_old kept_new : List (List ℕ))
    : Type 0 where
  pub was : List Bool
  pub is : List Bool
  pub was_told : AllZip (IsHad told) old was
  pub is_told : AllZip (IsHad told) new is
  pub old_kept : kept_old ≡ kept was is old
  pub new_kept : kept_new ≡ kept is was new

-- of others all
abbrev pub AreThere :
    Bool → (List ℕ → Holding) → (old new kept_old kept_new : List (List ℕ)) → Type 0
AreThere true told old new kept_old kept_new = ArePairs told old new kept_old kept_new
AreThere false told old new kept_old kept_new = (kept_old ≡ old) × (kept_new ≡ new)

-- the FILEs that options have
abbrev pub files_of : Options → List (List ℕ)
files_of options = map (λ w. w.now) options.files.items
