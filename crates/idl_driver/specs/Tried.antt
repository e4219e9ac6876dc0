-- Names that were tried: files that were loaded, and names that are missing.
use Rattle.std.specs.Prelude.{◌≡◌, ℕ, List, All, Contains}
use Rattle.idl_inputs.specs.Project.{Inputs}
use Rattle.idl_sources.specs.declared.compile.CompiledRoot.{CompiledRoot}
use Rattle.idl_loader.specs.Holding.{Holding, NoFile, Allows}
use Rattle.idl_driver.specs.Loading.{AreLoaded, StaysAsked}
use Rattle.idl_driver.specs.declared.loading.Loading.{Loading}

-- each file is one that the loader has, and what is noted as missing, it hasn't
pub record IsTrue (told : List ℕ → Holding) (inputs : Inputs) (missing : List (List ℕ))
    : Type 0 where
  pub loaded : AreLoaded told inputs.files
  pub absent : All (λ name. Allows (told name) NoFile) missing

-- names were tried, and the loader tells what it told before
pub record AreTried (told still : List ℕ → Holding) (old new : Inputs)
    (missing_before missing_after : List (List ℕ)) : Type 0 where
  pub stays_told : still ≡ told
  pub stays_true : IsTrue told old missing_before → IsTrue told new missing_after
  pub stays : StaysAsked old new

abbrev pub IsLoading : (List ℕ → Holding) → (List ℕ → Holding) → Loading → Loading → Type 0
IsLoading told still old new =
    AreTried told still old.sources new.sources old.missing.keys new.missing.keys

-- what these compiled roots ask for and isn't there was tried, and is missing
abbrev pub AreMissing : List (List ℕ) → List CompiledRoot → Type 0
AreMissing missing compiled =
    All (λ root. All (λ name. Contains missing name) root.absent) compiled
