-- The files of a project, beside those of a loader.
use Rattle.std.specs.Prelude.{◌≡◌, ℕ, List, All, Some, map}
use Rattle.std.specs.FinMap as finite
use Rattle.idl_source.specs.texts.Cut.{cut_lines}
use Rattle.idl_source.specs.texts.Texts.{Texts}
use Rattle.idl_sources.specs.Compile.{compiled_root}
use Rattle.idl_inputs.specs.Made.{rootless}
use Rattle.idl_inputs.specs.Project.{Inputs}
use Rattle.idl_inputs.specs.WellFormed.{IsWellFormed}
use Rattle.idl_sources.specs.declared.compile.CompiledRoot.{CompiledRoot}
use Rattle.idl_loader.specs.Holding.{Holding, NoFile, Allows, IsFileOf}

-- each file is one that the loader has
abbrev pub AreLoaded : (List ℕ → Holding) → Texts → Type 0
AreLoaded told files =
    (name : List ℕ) (lines : List (List ℕ)) → finite.get files name ≡ Some lines
    → IsFileOf told name lines

-- what these roots ask for and isn't there, the loader hasn't, either
abbrev pub AreComplete : (List ℕ → Holding) → Inputs → List (List ℕ) → Type 0
AreComplete told inputs roots =
    All (λ root. All (λ name. Allows (told name) NoFile) (compiled_root inputs root).absent) roots

-- but for the files the inputs are as before
pub record StaysAsked (before after : Inputs) : Type 0 where
  pub macros : after.macros ≡ before.macros
  pub search : after.search ≡ before.search

-- what these roots compile to over well-formed inputs that all their files were loaded into
pub record AreCompiled (told : List ℕ → Holding) (before after : Inputs) (roots : List (List ℕ))
    (compiled : List CompiledRoot) : Type 0 where
  pub formed : IsWellFormed (rootless after)
  pub rows : compiled ≡ map (compiled_root after) roots
  pub loaded : AreLoaded told after.files
  pub complete : AreComplete told after roots
  pub stays : StaysAsked before after
