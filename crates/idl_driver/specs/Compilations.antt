-- The files that options ask for, compiled.
use Rattle.std.specs.Prelude.{◌≡◌, ℕ, List, length, map}
use Rattle.idl_sources.specs.Compile.{compiled_root}
use Rattle.idl_inputs.specs.Made.{rootless}
use Rattle.idl_inputs.specs.WellFormed.{IsWellFormed}
use Rattle.idl_loader.specs.Holding.{Holding}
use Rattle.idl_driver.specs.Left.{AreAllBut}
use Rattle.idl_driver.specs.Loading.{AreLoaded, AreComplete}
use Rattle.idl_driver.specs.Options.{AreAsked, AreAskedBut}
use Rattle.idl_driver.specs.declared.compilation.Compilation.{Compilation}
use Rattle.idl_driver.specs.declared.compilation.SoundFiles.{SoundFiles}
use Rattle.idl_driver.specs.declared.loading.SoundRoots.{SoundRoots}
use Rattle.idl_driver.specs.declared.options.Options.{Options}

-- each root has what it compiles to
abbrev pub HasCompiled : Compilation → Type 0
HasCompiled all = all.compiled.items ≡ map (compiled_root all.sources) all.roots.keys

-- those of the files that the options ask for that come without trouble, over those that the loader
-- tells of and within the limits, and what each compiles to; each other one has its trouble
pub record IsSoundPart (told : List ℕ → Holding) (options : Options) (all : SoundRoots)
    (nameless : List (List ℕ)) : Type 0 where
  pub roots : List (List ℕ)
  pub asked : AreAskedBut options all.sources roots nameless
  pub left : AreAllBut roots (length all.faults.items) all.roots.items
  pub formed : IsWellFormed (rootless all.sources)
  pub loaded : AreLoaded told all.sources.files
  pub complete : AreComplete told all.sources all.roots.items
  pub compiled : all.compiled.items ≡ map (compiled_root all.sources) all.roots.items

abbrev pub AreSoundFiles : (List ℕ → Holding) → Options → SoundFiles → Type 0
AreSoundFiles told options files =
    IsSoundPart told options files.sound (map (λ word. word.now) files.nameless.items)

-- these are the files that the options ask for, over those that the loader tells of and within the
-- limits, and what each compiles to
pub record IsCompilation (told : List ℕ → Holding) (options : Options) (all : Compilation)
    : Type 0 where
  pub asked : AreAsked options all.sources all.roots.keys
  pub formed : IsWellFormed (rootless all.sources)
  pub loaded : AreLoaded told all.sources.files
  pub complete : AreComplete told all.sources all.roots.keys
  pub compiled : HasCompiled all
