-- What a loader tells of its files.
use Rattle.std.specs.Prelude.{◌≡◌, ℕ, List}
use Rattle.idl_source.specs.texts.Cut.{cut_lines}
use Rattle.idl_loader.specs.declared.loader.Loaded.{Loaded}
use Rattle.idl_loader.specs.declared.loader.Loaded.TheVariants as loaded

-- of a name: nothing, or that there is no file, or the file's bytes
pub data Holding : Type 0 where
  Untold : Holding
  NoFile : Holding
  File : (bytes : List ℕ) → Holding

-- this is so, if anything is told
abbrev pub Allows : Holding → Holding → Type 0
Allows Untold this = Unit {0}
Allows NoFile this = this ≡ NoFile
Allows (File bytes) this = this ≡ File bytes

-- what came of loading a file, beside what is told of its name: a file that can't be read may be
-- there or not
abbrev pub IsLoadedBy : Holding → Loaded → Type 0
IsLoadedBy told (loaded.Bytes bytes) = Allows told (File bytes.items)
IsLoadedBy told loaded.Missing = Allows told NoFile
IsLoadedBy told loaded.Failed = Unit {0}
IsLoadedBy told loaded.NoMemory = Unit {0}

-- the lines are those of a file that the loader has under this name
abbrev pub IsFileOf : (List ℕ → Holding) → List ℕ → List (List ℕ) → Type 0
IsFileOf told name lines =
    (bytes : List ℕ) × Allows (told name) (File bytes) × (lines ≡ cut_lines bytes)
