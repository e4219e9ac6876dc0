-- What there is of a file on the disk, beside what a loader tells of it.
use Rattle.std.specs.Prelude.{ℕ, List}
use Rattle.idl_loader.specs.Holding.{Holding, NoFile, Allows}
use Rattle.idl_loader.specs.Holding.{IsFileOf}
use Rattle.idl_server.specs.declared.closing.OnDisk.{OnDisk}
use Rattle.idl_server.specs.declared.closing.OnDisk.TheVariants.{Lines, Missing, Unread}

-- a file that can't be read may be there or not
abbrev pub IsOnDisk : (List ℕ → Holding) → List ℕ → OnDisk → Type 0
IsOnDisk told name (Lines lines) = IsFileOf told name lines.items
IsOnDisk told name Missing = Allows (told name) NoFile
IsOnDisk told name Unread = Unit {0}
