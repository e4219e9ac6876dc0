use Rattle.std.proofs.Common.{◌≤◌, ℕ, length, take}
use Rattle.std.specs.Io.KnownBytes.{Consumes}
use Rattle.idl_disk.specs.Extent.{Measures}
use Rattle.idl_disk.specs.Reading.{ArePastLimits}
use Rattle.idl_disk.proofs.reading.read_file.Given as goal

abbrev pub invariant-pieces : goal.invariant-pieces
invariant-pieces g l =
    Measures l.bytes.items l.extent
    × Consumes (g.R.Read.remaining l.fn.reader) (g.R.Read.remaining l.reader) l.bytes.items
    × ((n : ℕ) → n ≤ length l.bytes.items → ArePastLimits (take n l.bytes.items) → ⊥)
