use Rattle.std.proofs.Common.{◌≡◌, length}
use Rattle.std.specs.Io.KnownBytes.{Keeps}
use Rattle.idl_disk.proofs.reading.read_piece.Given as goal

abbrev pub invariant-tries : goal.invariant-tries
invariant-tries g l = Keeps (g.R.Read.remaining l.fn.reader) (g.R.Read.remaining l.reader) × (length l.piece ≡ length l.fn.piece)
