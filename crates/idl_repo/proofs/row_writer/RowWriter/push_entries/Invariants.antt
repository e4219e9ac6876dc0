use Rattle.std.proofs.Common.{flat_map, take}
use Rattle.idl_repo.specs.Pieces.{Writes}
use Rattle.idl_repo.specs.TypeCode.{labelled_pieces}
use Rattle.idl_repo.proofs.row_writer.RowWriter.push_entries.Given as goal

-- those of the members before
abbrev pub invariant-loop-member : goal.invariant-loop-member
invariant-loop-member l =
    Writes (flat_map labelled_pieces (take l.member-index l.members))
    l.initial.self l.self
