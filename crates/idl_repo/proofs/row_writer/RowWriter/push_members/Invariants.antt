use Rattle.std.proofs.Common.{flat_map, take}
use Rattle.idl_repo.specs.Pieces.{Writes}
use Rattle.idl_repo.specs.TypeCode.{member_pieces}
use Rattle.idl_repo.proofs.row_writer.RowWriter.push_members.Given as goal

-- those before
abbrev pub invariant-loop-member : goal.invariant-loop-member
invariant-loop-member l =
    Writes (flat_map member_pieces (take l.member-index l.members))
    l.fn.self l.self
