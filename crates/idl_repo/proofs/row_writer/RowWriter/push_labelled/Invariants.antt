use Rattle.std.proofs.Common.{flat_map, take}
use Rattle.idl_repo.specs.Pieces.{Writes}
use Rattle.idl_repo.specs.TypeCode.{entry_pieces}
use Rattle.idl_repo.proofs.row_writer.RowWriter.push_labelled.Given as goal

-- those of the labels before
abbrev pub invariant-loop-label : goal.invariant-loop-label
invariant-loop-label l =
    Writes (flat_map (λ label. entry_pieces label l.member) (take l.label-index l.label-items))
    l.fn.self l.self
