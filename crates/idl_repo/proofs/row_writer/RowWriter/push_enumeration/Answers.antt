use Rattle.std.proofs.Common.{ap, flat_map}
use Rattle.idl_repo.proofs.WriteLemmas.{grows-text, grows-then, says-as}
use Rattle.idl_repo.specs.TypeCode.{enumerator_word}
use Rattle.idl_repo.proofs.row_writer.RowWriter.push_enumeration.Goals as goal

pub returns : goal.returns
returns c =
    grows-then c.in_ok-begin_code.ensures
    (says-as c.in_ok-push_enumerators.ensures (ap (flat_map enumerator_word) c.enumerators.ensures)
    (grows-text c.in_ok-extend_from_slice.ensures.items))
