use Rattle.idl_repo.proofs.WriteLemmas.{says-as, says-then}
use Rattle.idl_repo.proofs.row_writer.RowWriter.push_parameter.Goals as goal

pub returns : goal.returns
returns c =
    says-as c.in_ok-extend_from_slice.ensures.items c.direction_word-direction.ensures
    (says-then c.in_ok-extend_from_slice-2.ensures.items c.in_ok-push_typed.ensures)
