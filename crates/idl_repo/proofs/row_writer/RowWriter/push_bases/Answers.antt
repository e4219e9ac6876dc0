use Rattle.idl_repo.proofs.WriteLemmas.{grows-text, grows-then, says-then}
use Rattle.idl_repo.proofs.row_writer.RowWriter.push_bases.Goals as goal

pub returns : goal.returns
returns c =
    says-then c.in_ok-extend_from_slice.ensures.items
    (grows-then c.in_ok-push_references.ensures
    (grows-text c.in_ok-extend_from_slice-2.ensures.items))
