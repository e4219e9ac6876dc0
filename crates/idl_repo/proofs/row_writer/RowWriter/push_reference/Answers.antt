use Rattle.idl_repo.proofs.WriteLemmas.{says-then}
use Rattle.idl_repo.proofs.row_writer.RowWriter.push_reference.Goals as goal

pub returns : goal.returns
returns c = says-then c.in_ok-extend_from_slice.ensures.items c.in_ok-push_id.ensures
