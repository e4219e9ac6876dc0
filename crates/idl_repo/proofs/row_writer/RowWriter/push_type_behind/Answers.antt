use Rattle.idl_repo.proofs.WriteLemmas.{says-then}
use Rattle.idl_repo.proofs.row_writer.RowWriter.push_type_behind.Goals as goal

pub returns : goal.returns
returns c = says-then c.in_ok-extend_from_slice.ensures.items c.in_ok-push_type.ensures
