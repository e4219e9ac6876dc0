use Rattle.idl_repo.proofs.WriteLemmas.{grows-text, grows-then}
use Rattle.idl_repo.proofs.row_writer.RowWriter.push_code.Goals as goal

pub returns : goal.returns
returns c = grows-then c.in_ok-begin_code.ensures (grows-text c.in_ok-extend_from_slice.ensures.items)
