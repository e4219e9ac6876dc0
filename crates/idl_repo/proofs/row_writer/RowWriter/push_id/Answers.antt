use Rattle.std.proofs.lemmas.Result.{on_ok_weaker}
use Rattle.idl_repo.proofs.WriteLemmas.{grows-id}
use Rattle.idl_repo.proofs.row_writer.RowWriter.push_id.Goals as goal

pub returns : goal.returns
returns c = on_ok_weaker c.write.result (λ e. grows-id e c.in_ok-id.ensures) c.write.ensures
