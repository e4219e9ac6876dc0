use Rattle.std.proofs.lemmas.Result.{on_ok_weaker}
use Rattle.idl_repo.proofs.WriteLemmas.{grown-on_ok, grows-text, text-as}
use Rattle.idl_repo.proofs.row_writer.RowWriter.push_element.Goals as goal

pub returns-in-Constants : goal.returns-in-Constants
returns-in-Constants c =
    rw c.in-Constants.is (on_ok_weaker c.push_target.result (λ e. grows-text e) c.push_target.ensures)

pub returns-in-Unvalued : goal.returns-in-Unvalued
returns-in-Unvalued c =
    rw c.in-Unvalued.is (on_ok_weaker c.extend_from_slice.result (λ e. text-as e c.unvalued_word.ensures) (grown-on_ok _ _ c.extend_from_slice.result c.extend_from_slice.ensures.items))
