use Rattle.std.proofs.Common.{ap}
use Rattle.idl_repo.proofs.WriteLemmas.{grows-as, grows-text, grows-then, says-then}
use Rattle.idl_repo.specs.TypeCode.{type_pieces}
use Rattle.idl_repo.proofs.row_writer.RowWriter.push_constant.Goals as goal

pub returns-in_ok-push_listed : goal.returns-in_ok-push_listed
returns-in_ok-push_listed c =
    rw (← c.in-Some.ensures, ← c.get.ensures)
    (says-then c.in_ok-extend_from_slice.ensures.items
    (grows-then (grows-as (ap type_pieces c.data_type.ensures) c.in_ok-push_type.ensures)
    (says-then c.in_ok-extend_from_slice-2.ensures.items (grows-text c.in_ok-push_listed.ensures))))

pub returns-in_default : goal.returns-in_default
returns-in_default c =
    rw (← c.in_default.ensures)
    (says-then c.in_ok-extend_from_slice.ensures.items
    (grows-then (grows-as (ap type_pieces c.data_type.ensures) c.in_ok-push_type.ensures) (grows-text c.in_ok-extend_from_slice-2.ensures.items)))
