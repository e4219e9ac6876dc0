use Rattle.std.proofs.Common.{ap}
use Rattle.idl_repo.proofs.WriteLemmas.{grows-as, grows-text, grows-then}
use Rattle.idl_repo.specs.TypeCode.{entries_of, type_behind}
use Rattle.idl_repo.proofs.row_writer.RowWriter.push_union.Goals as goal

pub returns : goal.returns
returns c =
    grows-then c.in_ok-begin_code.ensures
    (grows-then
    (grows-then (grows-as (ap type_behind c.data_type.ensures) c.in_ok-push_type_behind.ensures) (grows-as (ap entries_of c.members_of.ensures) c.in_ok-push_entries.ensures))
    (grows-text c.in_ok-extend_from_slice.ensures.items))
