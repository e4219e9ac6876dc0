use Rattle.std.proofs.Common.{ap, flat_map}
use Rattle.idl_repo.proofs.WriteLemmas.{grows-as, grows-text, grows-then}
use Rattle.idl_repo.specs.TypeCode.{member_pieces}
use Rattle.idl_repo.proofs.row_writer.RowWriter.push_members_code.Goals as goal

pub returns : goal.returns
returns c =
    grows-then c.in_ok-begin_code.ensures
    (grows-then (grows-as (ap (flat_map member_pieces) c.members_of.ensures) c.in_ok-push_members.ensures)
    (grows-text c.in_ok-extend_from_slice.ensures.items))
