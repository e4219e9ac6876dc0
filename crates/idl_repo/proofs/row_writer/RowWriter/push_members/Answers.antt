use Rattle.idl_repo.proofs.WriteLemmas.{grows-more, grows-nothing, grows-whole, says-then}
use Rattle.idl_repo.specs.TypeCode.{member_pieces}
use Rattle.idl_repo.proofs.row_writer.RowWriter.push_members.Goals as goal

pub loop-member-init : goal.loop-member-init
loop-member-init c = grows-nothing

pub loop-member-preserved : goal.loop-member-preserved
loop-member-preserved c =
    grows-more member_pieces c.args.members.now c.loop-member.member-index c.member-item.result c.loop-member-test.true c.member-item.is c.loop-member.invariant
    (says-then c.in_ok-extend_from_slice.ensures.items c.in_ok-push_typed.ensures)

pub returns : goal.returns
returns c = grows-whole member_pieces c.args.members.now c.loop-member.member-index c.loop-member-test.false c.loop-member.invariant
