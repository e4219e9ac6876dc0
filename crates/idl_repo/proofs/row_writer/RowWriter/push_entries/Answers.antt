use Rattle.std.proofs.Common.{ap}
use Rattle.idl_repo.proofs.WriteLemmas.{grows-more, grows-nothing, grows-whole, says-as, says-then}
use Rattle.idl_repo.specs.TypeCode.{default_word, labelled_pieces}
use Rattle.idl_repo.proofs.row_writer.RowWriter.push_entries.Goals as goal

pub loop-member-init : goal.loop-member-init
loop-member-init c = grows-nothing

pub loop-member-preserved : goal.loop-member-preserved
loop-member-preserved c =
    grows-more labelled_pieces c.args.members.now c.loop-member.member-index c.member-item.result c.loop-member-test.true c.member-item.is c.loop-member.invariant c.in_ok-push_labelled.ensures

pub returns : goal.returns
returns c =
    says-then c.in_ok-extend_from_slice.ensures.items
    (says-as c.in_ok-push_default.ensures (ap default_word c.in_ok-number.ensures)
    (grows-whole labelled_pieces c.args.members.now c.loop-member.member-index c.loop-member-test.false c.loop-member.invariant))
