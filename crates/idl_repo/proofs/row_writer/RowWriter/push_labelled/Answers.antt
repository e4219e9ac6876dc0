use Rattle.std.proofs.Common.{ap, flat_map}
use Rattle.idl_repo.proofs.WriteLemmas.{grows-as, grows-more, grows-nothing, grows-whole, says-then}
use Rattle.idl_repo.specs.TypeCode.{entry_pieces}
use Rattle.idl_repo.proofs.row_writer.RowWriter.push_labelled.Goals as goal

pub loop-label-init : goal.loop-label-init
loop-label-init c = grows-nothing

pub loop-label-preserved : goal.loop-label-preserved
loop-label-preserved c =
    grows-more (λ label. entry_pieces label c.args.member.now) c.as_slice-label-items.result.now c.loop-label.label-index c.label-item.result c.loop-label-test.true c.label-item.is c.loop-label.invariant
    (says-then c.in_ok-extend_from_slice.ensures.items
    (says-then c.in_ok-push_label.ensures
    (says-then c.in_ok-extend_from_slice-2.ensures.items c.in_ok-push_typed.ensures)))

pub returns : goal.returns
returns c =
    grows-as (ap (flat_map (λ label. entry_pieces label c.args.member.now)) c.as_slice-label-items.ensures)
    (grows-whole (λ label. entry_pieces label c.args.member.now) c.as_slice-label-items.result.now c.loop-label.label-index c.loop-label-test.false c.loop-label.invariant)
