use Rattle.std.proofs.Common.{[], None}
use Rattle.idl_editor.proofs.ChangeLemmas.{text-next}
use Rattle.idl_editor.proofs.documents.changes.text_after_all.Goals as goal

pub changes-preserved : goal.changes-preserved
changes-preserved c = record {
  text =
      text-next c.args.encoding c.args.old.now c.deref.result.now c.changes.text.items c.in_ok-after.after.text.items c.args.changes.now c.changes.change-index
      (record { range = None; text = record { ref_ptr = (0, 0); now = [] } })
      c.in_ok-after.ensures.text c.deref.ensures.value c.changes-test.true c.changes.invariant.text;
}
