use Rattle.std.proofs.Common.{refl}
use Rattle.idl_editor.proofs.documents.refused.push_reason.Goals as goal

pub returns : goal.returns
returns c = (record { subject = c.in_ok-subject.subject; reason = c.args.reason }, c.in_ok-push.ensures.items, c.in_ok-subject.ensures.items, refl)
