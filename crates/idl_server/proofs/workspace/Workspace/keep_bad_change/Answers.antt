use Rattle.std.proofs.Common.{ℕ, List, subst}
use Rattle.std.specs.Result.{OnOk}
use Rattle.idl_editor.specs.declared.documents.refused.RefusedReason.TheVariants.{BadChange}
use Rattle.idl_editor.specs.documents.Refused.{IsAdded}
use Rattle.idl_server.proofs.workspace.Workspace.keep_bad_change.Goals as goal

pub returns-clause-told : goal.returns-clause-told
returns-clause-told c = λ there.
    subst (λ (name : List ℕ). OnOk c.push_reason.result (IsAdded name BadChange c.args.self.now.refused.items c.push_reason.new.refused.items))
    c.as_bytes.ensures.bytes c.push_reason.ensures
