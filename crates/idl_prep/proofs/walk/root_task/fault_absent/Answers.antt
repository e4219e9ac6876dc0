use Rattle.std.proofs.Common.{ℕ, List, Some, ap, ◌∙◌}
use Rattle.std.proofs.lemmas.Result.{IfOk-weaker}
use Rattle.idl_fault.specs.declared.code.Code.TheVariants.{NotFound}
use Rattle.idl_event.specs.declared.told.event.Event.TheVariants.{Fault}
use Rattle.idl_event.specs.declared.told.event.Item.TheVariants.{Kept}
use Rattle.idl_prep.specs.State.{telling}
use Rattle.idl_prep.proofs.walk.root_task.fault_absent.Goals as goal

pub returns : goal.returns
returns g c = IfOk-weaker c.fault.result _ _ (λ _ told.
    let root = c.args.root.now in
    told
    ∙ ap (λ (f : List ℕ). telling (Kept (Fault (record { file = f; line = 0 }) NotFound (Some c.in_ok-text.text))) root) c.in_ok-clone.ensures.cases
    ∙ ap (λ (text : List ℕ). telling (Kept (Fault (record { file = c.args.file.now; line = 0 }) NotFound (Some text))) root) (c.in_ok-text.ensures ∙ c.as_bytes.ensures.bytes)) c.fault.ensures
