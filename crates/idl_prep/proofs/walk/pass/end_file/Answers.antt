use Rattle.std.proofs.Common.{[], Some, ap, sym, ◌∙◌}
use Rattle.idl_fault.specs.declared.code.Code.TheVariants.{NotClosed}
use Rattle.idl_event.specs.declared.told.event.Event.TheVariants.{Fault}
use Rattle.idl_event.specs.declared.told.event.Item.TheVariants.{Kept}
use Rattle.idl_prep.specs.Pass.{to_come}
use Rattle.idl_prep.specs.State.{telling}
use Rattle.idl_prep.proofs.WalkLaws.WalkLemmas.{to_come-nothing, to_come-unclosed}
use Rattle.idl_prep.proofs.walk.pass.end_file.Goals as goal

pub groups-preserved : goal.groups-preserved
groups-preserved g c = λ enter bank.
    let file = c.args.file.now in
    let o = c.in-Some.group.opener in
    to_come-unclosed bank enter file c.in-Some.group c.pop.new.self c.groups.root c.fault.new.self
    (c.in_ok-fault.ensures ∙ ap (λ f. telling (Kept (Fault (record { file = f; line = o.line }) NotClosed (Some o.word))) c.groups.root) c.in_ok-clone.ensures.cases)
    ∙ ap (λ gs. to_come bank enter file gs [] c.groups.root) (sym c.in-Some.ensures)
    ∙ c.groups.invariant enter bank

pub returns : goal.returns
returns g c = λ enter bank.
    let file = c.args.file.now in
    sym (to_come-nothing bank enter file c.groups.root)
    ∙ ap (λ gs. to_come bank enter file gs [] c.groups.root) (sym c.in_default.ensures.0)
    ∙ c.groups.invariant enter bank
