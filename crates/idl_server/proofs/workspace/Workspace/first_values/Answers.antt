use Rattle.std.proofs.Common.{◌∙◌, ℕ, List, ap, map, subst}
use Rattle.std.proofs.lemmas.List.{take_all}
use Rattle.std.specs.List.{AllZip}
use Rattle.serde_json.specs.View.{view}
use Rattle.idl_editor.specs.declared.change.Range.{Range}
use Rattle.idl_editor.specs.told.Diagnostics.{diagnostic_json}
use Rattle.idl_editor.specs.told.Found.{findings_in, most_told}
use Rattle.idl_editor.proofs.FoundLemmas.{findings-take}
use Rattle.idl_server.specs.Diagnostics.{IsToldOf}
use Rattle.idl_server.proofs.DiagnosticLemmas.{zip-found}
use Rattle.idl_server.proofs.workspace.Workspace.first_values.Goals as goal

pub each-preserved : goal.each-preserved
each-preserved c =
    let finding = c.index-held-index.result.finding.now in
    let message = c.in_ok-message.message.items in
    let related = view c.in_ok-related.related in
    let is =
    c.in_ok-diagnostic_value.ensures
    ∙ ap (λ (said : List ℕ). diagnostic_json finding c.in_ok-range.range said related) c.as_slice-said.ensures.value
    ∙ ap (λ (range : Range). diagnostic_json finding range message related) c.in_ok-range.ensures.range
    in
    record {
      told =
          zip-found (IsToldOf c.args.self.now.encoding c.args.self.now.session.project) c.first_told-held.result.now c.each.index c.index-held-index.result c.each.list.items c.push.new.self.items
          c.in_ok-diagnostic_value.field-0 c.each-test.true c.index-held-index.is c.in_ok-push.ensures.items c.each.invariant.told (related, (message, c.in_ok-message.ensures, is));
      columns = c.in_ok-range.ensures.same ∙ c.each.invariant.columns;
    }

pub returns : goal.returns
returns c =
    let held = c.first_told-held.result.now in
    let told = map view c.each.list.items in
    subst (λ findings. AllZip (IsToldOf c.args.self.now.encoding c.args.self.now.session.project) findings told)
    (ap findings_in (take_all c.each.index held c.each-test.false) ∙ ap findings_in c.first_told-held.ensures ∙ findings-take most_told c.args.found.now) c.each.invariant.told
