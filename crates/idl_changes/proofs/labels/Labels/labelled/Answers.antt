use Rattle.std.proofs.Common.{◌∙◌, ℕ, List, ap, sym}
use Rattle.std.specs.List.{slice_get}
use Rattle.std.specs.Option.{option_and_then, option_copied}
use Rattle.idl_changes.specs.Plain.{is_labelled, labelled}
use Rattle.idl_changes.proofs.ListingLemmas.{got-item}
use Rattle.idl_changes.proofs.NameLemmas.{find-position}
use Rattle.idl_repo.specs.declared.details.type_code_tree.CaseTree.{CaseTree}
use Rattle.idl_changes.proofs.labels.Labels.labelled.Goals as goal

pub returns-in_err-place : goal.returns-in_err-place
unfolding labelled
returns-in_err-place c =
    let names = c.self.inside.names.now in
    let cases = c.self.inside.cases.now in
    let label = c.args.label.now in
    ap option_copied c.from_residual.ensures
    ∙ sym (find-position (is_labelled names label) cases
    ∙ ap (option_and_then (slice_get cases)) (sym (c.self.invariant.1 label) ∙ sym c.get.ensures ∙ ap option_copied c.in_err-place.was))
    ∙ ap (λ (both : List (List ℕ) × List CaseTree). labelled both.0 both.1 label) c.self.view_is

pub returns : goal.returns
unfolding labelled
returns c =
    let names = c.self.inside.names.now in
    let cases = c.self.inside.cases.now in
    let label = c.args.label.now in
    got-item cases c.in_ok-place.place.now c.get-2.result c.get-2.ensures.lookup.3
    ∙ sym (find-position (is_labelled names label) cases
    ∙ ap (option_and_then (slice_get cases)) (sym (c.self.invariant.1 label) ∙ sym c.get.ensures ∙ ap option_copied c.in_ok-place.was))
    ∙ ap (λ (both : List (List ℕ) × List CaseTree). labelled both.0 both.1 label) c.self.view_is
