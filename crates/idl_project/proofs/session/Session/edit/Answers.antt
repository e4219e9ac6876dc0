use Rattle.std.proofs.Common.{◌≡◌, ◌∙◌, Ok, Option, ap, refl, sym, subst}
use Rattle.std.specs.Map.{keys_of}
use Rattle.std.specs.Option.{unwrap_or}
use Rattle.idl_source.specs.texts.Texts.{Texts}
use Rattle.idl_inputs.specs.Batch.{edit_of}
use Rattle.idl_inputs.specs.Edits.{after}
use Rattle.idl_inputs.specs.Project.{Project, with_files}
use Rattle.idl_inputs.specs.Refiled.{AreRefiled, files_after}
use Rattle.idl_project.specs.UpToDate.{State}
use Rattle.idl_inputs.specs.WellFormed.{IsWellFormed}
use Rattle.idl_inputs.proofs.FormLemmas.{after-formed}
use Rattle.idl_inputs.proofs.RefiledLemmas.{accepted-by, refiled-none, refused-by, takes-by}
use Rattle.idl_project.proofs.session.Session.edit.Goals as goal

pub edit-requires : goal.edit-requires
edit-requires c = refiled-none c.self.inside.bank c.new-edited.result c.new-edited.ensures.files c.new-edited.ensures.answers

pub settle-requires-clause-refiled : goal.settle-requires-clause-refiled
settle-requires-clause-refiled c = subst (λ (state : State). AreRefiled state.project.inputs c.edit.new.self) c.self.view_is c.in-Ok.ensures.refiled

pub settle-requires-clause-formed : goal.settle-requires-clause-formed
settle-requires-clause-formed c =
    let project : Project = record { inputs = c.self.inside.bank; roots = keys_of c.self.inside.roots } in
    let first = files_after project.inputs.files c.new-edited.result in
    let last = files_after project.inputs.files c.edit.new.self in
    let same : project.inputs.files ≡ first = ap (λ (fs : Option Texts). unwrap_or fs project.inputs.files) (sym c.new-edited.ensures.files) in
    subst (λ (state : State). IsWellFormed (with_files state.project (files_after state.project.inputs.files c.edit.new.self))) c.self.view_is
    (after-formed project (with_files project last) (edit_of c.args.edit) c.self.invariant.formed (accepted-by project first last c.args.edit same c.in-Ok.ensures.ok))

pub returns-in_ok-settle-in-Ok : goal.returns-in_ok-settle-in-Ok
returns-in_ok-settle-in-Ok c =
    let project : Project = record { inputs = c.self.inside.bank; roots = keys_of c.self.inside.roots } in
    let first = files_after project.inputs.files c.new-edited.result in
    let last = files_after project.inputs.files c.edit.new.self in
    let same : project.inputs.files ≡ first = ap (λ (fs : Option Texts). unwrap_or fs project.inputs.files) (sym c.new-edited.ensures.files) in
    let settled = c.in_ok-settle-in-Ok.ensures.ok in
    record {
      project =
          subst (λ (state : State). after state.project (edit_of c.args.edit) ≡ Ok (with_files state.project (files_after state.project.inputs.files c.edit.new.self))) c.self.view_is
          (accepted-by project first last c.args.edit same c.in-Ok.ensures.ok)
          ∙ ap Ok (sym settled.project);
      kept = settled.kept;
      told = settled.told;
      touched = settled.touched;
    }

pub returns-in-Err : goal.returns-in-Err
returns-in-Err c =
    let project : Project = record { inputs = c.self.inside.bank; roots = keys_of c.self.inside.roots } in
    let first = files_after project.inputs.files c.new-edited.result in
    let same : project.inputs.files ≡ first = ap (λ (fs : Option Texts). unwrap_or fs project.inputs.files) (sym c.new-edited.ensures.files) in
    record {
      unchanged = refl;
      least = λ other.
          ap (λ (state : State). after state.project (edit_of c.args.edit)) (sym c.self.view_is)
          ∙ refused-by project first c.args.edit c.in-Err.refusal same (c.in-Err.ensures.err other);
      memory = λ _. takes-by c.args.edit;
    }
