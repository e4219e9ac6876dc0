use Rattle.std.proofs.Common.{◌≡◌, ◌∙◌, Ok, ap, length, map, refl, rules, sym, subst}
use Rattle.std.proofs.lemmas.List.{length-map}
use Rattle.std.specs.Map.{keys_of}
use Rattle.idl_source.specs.declared.refusal.Refusal.TheVariants.{NoMemory}
use Rattle.idl_inputs.specs.Batch.{IsStopped, edit_of}
use Rattle.idl_inputs.specs.Project.{Project, with_files}
use Rattle.idl_inputs.specs.Refiled.{AreDone, AreRefiled, files_after}
use Rattle.idl_project.specs.UpToDate.{State}
use Rattle.idl_inputs.specs.WellFormed.{IsWellFormed}
use Rattle.idl_inputs.proofs.BatchLemmas.{formed-all, stopped-after}
use Rattle.idl_project.proofs.session.Session.batch.Goals as goal

pub settle-requires-clause-refiled : goal.settle-requires-clause-refiled
settle-requires-clause-refiled c = subst (λ (state : State). AreRefiled state.project.inputs c.in-Ok.edited) c.self.view_is c.in-Ok.ensures.refiled

pub settle-requires-clause-formed : goal.settle-requires-clause-formed
settle-requires-clause-formed c =
    let project : Project = record { inputs = c.self.inside.bank; roots = keys_of c.self.inside.roots } in
    let files = files_after project.inputs.files c.in-Ok.edited in
    subst (λ (state : State). IsWellFormed (with_files state.project (files_after state.project.inputs.files c.in-Ok.edited))) c.self.view_is
    (formed-all (map edit_of c.args.edits.items) 0 project (with_files project files) c.self.invariant.formed (c.in-Ok.ensures.done project refl))

pub returns-in-Ok-settle : goal.returns-in-Ok-settle
returns-in-Ok-settle c =
    let project : Project = record { inputs = c.self.inside.bank; roots = keys_of c.self.inside.roots } in
    let settled = c.in-Ok-settle.ensures.ok in
    record {
      project =
          subst (λ (state : State). AreDone state.project (map edit_of c.args.edits.items) (files_after state.project.inputs.files c.in-Ok.edited)) c.self.view_is
          (c.in-Ok.ensures.done project refl)
          ∙ ap Ok (sym settled.project);
      kept = settled.kept;
      told = settled.told;
      touched = settled.touched;
    }

pub returns-in-Err-settle : goal.returns-in-Err-settle
returns-in-Err-settle c =
    let project : Project = record { inputs = c.self.inside.bank; roots = keys_of c.self.inside.roots } in
    let edits = map edit_of c.args.edits.items in
    let files = files_after project.inputs.files c.in-Ok.edited in
    let many : c.len-count.result ≡ length c.args.edits.items = search rules in
    record {
      unchanged = c.in-Err-settle.ensures.err;
      stopped =
          subst (λ (state : State). IsStopped state.project edits (c.len-count.result, NoMemory)) c.self.view_is
          (stopped-after project (with_files project files) edits c.len-count.result (many ∙ sym (length-map c.args.edits.items edit_of)) (c.in-Ok.ensures.done project refl));
    }

pub returns-in-Err : goal.returns-in-Err
returns-in-Err c =
    let project : Project = record { inputs = c.self.inside.bank; roots = keys_of c.self.inside.roots } in
    record {
      unchanged = refl;
      stopped = subst (λ (state : State). IsStopped state.project (map edit_of c.args.edits.items) c.in-Err.refused) c.self.view_is (c.in-Err.ensures.stopped project refl);
    }
