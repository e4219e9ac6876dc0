use Rattle.std.proofs.Common.{◌∙◌, ℕ, List, Ok, ap, sym, subst}
use Rattle.idl_source.specs.names.Name.{is_name}
use Rattle.idl_source.specs.texts.Texts.{Texts}
use Rattle.idl_inputs.specs.Bank.{IsSameBeside}
use Rattle.idl_inputs.specs.Refiled.{files_after, files_by, name_of}
use Rattle.idl_inputs.proofs.RefiledLemmas.{beside-by, named-by}
use Rattle.idl_inputs.proofs.edited_files.EditedFiles.edit.Goals as goal

pub note-requires-clause-allowed : goal.note-requires-clause-allowed
note-requires-clause-allowed c = ap is_name c.name-name.ensures ∙ named-by c.files_over.result.now c.in-Ok.files c.args.edit c.in-Ok.ensures.ok

pub note-requires-clause-beside : goal.note-requires-clause-beside
note-requires-clause-beside c =
    subst (λ (name : List ℕ). IsSameBeside name (files_after c.args.base.now.files c.args.self.now) c.in-Ok.files) (sym c.name-name.ensures)
    (subst (λ (files : Texts). IsSameBeside (name_of c.args.edit) files c.in-Ok.files) c.files_over.ensures
    (beside-by c.files_over.result.now c.in-Ok.files c.args.edit c.in-Ok.ensures.ok))

pub returns-in_ok-note-in-Ok-clause-ok : goal.returns-in_ok-note-in-Ok-clause-ok
returns-in_ok-note-in-Ok-clause-ok c =
    ap (λ (files : Texts). files_by files c.args.edit) (sym c.files_over.ensures) ∙ c.in-Ok.ensures.ok ∙ ap Ok (sym c.in_ok-note-in-Ok.ensures.files)

pub returns-in-Err-clause-err : goal.returns-in-Err-clause-err
returns-in-Err-clause-err c = λ other. ap (λ (files : Texts). files_by files c.args.edit) (sym c.files_over.ensures) ∙ c.in-Err.ensures.err other
