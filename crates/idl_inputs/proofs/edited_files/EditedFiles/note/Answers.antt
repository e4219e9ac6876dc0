use Rattle.std.proofs.Common.{◌≡◌, ◌∙◌, ℕ, List, Some, refl, sym, subst}
use Rattle.idl_inputs.specs.Bank.{IsSameBeside}
use Rattle.idl_inputs.specs.Refiled.{files_after}
use Rattle.idl_inputs.proofs.RefiledLemmas.{refiled-more}
use Rattle.idl_inputs.proofs.edited_files.EditedFiles.note.Goals as goal

pub returns-clause-refiled : goal.returns-clause-refiled
returns-clause-refiled c =
    let was = c.args.self.now in
    let same : c.unwrap.result ≡ c.args.name.now = rw c.unwrap.ensures at c.new.ensures.same in
    let name : c.args.name.now ≡ c.in_ok-name.name = sym same ∙ sym c.in_ok-name.ensures in
    refiled-more c.args.base.now was (record { files = Some c.args.files; answers = c.insert.new.self }) c.in_ok-name.name c.args.files c.in_ok-answer.answer c.requires.refiled
    (subst (λ (n : List ℕ). IsSameBeside n (files_after c.args.base.now.files was) c.args.files) name c.requires.beside)
    c.in_ok-answer.ensures refl c.in_ok-insert.ensures.updates.0
