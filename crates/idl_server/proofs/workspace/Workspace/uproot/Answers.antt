use Rattle.std.proofs.Common.{◌≡◌, ◌∙◌, ℕ, IsTrue, List, Ok, false, refl, subst, sym}
use Rattle.idl_source.specs.names.Name.{is_name}
use Rattle.idl_inputs.specs.Edits.{DropRoot, after}
use Rattle.idl_inputs.specs.Project.{is_root}
use Rattle.idl_server.proofs.CoveredLemmas.{adds-none, drops-root, none-dropped, root-gone}
use Rattle.idl_server.proofs.FileLemmas.{drop-inputs}
use Rattle.idl_server.proofs.workspace.Workspace.uproot.Goals as goal

pub returns-in_ok-insert-in-Ok-clause-roots : goal.returns-in_ok-insert-in-Ok-clause-roots
returns-in_ok-insert-in-Ok-clause-roots c =
    let old = c.args.self.now.session.project in
    let new = c.drop_root.new.self.project in
    drops-root c.args.name.now old new (subst (λ (n : List ℕ). after old (DropRoot n) ≡ Ok new) c.as_bytes.ensures.bytes c.in-Ok.ensures.project)

pub returns-in_ok-insert-in-Ok-clause-gone : goal.returns-in_ok-insert-in-Ok-clause-gone
returns-in_ok-insert-in-Ok-clause-gone c =
    let old = c.args.self.now.session.project in
    let new = c.drop_root.new.self.project in
    root-gone c.args.name.now old new c.keeps_form.ensures (subst (λ (n : List ℕ). after old (DropRoot n) ≡ Ok new) c.as_bytes.ensures.bytes c.in-Ok.ensures.project)

pub returns-in-Err-clause-roots : goal.returns-in-Err-clause-roots
returns-in-Err-clause-roots c = adds-none c.args.self.now.session.project c.drop_root.new.self.project (λ i. (c.in-Err.ensures.unchanged i).project.roots)

pub returns-in-Err-clause-gone : goal.returns-in-Err-clause-gone
returns-in-Err-clause-gone c =
    let old = c.args.self.now.session in
    (λ i. is_root (c.in-Err.ensures.unchanged i).project c.args.name.now)
    ∙ subst (λ (n : List ℕ). is_root old.project n ≡ false) c.as_bytes.ensures.bytes
    (none-dropped _ old c.drop_root.new.self _ (subst (λ (n : List ℕ). IsTrue (is_name n)) (sym c.as_bytes.ensures.bytes) c.as_bytes.ensures.allowed) c.in-Err.ensures)

-- the files that are compiled stay
pub returns-in_ok-insert-in-Ok-clause-filed : goal.returns-in_ok-insert-in-Ok-clause-filed
returns-in_ok-insert-in-Ok-clause-filed c = record {
  encoding = refl;
  folders = refl;
  inputs = drop-inputs c.as_bytes.result.now c.args.self.now.session.project c.drop_root.new.self.project c.in-Ok.ensures.project;
  documents = refl;
  tried = refl;
  unread = refl;
}

pub returns-in_err-insert-in-Ok-clause-filed : goal.returns-in_err-insert-in-Ok-clause-filed
returns-in_err-insert-in-Ok-clause-filed c = record {
  encoding = refl;
  folders = refl;
  inputs = drop-inputs c.as_bytes.result.now c.args.self.now.session.project c.drop_root.new.self.project c.in-Ok.ensures.project;
  documents = refl;
  tried = refl;
  unread = refl;
}

pub returns-in-Err-clause-filed : goal.returns-in-Err-clause-filed
returns-in-Err-clause-filed c = record {
  encoding = refl;
  folders = refl;
  inputs = λ i. (c.in-Err.ensures.unchanged i).project.inputs;
  documents = refl;
  tried = refl;
  unread = refl;
}
