use Rattle.std.proofs.Common.{◌≡◌, ◌∙◌, ℕ, List, Ok, false, refl, sym, subst}
use Rattle.std.specs.Str.{bytes_eq}
use Rattle.idl_inputs.specs.Edits.{Remove, after}
use Rattle.idl_server.proofs.FileLemmas.{gone, remove-alone, remove-lines}
use Rattle.idl_server.proofs.WorkspaceLemmas.{beside-both, beside-edited, beside-kept, closed-kept, on_ok}
use Rattle.idl_server.proofs.workspace.Workspace.take_out.Goals as goal

pub returns-then-is_none-clause-beside : goal.returns-then-is_none-clause-beside
returns-then-is_none-clause-beside c = record {
  set = record { encoding = refl; folders = refl; macros = refl; search = refl };
  documents = λ other apart. refl;
  files = λ other apart. refl;
  tried = λ other apart. c.in_ok-insert.ensures.updates.2 other (subst (λ (n : List ℕ). bytes_eq n other ≡ false) (sym c.copied.ensures) apart);
  unread = λ other apart. refl;
  roots = λ other root. root;
}

pub returns-in-Ok-clause-beside : goal.returns-in-Ok-clause-beside
returns-in-Ok-clause-beside c =
    let name = c.args.name.now in
    let old = c.args.self.now in
    let tried = record old { tried = c.insert.new.self } in
    let out = record tried { session = c.remove.new.self } in
    let made = subst (λ (n : List ℕ). after old.session.project (Remove n) ≡ Ok out.session.project) c.as_bytes-2.ensures.bytes c.in-Ok.ensures.project in
    on_ok c.keep_all.result
    (beside-both name old tried (record out { touched = c.keep_all.new.kept }) (record {
      set = record { encoding = refl; folders = refl; macros = refl; search = refl };
      documents = λ other apart. refl;
      files = λ other apart. refl;
      tried = λ other apart. c.in_ok-insert.ensures.updates.2 other (subst (λ (n : List ℕ). bytes_eq n other ≡ false) (sym c.copied.ensures) apart);
      unread = λ other apart. refl;
      roots = λ other root. root;
    })
    (beside-both name tried out (record out { touched = c.keep_all.new.kept })
    (beside-edited name tried out refl refl (remove-alone name old.session.project out.session.project made) (λ other apart. refl) refl refl)
    (beside-kept name out (record out { touched = c.keep_all.new.kept }) (record { encoding = refl; folders = refl; session = refl; documents = refl; tried = refl; unread = refl }))))

pub returns-in-Ok-clause-documents : goal.returns-in-Ok-clause-documents
returns-in-Ok-clause-documents c = on_ok c.keep_all.result refl

pub returns-in-Ok-clause-closed : goal.returns-in-Ok-clause-closed
returns-in-Ok-clause-closed c = λ told none.
    let name = c.args.name.now in
    let old = c.args.self.now in
    let out = record old { tried = c.insert.new.self; session = c.remove.new.self } in
    let made = subst (λ (n : List ℕ). after old.session.project (Remove n) ≡ Ok out.session.project) c.as_bytes-2.ensures.bytes c.in-Ok.ensures.project in
    on_ok c.keep_all.result
    (closed-kept told name out (record out { touched = c.keep_all.new.kept }) (record { encoding = refl; folders = refl; session = refl; documents = refl; tried = refl; unread = refl }) (record {
      loaded = λ lines there. absurd (gone lines (sym (remove-lines name old.session.project out.session.project made) ∙ there));
      missing = λ tried unread. none unread;
    }))
