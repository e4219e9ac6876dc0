use Rattle.std.proofs.Common.{◌≡◌, ◌∙◌, ℕ, List, Ok, false, refl, sym, subst, true≢false}
use Rattle.std.proofs.lemmas.Result.{on_ok_weaker}
use Rattle.std.specs.List.{list_any}
use Rattle.std.specs.Str.{bytes_eq}
use Rattle.idl_inputs.specs.Edits.{Put, after}
use Rattle.idl_project.specs.UpToDate.{State}
use Rattle.idl_loader.specs.Holding.{IsFileOf}
use Rattle.idl_server.specs.Edited.{IsSameButFor}
use Rattle.idl_server.specs.Files.{StaysBeside}
use Rattle.idl_server.proofs.FileLemmas.{put-alone, put-lines, same-self, some-same}
use Rattle.idl_server.proofs.WorkspaceLemmas.{beside-both, beside-edited, beside-kept, closed-kept, on_ok}
use Rattle.idl_server.proofs.workspace.Workspace.put.Goals as goal

pub returns-in-Ok-clause-beside : goal.returns-in-Ok-clause-beside
returns-in-Ok-clause-beside c =
    let name = c.args.name.now in
    let old = c.args.self.now in
    let put = record old { session = c.put.new.self } in
    let made = subst (λ (n : List ℕ). after old.session.project (Put n c.args.lines.items) ≡ Ok put.session.project) c.as_bytes.ensures.bytes c.in-Ok.ensures.project in
    on_ok c.keep_all.result
    (beside-both name old put (record put { touched = c.keep_all.new.kept })
    (beside-edited name old put refl refl (put-alone name c.args.lines.items old.session.project put.session.project made) (λ other apart. refl) refl refl)
    (beside-kept name put (record put { touched = c.keep_all.new.kept }) (record { encoding = refl; folders = refl; session = refl; documents = refl; tried = refl; unread = refl })))

pub returns-in-Ok-clause-documents : goal.returns-in-Ok-clause-documents
returns-in-Ok-clause-documents c = on_ok c.keep_all.result refl

pub returns-in-Ok-clause-closed : goal.returns-in-Ok-clause-closed
returns-in-Ok-clause-closed c = λ told is.
    let name = c.args.name.now in
    let old = c.args.self.now in
    let put = record old { session = c.put.new.self } in
    let made = subst (λ (n : List ℕ). after old.session.project (Put n c.args.lines.items) ≡ Ok put.session.project) c.as_bytes.ensures.bytes c.in-Ok.ensures.project in
    on_ok c.keep_all.result
    (closed-kept told name put (record put { touched = c.keep_all.new.kept }) (record { encoding = refl; folders = refl; session = refl; documents = refl; tried = refl; unread = refl }) (record {
      loaded = λ lines there.
          subst (λ (ls : List (List ℕ)). IsFileOf told name ls)
          (some-same c.args.lines.items lines (sym (put-lines name c.args.lines.items old.session.project put.session.project made) ∙ there)) is;
      missing = λ tried unread. absurd (true≢false (sym tried ∙ c.requires.untried));
    }))

pub returns-in_ok-insert-in-Err-clause-beside : goal.returns-in_ok-insert-in-Err-clause-beside
returns-in_ok-insert-in-Err-clause-beside c =
    let name = c.args.name.now in
    let old = c.args.self.now in
    let put = record old { session = c.put.new.self } in
    let kept = (record put { refused = c.push_refused.new.refused }) in
    let passed = record kept { unread = c.insert.new.self } in
    let same = subst (λ (s : State). IsSameButFor name old.session.project s.project) (sym c.in-Err.ensures.unchanged) (same-self name old.session.project) in
    on_ok_weaker c.take_out.result
    (λ (b : StaysBeside name passed c.take_out.new.self).
    beside-both name old put c.take_out.new.self (beside-edited name old put refl refl same (λ other apart. refl) refl refl)
    (beside-both name put kept c.take_out.new.self (beside-kept name put kept (record { encoding = refl; folders = refl; session = refl; documents = refl; tried = refl; unread = refl }))
    (beside-both name kept passed c.take_out.new.self (record {
      set = record { encoding = refl; folders = refl; macros = refl; search = refl };
      documents = λ other apart. refl;
      files = λ other apart. refl;
      tried = λ other apart. refl;
      unread = λ other apart. c.in_ok-insert-in-Err.ensures.updates.2 other (subst (λ (n : List ℕ). bytes_eq n other ≡ false) (sym c.copied.ensures) apart);
      roots = λ other root. root;
    }) b)))
    c.take_out.ensures.beside

pub returns-in_ok-insert-in-Err-clause-documents : goal.returns-in_ok-insert-in-Err-clause-documents
returns-in_ok-insert-in-Err-clause-documents c = on_ok_weaker c.take_out.result (λ is. is) c.take_out.ensures.documents

pub returns-in_ok-insert-in-Err-clause-closed : goal.returns-in_ok-insert-in-Err-clause-closed
returns-in_ok-insert-in-Err-clause-closed c = λ told is.
    c.take_out.ensures.closed told (λ unread.
    absurd (true≢false (sym c.in_ok-insert-in-Err.ensures.updates.1 ∙ subst (λ (n : List ℕ). list_any (bytes_eq n) c.insert.new.self.keys ≡ false) (sym c.copied.ensures) unread)))
