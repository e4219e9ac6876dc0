use Rattle.std.proofs.Common.{◌≡◌, ◌∙◌, ℕ, List, false, refl, subst, sym, true≢false}
use Rattle.std.proofs.lemmas.Result.{on_ok_weaker}
use Rattle.std.specs.List.{list_any}
use Rattle.std.specs.Str.{bytes_eq}
use Rattle.idl_server.specs.Files.{StaysBeside, told_by}
use Rattle.idl_server.specs.OnDisk.{IsOnDisk}
use Rattle.idl_server.specs.declared.closing.OnDisk.{OnDisk}
use Rattle.idl_server.proofs.WorkspaceLemmas.{beside-both, beside-forgotten}
use Rattle.idl_server.proofs.workspace.Workspace.reload.Goals as goal

pub returns-in-Lines-clause-beside : goal.returns-in-Lines-clause-beside
returns-in-Lines-clause-beside g c =
    let name = c.args.name.now in
    let old = c.args.self.now in
    let forgotten = record old { tried = c.forget.new.tried; unread = c.forget.new.unread } in
    on_ok_weaker c.put.result (λ (b : StaysBeside name forgotten c.put.new.self). beside-both name old forgotten c.put.new.self (beside-forgotten name old forgotten (record { encoding = refl; folders = refl; session = refl; documents = refl }) c.forget.ensures.tried c.forget.ensures.unread) b) c.put.ensures.beside

pub returns-in-Lines-clause-closed : goal.returns-in-Lines-clause-closed
returns-in-Lines-clause-closed g c =
    let told = told_by c.args.self.now.folders (g.L.PathLoader.told_of c.args.loader.now) in
    c.put.ensures.closed told (subst (λ (d : OnDisk). IsOnDisk told c.args.name.now d) c.in-Lines.is c.in_ok-lines.ensures.gives)

pub returns-in-Missing-clause-beside : goal.returns-in-Missing-clause-beside
returns-in-Missing-clause-beside g c =
    let name = c.args.name.now in
    let old = c.args.self.now in
    let forgotten = record old { tried = c.forget.new.tried; unread = c.forget.new.unread } in
    on_ok_weaker c.take_out.result (λ (b : StaysBeside name forgotten c.take_out.new.self). beside-both name old forgotten c.take_out.new.self (beside-forgotten name old forgotten (record { encoding = refl; folders = refl; session = refl; documents = refl }) c.forget.ensures.tried c.forget.ensures.unread) b) c.take_out.ensures.beside

pub returns-in-Missing-clause-closed : goal.returns-in-Missing-clause-closed
returns-in-Missing-clause-closed g c =
    let told = told_by c.args.self.now.folders (g.L.PathLoader.told_of c.args.loader.now) in
    c.take_out.ensures.closed told (λ unread. subst (λ (d : OnDisk). IsOnDisk told c.args.name.now d) c.in-Missing.is c.in_ok-lines.ensures.gives)

pub returns-in_ok-insert-in-Unread-clause-beside : goal.returns-in_ok-insert-in-Unread-clause-beside
returns-in_ok-insert-in-Unread-clause-beside g c =
    let name = c.args.name.now in
    let old = c.args.self.now in
    let forgotten = record old { tried = c.forget.new.tried; unread = c.forget.new.unread } in
    let passed = record forgotten { unread = c.insert.new.self } in
    on_ok_weaker c.take_out-in-Unread.result
    (λ (b : StaysBeside name passed c.take_out-in-Unread.new.self).
    beside-both name old forgotten c.take_out-in-Unread.new.self (beside-forgotten name old forgotten (record { encoding = refl; folders = refl; session = refl; documents = refl }) c.forget.ensures.tried c.forget.ensures.unread)
    (beside-both name forgotten passed c.take_out-in-Unread.new.self (record {
      set = record { encoding = refl; folders = refl; macros = refl; search = refl };
      documents = λ other apart. refl;
      files = λ other apart. refl;
      tried = λ other apart. refl;
      unread = λ other apart. c.in_ok-insert-in-Unread.ensures.updates.2 other (subst (λ (n : List ℕ). bytes_eq n other ≡ false) (sym c.copied.ensures) apart);
      roots = λ other root. root;
    }) b))
    c.take_out-in-Unread.ensures.beside

pub returns-in_ok-insert-in-Unread-clause-closed : goal.returns-in_ok-insert-in-Unread-clause-closed
returns-in_ok-insert-in-Unread-clause-closed g c =
    c.take_out-in-Unread.ensures.closed (told_by c.args.self.now.folders (g.L.PathLoader.told_of c.args.loader.now)) (λ unread.
    absurd
    (true≢false
    (sym c.in_ok-insert-in-Unread.ensures.updates.1 ∙ subst (λ (n : List ℕ). list_any (bytes_eq n) c.insert.new.self.keys ≡ false) (sym c.copied.ensures) unread)))
