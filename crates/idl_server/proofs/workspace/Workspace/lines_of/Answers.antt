use Rattle.std.proofs.Common.{ℕ, List, refl, subst, sym}
use Rattle.idl_loader.specs.Holding.{Allows, NoFile}
use Rattle.idl_server.specs.Files.{told_by}
use Rattle.idl_server.specs.OnDisk.{IsOnDisk}
use Rattle.idl_server.specs.declared.closing.OnDisk.{OnDisk}
use Rattle.idl_server.proofs.WorkspaceLemmas.{all-missing, all-passed-over}
use Rattle.idl_server.proofs.workspace.Workspace.lines_of.Goals as goal

pub returns-in_ok-insert-in-Missing-clause-filed : goal.returns-in_ok-insert-in-Missing-clause-filed
returns-in_ok-insert-in-Missing-clause-filed g c = λ are.
    let told = told_by c.args.self.now.folders (g.L.PathLoader.told_of c.args.loader.now) in
    let new = record c.args.self.now { tried = c.insert.new.self } in
    all-missing told c.copied.result c.args.self.now new (record { encoding = refl; folders = refl; session = refl; documents = refl }) c.in_ok-insert-in-Missing.ensures.updates.0 refl
    (subst (λ (n : List ℕ). Allows (told n) NoFile) (sym c.copied.ensures) (subst (λ (d : OnDisk). IsOnDisk told c.args.name.now d) c.in-Missing.is c.in_ok-lines.ensures.gives)) are

pub returns-in_ok-pass_over-in-Unread-clause-filed : goal.returns-in_ok-pass_over-in-Unread-clause-filed
returns-in_ok-pass_over-in-Unread-clause-filed g c =
    let told = told_by c.args.self.now.folders (g.L.PathLoader.told_of c.args.loader.now) in
    let new = record c.args.self.now { tried = c.pass_over.new.tried; unread = c.pass_over.new.unread } in
    all-passed-over told c.args.name.now c.args.self.now new (record { encoding = refl; folders = refl; session = refl; documents = refl })
    c.in_ok-pass_over-in-Unread.ensures.unread c.in_ok-pass_over-in-Unread.ensures.tried
