use Rattle.std.proofs.Common.{refl}
use Rattle.std.specs.Option.{option_copied}
use Rattle.idl_server.specs.Files.{IsKept}
use Rattle.idl_server.specs.Roots.{IsOpen}
use Rattle.idl_server.proofs.CoveredLemmas.{all-covered, room-called, rooted-kept}
use Rattle.idl_server.proofs.WorkspaceLemmas.{kept-stays, some_of}
use Rattle.idl_server.proofs.workspace.Workspace.adopt_one.Goals as goal

pub returns-in_err-name-clause-filed : goal.returns-in_err-name-clause-filed
returns-in_err-name-clause-filed c = record { encoding = refl; folders = refl; inputs = refl; documents = refl; tried = refl; unread = refl }

pub returns-in_err-adopt-clause-filed : goal.returns-in_err-adopt-clause-filed
returns-in_err-adopt-clause-filed c =
    let called = record c.args.self.now { turned_away = c.call_back.new.turned_away } in
    let kept : IsKept c.args.self.now called = record { encoding = refl; folders = refl; session = refl; documents = refl; tried = refl; unread = refl } in
    kept-stays c.args.self.now called c.adopt.new.self kept c.adopt.ensures.filed

-- no document is left
pub returns-in_default-clause-filed : goal.returns-in_default-clause-filed
returns-in_default-clause-filed c = record { encoding = refl; folders = refl; inputs = refl; documents = refl; tried = refl; unread = refl }

pub returns-in_default-clause-covered : goal.returns-in_default-clause-covered
returns-in_default-clause-covered c = λ none.
    let called = record c.args.self.now { turned_away = c.call_back.new.turned_away } in
    all-covered called (room-called called.session.project called.turned_away.keys (option_copied c.root.result) c.root.ensures c.call_back.ensures) (c.in_ok-name.ensures.none c.in_default.is)

pub returns-in_default-clause-rooted : goal.returns-in_default-clause-rooted
returns-in_default-clause-rooted c = λ are.
    let called = record c.args.self.now { turned_away = c.call_back.new.turned_away } in
    rooted-kept c.args.self.now called (record { encoding = refl; folders = refl; session = refl; documents = refl; tried = refl; unread = refl }) are

-- one becomes a root, or is turned away
pub returns-clause-filed : goal.returns-clause-filed
returns-clause-filed c =
    let called = record c.args.self.now { turned_away = c.call_back.new.turned_away } in
    let kept : IsKept c.args.self.now called = record { encoding = refl; folders = refl; session = refl; documents = refl; tried = refl; unread = refl } in
    kept-stays c.args.self.now called c.adopt.new.self kept c.adopt.ensures.filed

pub returns-clause-rooted : goal.returns-clause-rooted
returns-clause-rooted c = λ are.
    let called = record c.args.self.now { turned_away = c.call_back.new.turned_away } in
    c.in_ok-adopt.ensures.rooted (some_of c.in_ok-name.field-0 c.in-Some.name (IsOpen called) c.in-Some.is c.in_ok-name.ensures.opened)
    (rooted-kept c.args.self.now called (record { encoding = refl; folders = refl; session = refl; documents = refl; tried = refl; unread = refl }) are)
