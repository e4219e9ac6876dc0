use Rattle.std.proofs.Common.{refl}
use Rattle.idl_loader.specs.Holding.{IsFileOf}
use Rattle.idl_server.specs.Files.{told_by}
use Rattle.idl_server.proofs.WorkspaceLemmas.{all-forgotten, put-edit, some_of}
use Rattle.idl_server.proofs.workspace.Workspace.disk_edit.Goals as goal

pub returns-in-Some-clause-same : goal.returns-in-Some-clause-same
returns-in-Some-clause-same g c = record {
  encoding = c.lines_of.ensures.same.encoding;
  folders = c.lines_of.ensures.same.folders;
  session = c.lines_of.ensures.same.session;
  documents = c.lines_of.ensures.same.documents;
}

pub returns-in-Some-clause-filed : goal.returns-in-Some-clause-filed
returns-in-Some-clause-filed g c = λ are.
    let forgotten = record c.args.self.now { tried = c.forget.new.tried; unread = c.forget.new.unread } in
    c.in_ok-lines.ensures.filed
    (all-forgotten (told_by c.args.self.now.folders (g.L.PathLoader.told_of c.args.loader.now)) c.args.name.now c.args.self.now forgotten (record { encoding = refl; folders = refl; session = refl; documents = refl }) c.forget.ensures.tried c.forget.ensures.unread are)

pub returns-in-Some-clause-edit : goal.returns-in-Some-clause-edit
returns-in-Some-clause-edit g c =
    let told = told_by c.args.self.now.folders (g.L.PathLoader.told_of c.args.loader.now) in
    put-edit told c.args.self.now.documents.entries c.args.name.now c.as_bytes-bytes.result.now c.in-Some.lines.items c.as_bytes-bytes.ensures.bytes
    (some_of c.in_ok-lines.field-0 c.in-Some.lines (λ lines. IsFileOf told c.args.name.now lines.items) c.in-Some.is c.in_ok-lines.ensures.lines) c.requires

pub returns-in-None-clause-same : goal.returns-in-None-clause-same
returns-in-None-clause-same g c = record {
  encoding = c.lines_of.ensures.same.encoding;
  folders = c.lines_of.ensures.same.folders;
  session = c.lines_of.ensures.same.session;
  documents = c.lines_of.ensures.same.documents;
}

pub returns-in-None-clause-filed : goal.returns-in-None-clause-filed
returns-in-None-clause-filed g c = λ are.
    let forgotten = record c.args.self.now { tried = c.forget.new.tried; unread = c.forget.new.unread } in
    c.in_ok-lines.ensures.filed
    (all-forgotten (told_by c.args.self.now.folders (g.L.PathLoader.told_of c.args.loader.now)) c.args.name.now c.args.self.now forgotten (record { encoding = refl; folders = refl; session = refl; documents = refl }) c.forget.ensures.tried c.forget.ensures.unread are)

pub returns-in-None-clause-edit : goal.returns-in-None-clause-edit
returns-in-None-clause-edit g c = c.removal.ensures (told_by c.args.self.now.folders (g.L.PathLoader.told_of c.args.loader.now)) c.args.self.now.documents.entries c.requires

pub returns-in_err-lines-clause-same : goal.returns-in_err-lines-clause-same
returns-in_err-lines-clause-same g c = record {
  encoding = c.lines_of.ensures.same.encoding;
  folders = c.lines_of.ensures.same.folders;
  session = c.lines_of.ensures.same.session;
  documents = c.lines_of.ensures.same.documents;
}
