use Rattle.std.proofs.Common.{◌≡◌, All, None, take}
use Rattle.std.specs.Map.{lookup}
use Rattle.std.specs.Str.{bytes_eq}
use Rattle.idl_inputs.specs.Asked.{asked_of}
use Rattle.idl_server.specs.Files.{IsAmong}
use Rattle.idl_server.proofs.workspace.Workspace.asked_closed.Given as goal

-- none is open, and what the roots before ask for is among them
abbrev pub invariant-roots : goal.invariant-roots
invariant-roots l =
    let project = l.self.session.project in
    record {
      closed : All (λ name. lookup (bytes_eq name) l.self.documents.entries ≡ None) l.names.keys;
      all : All (λ root. All (IsAmong l.names.keys l.self) (asked_of project root)) (take l.root-index project.roots);
    }
