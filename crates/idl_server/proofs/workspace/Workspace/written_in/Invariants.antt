use Rattle.std.proofs.Common.{◌≡◌, All, None}
use Rattle.std.specs.Map.{lookup}
use Rattle.std.specs.Str.{bytes_eq}
use Rattle.idl_server.proofs.workspace.Workspace.written_in.Given as goal

-- none is open
abbrev pub invariant-files : goal.invariant-files
invariant-files l = All (λ name. lookup (bytes_eq name) l.self.documents.entries ≡ None) l.names.keys
