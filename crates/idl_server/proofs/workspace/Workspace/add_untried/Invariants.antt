use Rattle.std.proofs.Common.{◌≡◌, [], All, None, take}
use Rattle.std.specs.Map.{lookup}
use Rattle.std.specs.Str.{bytes_eq}
use Rattle.idl_server.specs.Files.{AreTriedBy}
use Rattle.idl_server.proofs.workspace.Workspace.add_untried.Given as goal

-- the names are none that is open, and where there are none, those that the roots before ask for were tried
abbrev pub invariant-roots : goal.invariant-roots
invariant-roots l = record {
  closed : All (λ name. lookup (bytes_eq name) l.self.documents.entries ≡ None) l.fn.names.keys
      → All (λ name. lookup (bytes_eq name) l.self.documents.entries ≡ None) l.names.keys;
  tried : l.names.keys ≡ [] → (l.fn.names.keys ≡ []) × AreTriedBy l.self (take l.root-index l.roots);
}
