use Rattle.std.proofs.Common.{◌≡◌, [], All, None, take}
use Rattle.std.specs.Map.{lookup}
use Rattle.std.specs.Str.{bytes_eq}
use Rattle.idl_server.specs.Files.{IsNamed}
use Rattle.idl_server.proofs.loading.add_absent.Given as goal

-- the names are none that is open, and where there are none, those before were tried
abbrev pub invariant-absent : goal.invariant-absent
invariant-absent l = record {
  closed : All (λ name. lookup (bytes_eq name) l.documents.entries ≡ None) l.fn.names.keys
      → All (λ name. lookup (bytes_eq name) l.documents.entries ≡ None) l.names.keys;
  tried : l.names.keys ≡ [] → (l.fn.names.keys ≡ []) × All (IsNamed l.tried.keys l.documents.entries) (take l.name-index l.absent);
}
