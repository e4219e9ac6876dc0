use Rattle.std.proofs.Common.{◌≡◌, ℕ, All, List, None, take}
use Rattle.std.specs.Map.{lookup}
use Rattle.std.specs.Str.{bytes_eq}
use Rattle.idl_server.specs.Files.{IsNamed}
use Rattle.idl_server.proofs.loading.add_closed.Given as goal

-- none is open, and those before are among them
abbrev pub invariant-asked : goal.invariant-asked
invariant-asked l = record {
  closed : All (λ name. lookup (bytes_eq name) l.documents.entries ≡ None) l.fn.names.keys
      → All (λ name. lookup (bytes_eq name) l.documents.entries ≡ None) l.names.keys;
  all : All (IsNamed l.names.keys l.documents.entries) (take l.name-index l.asked);
  kept : (name : List ℕ) → IsNamed l.fn.names.keys l.documents.entries name → IsNamed l.names.keys l.documents.entries name;
}
