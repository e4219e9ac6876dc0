use Rattle.std.proofs.Common.{◌≡◌, ◌⊎◌, ℕ, List, true}
use Rattle.std.specs.List.{list_any}
use Rattle.std.specs.Str.{bytes_eq}
use Rattle.idl_server.proofs.roots.take_all.Given as goal

-- the names that are gone are among those that are taken out
abbrev pub invariant-names : goal.invariant-names
invariant-names l = record {
  left : (name : List ℕ) → list_any (bytes_eq name) l.fn.names.keys ≡ true
      → (list_any (bytes_eq name) l.names.keys ≡ true) ⊎ (list_any (λ one. bytes_eq one name) l.asked ≡ true);
  few : (name : List ℕ) → list_any (bytes_eq name) l.names.keys ≡ true → list_any (bytes_eq name) l.fn.names.keys ≡ true;
}
