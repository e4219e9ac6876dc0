use Rattle.std.proofs.Common.{◌≡◌, ℕ, List, drop, is_some, true}
use Rattle.std.specs.Prelude.{fold}
use Rattle.std.specs.Map.{lookup}
use Rattle.std.specs.Str.{bytes_eq}
use Rattle.idl_check.specs.tables.Using.{with_operation}
use Rattle.idl_check.proofs.tables.bases.add_asked.Given as goal

-- the rest, put behind those so far, comes to all of them, under the names that are asked for
abbrev pub invariant-loop-path : goal.invariant-loop-path
invariant-loop-path l =
    (n : List ℕ) → is_some (lookup (bytes_eq n) l.asked) ≡ true
    → lookup (bytes_eq n) (fold with_operation l.operations (drop l.path-index l.paths))
    ≡ lookup (bytes_eq n) (fold with_operation l.fn.operations l.paths)
