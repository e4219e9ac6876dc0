use Rattle.std.proofs.Common.{◌≡◌, ℕ, List, drop, true}
use Rattle.std.specs.Prelude.{◌||◌}
use Rattle.std.specs.List.{list_any}
use Rattle.std.specs.Map.{keys_of}
use Rattle.idl_entity.specs.Path.{path_eq}
use Rattle.idl_env.proofs.answering.operations.join_asked.Given as goal

-- what is asked for is there or among the rest where it was there or is among all
abbrev pub invariant-loop-path : goal.invariant-loop-path
invariant-loop-path l =
    (p : List (List ℕ)) → list_any (path_eq p) (keys_of l.asked) ≡ true
    → (list_any (path_eq p) (keys_of l.there) || list_any (path_eq p) (drop l.path-index l.paths))
    ≡ (list_any (path_eq p) (keys_of l.fn.there) || list_any (path_eq p) l.paths)
