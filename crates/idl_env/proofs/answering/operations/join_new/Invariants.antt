use Rattle.std.proofs.Common.{◌≡◌, ℕ, List, drop}
use Rattle.std.specs.List.{list_any}
use Rattle.std.specs.Map.{keys_of}
use Rattle.idl_env.specs.Facts.{joined}
use Rattle.idl_entity.specs.Path.{path_eq}
use Rattle.idl_env.proofs.answering.operations.join_new.Given as goal

-- the rest of the paths, put behind those so far, comes to all of them; and the table still tells of what it told of
abbrev pub invariant-loop-path : goal.invariant-loop-path
invariant-loop-path l =
    (joined l.found (drop l.path-index l.paths) ≡ joined l.fn.found l.paths)
    × ((p : List (List ℕ)) → list_any (path_eq p) (keys_of l.fn.there) ≡ list_any (path_eq p) l.fn.found → list_any (path_eq p) (keys_of l.there) ≡ list_any (path_eq p) l.found)
