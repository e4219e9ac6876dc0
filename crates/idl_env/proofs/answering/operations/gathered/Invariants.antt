use Rattle.std.proofs.Common.{◌≡◌, ℕ, List, drop}
use Rattle.std.specs.List.{list_any}
use Rattle.std.specs.Map.{keys_of}
use Rattle.idl_env.specs.Stamps.{stamped_in}
use Rattle.idl_env.specs.Facts.{gathered}
use Rattle.idl_entity.specs.Path.{path_eq}
use Rattle.idl_env.proofs.answering.operations.gathered.Given as goal

-- those of the rest of the bases, put behind those so far, are all; and the paths that are there are those so far
abbrev pub invariant-loop-base : goal.invariant-loop-base
invariant-loop-base l =
    (gathered (stamped_in l.answers).at l.found (drop l.base-index l.bases) ≡ gathered (stamped_in l.answers).at l.fn.found l.bases)
    × ((p : List (List ℕ)) → list_any (path_eq p) (keys_of l.there) ≡ list_any (path_eq p) l.found)
