use Rattle.std.proofs.Common.{◌≡◌, ◌++◌, length}
use Rattle.idl_entity.specs.Path.{path_of}
use Rattle.idl_entity.proofs.paths.path.Path.names.Given as goal

-- the names so far, and those that are left, are all
abbrev pub invariant-loop-link : goal.invariant-loop-link
invariant-loop-link l = l.names.items ++ path_of l.link ≡ l.self

abbrev pub decreases-loop-link : goal.decreases-loop-link
decreases-loop-link l = length (path_of l.link)
