use Rattle.std.proofs.Common.{◌≡◌, map, take}
use Rattle.idl_tool.specs.Words.{below}
use Rattle.idl_tool.proofs.versions.all_below.Given as goal

-- those so far
abbrev pub invariant-paths : goal.invariant-paths
invariant-paths l =
    map (λ w. w.now) l.all.items ≡ map (below l.directory) (map (λ w. w.now) (take l.path-index l.paths))
