use Rattle.std.proofs.Common.{◌≡◌, map, take}
use Rattle.idl_json.specs.Listed.{row_of}
use Rattle.idl_tool.specs.Compared.{trees_of}
use Rattle.idl_tool.proofs.diff.trees_of.Given as goal

-- those so far
abbrev pub invariant-rows : goal.invariant-rows
invariant-rows l =
    map (λ tree. tree.now) l.trees.items ≡ trees_of (map row_of (take l.row-index l.rows))
