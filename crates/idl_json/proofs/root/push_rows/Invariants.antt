use Rattle.std.proofs.Common.{◌≡◌, ◌++◌, false, map, take}
use Rattle.idl_json.specs.Listed.{row_json, row_of}
use Rattle.idl_json.proofs.LineLemmas.{opened}
use Rattle.idl_json.proofs.root.push_rows.Given as goal

-- those of the rows before
abbrev pub invariant-rows : goal.invariant-rows
invariant-rows l = l.out.items ≡ l.initial.out.items ++ opened false (map row_json (map row_of (take l.index l.listing)))
