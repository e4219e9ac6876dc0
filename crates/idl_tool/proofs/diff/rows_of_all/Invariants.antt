use Rattle.std.proofs.Common.{◌≡◌, flat_map, map, take}
use Rattle.idl_json.specs.Listed.{row_of}
use Rattle.idl_tool.specs.Json.{rows_of}
use Rattle.idl_tool.proofs.diff.rows_of_all.Given as goal

-- those so far
abbrev pub invariant-roots : goal.invariant-roots
invariant-roots l = record {
  rows : map row_of l.rows.items ≡ flat_map (rows_of l.sources) (take l.index l.roots);
  same : l.columns ≡ l.initial.columns;
}
