use Rattle.std.proofs.Common.{◌≡◌, map, take}
use Rattle.idl_json.specs.Listed.{row_of}
use Rattle.idl_tool.specs.Json.{row_in}
use Rattle.idl_tool.proofs.json.rows_of.Given as goal

-- those of the entries before
abbrev pub invariant-entries : goal.invariant-entries
invariant-entries l = record {
  files : l.columns ≡ l.fn.columns;
  rows : map row_of l.rows.items ≡ map (row_in l.fn.columns l.root) (take l.entry-index l.entries);
}
