use Rattle.std.proofs.Common.{◌≡◌, map, take}
use Rattle.std.specs.List.{zip}
use Rattle.idl_json.specs.Diagnostic.{located}
use Rattle.idl_tool.specs.Json.{located_in}
use Rattle.idl_tool.proofs.json.diagnostics_of.Given as goal

-- those of the findings before
abbrev pub invariant-findings : goal.invariant-findings
invariant-findings l = record {
  files : l.columns ≡ l.fn.columns;
  found : map located l.found.items ≡ map (located_in l.fn.columns) (take l.index (zip l.findings l.related));
}
