use Rattle.std.proofs.Common.{◌≡◌, map, take}
use Rattle.idl_json.specs.Diagnostic.{second_of}
use Rattle.idl_tool.specs.Json.{second_at}
use Rattle.idl_tool.proofs.json.seconds_of.Given as goal

-- those of the places before
abbrev pub invariant-related : goal.invariant-related
invariant-related l = record {
  files : l.columns ≡ l.fn.columns;
  seconds : map second_of l.seconds.items ≡ map (second_at l.fn.columns) (take l.second-index l.related);
}
