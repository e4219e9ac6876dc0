use Rattle.std.proofs.Common.{◌≡◌, take}
use Rattle.idl_tool.specs.Checked.{seconds_in}
use Rattle.idl_tool.proofs.check.behind_of.Given as goal

-- those of the places before
abbrev pub invariant-related : goal.invariant-related
invariant-related l = record {
  files : l.columns ≡ l.fn.columns;
  text : l.text.items ≡ seconds_in l.fn.columns (take l.second-index l.related);
}
