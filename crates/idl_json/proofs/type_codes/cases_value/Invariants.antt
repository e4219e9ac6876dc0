use Rattle.std.proofs.Common.{◌≡◌, map, take}
use Rattle.serde_json.specs.View.{view}
use Rattle.idl_json.specs.TypeCodes.{case_json}
use Rattle.idl_json.proofs.type_codes.cases_value.Given as goal

-- those of the cases before
abbrev pub invariant-cases : goal.invariant-cases
invariant-cases l = map view l.values.items ≡ map case_json (take l.case-index l.cases)
