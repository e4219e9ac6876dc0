use Rattle.std.proofs.Common.{◌≡◌, map, take}
use Rattle.serde_json.specs.View.{view}
use Rattle.idl_json.specs.Rows.{parameter_json}
use Rattle.idl_json.proofs.rows.parameters_value.Given as goal

-- those of the parameters before
abbrev pub invariant-parameters : goal.invariant-parameters
invariant-parameters l = map view l.values.items ≡ map parameter_json (take l.parameter-index l.parameters)
