use Rattle.std.proofs.Common.{◌≡◌, map, take}
use Rattle.serde_json.specs.View.{view}
use Rattle.idl_json.specs.Objects.{number_json}
use Rattle.idl_json.proofs.types.lengths_value.Given as goal

-- those of the lengths before
abbrev pub invariant-lengths : goal.invariant-lengths
invariant-lengths l = map view l.values.items ≡ map number_json (take l.length-index l.lengths)
