use Rattle.std.proofs.Common.{◌≡◌, map, take}
use Rattle.serde_json.specs.View.{view}
use Rattle.idl_json.specs.Diagnostic.{second_json, second_of}
use Rattle.idl_json.proofs.diagnostic.second_values.Given as goal

-- those of the places before
abbrev pub invariant-seconds : goal.invariant-seconds
invariant-seconds l =
    map view l.values.items ≡ map second_json (map second_of (take l.second-index l.seconds))
