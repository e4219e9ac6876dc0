use Rattle.std.proofs.Common.{◌≡◌, map, take}
use Rattle.serde_json.specs.View.{view}
use Rattle.idl_json.specs.Types.{reference_json}
use Rattle.idl_json.proofs.types.references_value.Given as goal

-- those of the references before
abbrev pub invariant-references : goal.invariant-references
invariant-references l = map view l.values.items ≡ map reference_json (take l.reference-index l.references)
