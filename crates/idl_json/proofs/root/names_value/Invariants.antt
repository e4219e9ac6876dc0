use Rattle.std.proofs.Common.{◌≡◌, map, take}
use Rattle.serde_json.specs.View.{view}
use Rattle.idl_json.specs.Text.{text_json}
use Rattle.idl_json.proofs.root.names_value.Given as goal

-- those of the names before
abbrev pub invariant-names : goal.invariant-names
invariant-names l = map view l.values.items ≡ map text_json (take l.name-index l.names)
