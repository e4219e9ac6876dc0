use Rattle.std.proofs.Common.{◌≡◌, map, take}
use Rattle.serde_json.specs.View.{view}
use Rattle.idl_json.specs.Text.{text_json}
use Rattle.idl_json.proofs.text.texts_value.Given as goal

-- those of the texts before
abbrev pub invariant-texts : goal.invariant-texts
invariant-texts l = map view l.values.items ≡ map text_json (take l.text-index l.texts)
