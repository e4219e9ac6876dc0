use Rattle.std.proofs.Common.{◌≡◌, map, take}
use Rattle.serde_json.specs.View.{view}
use Rattle.idl_json.specs.TypeCodes.{member_json}
use Rattle.idl_json.proofs.type_codes.members_value.Given as goal

-- those of the members before
abbrev pub invariant-members : goal.invariant-members
invariant-members l = map view l.values.items ≡ map member_json (take l.member-index l.members)
