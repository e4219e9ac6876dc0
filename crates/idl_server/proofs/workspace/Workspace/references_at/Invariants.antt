use Rattle.std.proofs.Common.{◌≡◌, map, take}
use Rattle.serde_json.specs.View.{view}
use Rattle.idl_server.specs.References.{told_of}
use Rattle.idl_server.proofs.workspace.Workspace.references_at.Given as goal

-- those of the places before
abbrev pub invariant-each : goal.invariant-each
invariant-each l = map view l.list.items ≡ map (told_of l.self) (take l.place-index l.held)
