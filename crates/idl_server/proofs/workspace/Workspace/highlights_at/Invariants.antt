use Rattle.std.proofs.Common.{◌≡◌, map, take}
use Rattle.serde_json.specs.View.{view}
use Rattle.std.specs.List.{filter}
use Rattle.std.specs.Str.{bytes_eq}
use Rattle.idl_server.specs.References.{highlight_of}
use Rattle.idl_server.specs.declared.references.FileRange.{FileRange}
use Rattle.idl_server.proofs.workspace.Workspace.highlights_at.Given as goal

-- those of the places before
abbrev pub invariant-each : goal.invariant-each
invariant-each l = map view l.list.items ≡ map highlight_of (filter (λ (place : FileRange). bytes_eq place.file l.name) (take l.place-index l.held))
