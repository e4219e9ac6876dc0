use Rattle.std.proofs.Common.{map, take}
use Rattle.std.specs.List.{filter}
use Rattle.idl_entity.specs.Path.{path_eq}
use Rattle.idl_project.specs.idl_sources.idl_root.declared.compiling.places.PlacedName.{PlacedName}
use Rattle.idl_server.specs.References.{AreAdded}
use Rattle.idl_server.proofs.references.NamedPlaces.add_declared.Given as goal

-- those of the names before
abbrev pub invariant-each : goal.invariant-each
invariant-each l = AreAdded (map (λ (one : PlacedName). one.place.name) (filter (λ (one : PlacedName). path_eq l.path one.path) (take l.declared-index l.names))) l.fn.self l.self
