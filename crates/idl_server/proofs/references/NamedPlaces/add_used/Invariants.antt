use Rattle.std.proofs.Common.{map, take}
use Rattle.std.specs.List.{filter}
use Rattle.idl_entity.specs.Path.{path_eq}
use Rattle.idl_project.specs.idl_sources.idl_root.declared.compiling.places.UsedName.{UsedName}
use Rattle.idl_server.specs.References.{AreAdded}
use Rattle.idl_server.proofs.references.NamedPlaces.add_used.Given as goal

-- those of the names before
abbrev pub invariant-each : goal.invariant-each
invariant-each l = AreAdded (map (λ (one : UsedName). one.name) (filter (λ (one : UsedName). path_eq l.path one.path) (take l.used-index l.names))) l.fn.self l.self
