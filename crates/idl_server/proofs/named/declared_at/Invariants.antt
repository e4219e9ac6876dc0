use Rattle.std.proofs.Common.{◌≡◌, drop}
use Rattle.std.specs.List.{find}
use Rattle.idl_server.specs.Named.{stands_at}
use Rattle.idl_project.specs.idl_sources.idl_root.declared.compiling.places.PlacedName.{PlacedName}
use Rattle.idl_server.proofs.named.declared_at.Given as goal

-- none of those before
abbrev pub invariant-each : goal.invariant-each
invariant-each l = let p = (λ (declared : PlacedName). stands_at l.encoding l.session.project l.spot.file.now.name.now l.spot.position declared.place.name) in find p (drop l.index l.names) ≡ find p l.names
