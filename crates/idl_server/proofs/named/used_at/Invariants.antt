use Rattle.std.proofs.Common.{◌≡◌, drop}
use Rattle.std.specs.List.{find}
use Rattle.idl_server.specs.Named.{stands_at}
use Rattle.idl_project.specs.idl_sources.idl_root.declared.compiling.places.UsedName.{UsedName}
use Rattle.idl_server.proofs.named.used_at.Given as goal

-- none of those before
abbrev pub invariant-each : goal.invariant-each
invariant-each l = let p = (λ (used : UsedName). stands_at l.encoding l.session.project l.spot.file.now.name.now l.spot.position used.name) in find p (drop l.index l.uses) ≡ find p l.uses
