use Rattle.std.proofs.Common.{◌≡◌, ◌-◌, length, slice_get, take}
use Rattle.std.specs.Option.{option_copied}
use Rattle.idl_project.specs.idl_sources.idl_root.NamePlaces.{places_at}
use Rattle.idl_server.proofs.named.last_declared.Given as goal

-- the last one of those before
abbrev pub invariant-each : goal.invariant-each
invariant-each l = let places = places_at l.path (take l.index l.declared) in option_copied l.last ≡ slice_get places (length places - 1)
