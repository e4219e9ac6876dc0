use Rattle.std.proofs.Common.{◌≡◌, ◌++◌, drop, flat_map, map}
use Rattle.idl_root.specs.Named.{ends_of, named_as}
use Rattle.idl_root.specs.NamePlaces.{AreNumbered, declared_until, used_in}
use Rattle.idl_root.proofs.compiling.places.RootNames.of.Given as goal

-- the names of the units so far, and of those from here on
abbrev pub invariant-loop-index : goal.invariant-loop-index
invariant-loop-index l =
    let units = map named_as l.units in
    record {
      declared :
          l.names.declared.items ++ declared_until l.events (drop l.index units) (drop l.index (ends_of units))
          ≡ declared_until l.events units (ends_of units);
      numbers : AreNumbered l.names.declared.items l.names.numbers;
      used : l.names.used.items ++ flat_map (used_in l.events) (drop l.index units) ≡ flat_map (used_in l.events) units;
    }
