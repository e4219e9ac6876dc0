use Rattle.std.proofs.Common.{◌≡◌, ◌++◌, drop, flat_map}
use Rattle.idl_root.specs.Named.{named_as}
use Rattle.idl_root.specs.NamePlaces.{AreNumbered, declared_by, declared_in, used_by, used_in}
use Rattle.idl_root.proofs.compiling.places.RootNames.add_unit.Given as goal

-- the names so far, and those from here on
abbrev pub invariant-loop-name : goal.invariant-loop-name
invariant-loop-name l =
    let unit = named_as l.unit in
    record {
      declared :
          l.self.declared.items ++ flat_map (declared_by l.events unit (named_as l.end)) (drop l.name-index unit.names)
          ≡ l.fn.self.declared.items ++ declared_in l.events unit (named_as l.end);
      numbers : AreNumbered l.self.declared.items l.self.numbers;
      used : l.self.used.items ++ flat_map (used_by l.events unit) (drop l.name-index unit.names) ≡ l.fn.self.used.items ++ used_in l.events unit;
    }
