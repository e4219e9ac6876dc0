use Rattle.std.proofs.Common.{◌≡◌, ◌++◌, drop, filter, map}
use Rattle.idl_root.specs.NamePlaces.{is_at, places_at}
use Rattle.idl_root.proofs.compiling.places.RootNames.places.Given as goal

-- the places so far, and those from here on
abbrev pub invariant-loop-number : goal.invariant-loop-number
invariant-loop-number l =
    l.places.items ++ map (λ name. name.place) (drop l.number-index (filter (is_at l.path) l.self.declared.items))
    ≡ places_at l.path l.self.declared.items
