use Rattle.std.proofs.Common.{◌≡◌}
use Rattle.std.specs.Map.{lookup}
use Rattle.idl_map.proofs.arena.Arena.found_in_rest.Given as goal

-- the key isn't among those so far
abbrev pub invariant-loop-other : goal.invariant-loop-other
invariant-loop-other g l =
    let test = g.K.PartialEq.eq (g.L.Lent.key l.key) in
    lookup test l.self.rest.entries ≡ lookup test l.other-iterator
