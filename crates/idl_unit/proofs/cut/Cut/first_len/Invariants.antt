use Rattle.std.proofs.Common.{◌≡◌, ◌<◌, ◌≤◌, ◌-◌, ◌∷◌, drop, length, take}
use Rattle.idl_unit.specs.Ending.{token_units}
use Rattle.idl_unit.proofs.cut.Cut.first_len.Given as goal

abbrev pub invariant-more : goal.invariant-more
invariant-more l =
    let left = drop l.self.taken l.self.text.now in
    let front = take l.count left in
    record {
      some : 0 < l.len;
      within : l.len ≤ l.count;
      count : l.count ≤ length left;
      cut : token_units front ≡ take l.len front ∷ token_units (drop l.len front);
    }

abbrev pub decreases-more : goal.decreases-more
decreases-more l = length l.self.text.now - l.self.taken - l.count
