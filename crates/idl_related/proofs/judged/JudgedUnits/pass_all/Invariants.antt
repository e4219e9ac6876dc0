use Rattle.std.proofs.Common.{◌≡◌, ◌++◌, [], true, drop, map}
use Rattle.idl_related.specs.FirstDeclared.{told_after, without_other_places}
use Rattle.idl_related.specs.Judged.{IsOfRoot, units_before}
use Rattle.idl_related.proofs.judged.JudgedUnits.pass_all.Given as goal

-- what was told of the units before, and what is told of those from here on
abbrev pub invariant-units : goal.invariant-units
invariant-units l = record {
  root : IsOfRoot l.self;
  expansion : l.self.expansion.now ≡ l.fn.self.expansion.now;
  asks : l.self.asks_first ≡ l.fn.self.asks_first;
  told :
      l.fn.self.asks_first ≡ true
      → map without_other_places l.self.told.items ++ told_after l.fn.self.expansion.now (units_before l.self l.env l.number) (drop l.number l.units)
      ≡ map without_other_places l.fn.self.told.items ++ told_after l.fn.self.expansion.now (units_before l.fn.self [] 0) l.units;
}
