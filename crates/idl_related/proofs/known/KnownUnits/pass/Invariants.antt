use Rattle.std.proofs.Common.{◌≡◌}
use Rattle.idl_related.proofs.known.KnownUnits.pass.Given as goal

-- the units stay
abbrev pub invariant-loop-index : goal.invariant-loop-index
invariant-loop-index l = l.self.units ≡ l.fn.self.units
