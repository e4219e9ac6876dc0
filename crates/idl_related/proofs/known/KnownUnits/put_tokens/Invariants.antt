use Rattle.std.proofs.Common.{◌≡◌}
use Rattle.idl_related.proofs.known.KnownUnits.put_tokens.Given as goal

-- the units stay
abbrev pub invariant-loop-name : goal.invariant-loop-name
invariant-loop-name l = l.self.units ≡ l.fn.self.units
