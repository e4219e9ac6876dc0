use Rattle.std.proofs.Common.{◌≡◌, drop}
use Rattle.idl_unit.specs.Scoping.{brace_from}
use Rattle.idl_unit.proofs.scoping.first_brace.Given as goal

-- it is the first of the rest
abbrev pub invariant-loop-index : goal.invariant-loop-index
invariant-loop-index l = brace_from l.index (drop l.index l.tokens) ≡ brace_from 0 l.tokens
