use Rattle.std.proofs.Common.{◌≡◌, ◌++◌, drop}
use Rattle.idl_check.proofs.walk.valuing.spell_each.Given as goal

-- those so far and the rest are all
abbrev pub invariant-loop-name : goal.invariant-loop-name
invariant-loop-name l = l.spelled.items ++ drop l.name-index l.names ≡ l.fn.spelled.items ++ l.names
