use Rattle.std.proofs.Common.{◌≡◌, length}
use Rattle.idl_macro.specs.conditions.Condition.{Chain, Tail}
use Rattle.idl_macro.specs.conditions.Waiting.{meaning, IsRising}
use Rattle.idl_macro.proofs.conditions.condition.complete.Given as goal

abbrev pub invariant-signs : goal.invariant-signs
invariant-signs l = record {
  same : (c : Chain) (t : Tail) → meaning l.stack l.value c t ≡ meaning l.fn.stack l.fn.operand c t;
  rising : IsRising l.stack;
}

abbrev pub decreases-signs : goal.decreases-signs
decreases-signs l = length l.stack
