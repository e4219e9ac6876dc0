use Rattle.std.proofs.Common.{◌≡◌, length}
use Rattle.idl_macro.specs.conditions.Condition.{Chain, Tail}
use Rattle.idl_macro.specs.conditions.Waiting.{meaning, IsBelow, IsComplete, IsRising}
use Rattle.idl_macro.proofs.conditions.condition.settle.Given as goal

abbrev pub invariant-operators : goal.invariant-operators
invariant-operators l = record {
  same : (c : Chain) (t : Tail) → IsBelow c l.floor → meaning l.stack l.value c t ≡ meaning l.fn.stack l.fn.operand c t;
  rising : IsRising l.stack;
  complete : IsComplete l.stack;
}

abbrev pub decreases-operators : goal.decreases-operators
decreases-operators l = length l.stack
