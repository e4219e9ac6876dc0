-- What stands in memory of its own.
use Rattle.std.specs.Prelude.{Option, None, Some}
use Rattle.std.specs.Global.{Box}

-- what stands there, if anything does
abbrev pub boxed_or : {X : Type 0} → X → Option (Box X) → X
boxed_or none None = none
boxed_or none (Some x) = x.value
