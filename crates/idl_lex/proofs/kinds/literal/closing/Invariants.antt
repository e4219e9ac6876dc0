use Rattle.std.proofs.Common.{◌≡◌, ◌≤◌, ◌+◌, ◌-◌, drop, length, false}
use Rattle.std.specs.Option.{option_map}
use Rattle.idl_lex.specs.kinds.Literal.{closing}
use Rattle.idl_lex.proofs.kinds.literal.closing.Given as goal

abbrev pub invariant-bytes : goal.invariant-bytes
invariant-bytes l = record {
  within : l.i ≤ length l.rest;
  same : option_map (λ n. l.i + n) (closing l.quote l.is_escaped (drop l.i l.rest)) ≡ closing l.quote false l.rest;
}

abbrev pub decreases-bytes : goal.decreases-bytes
decreases-bytes l = length l.rest - l.i
