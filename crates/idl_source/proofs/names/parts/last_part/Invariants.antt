use Rattle.std.proofs.Common.{◌≡◌, ◌≤◌, drop, length, false, eqb}
use Rattle.std.specs.List.{All}
use Rattle.idl_source.proofs.names.parts.last_part.Given as goal

abbrev pub invariant-loop-place : goal.invariant-loop-place
invariant-loop-place l = record {
  within : l.place ≤ length l.bytes;
  none : All (λ b. eqb b l.byte ≡ false) (drop l.place l.bytes);
}

abbrev pub decreases-loop-place : goal.decreases-loop-place
decreases-loop-place l = l.place
