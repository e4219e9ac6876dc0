use Rattle.std.proofs.Common.{◌≡◌, take, false, eqb}
use Rattle.std.specs.List.{All}
use Rattle.idl_source.proofs.names.parts.first_part.Given as goal

abbrev pub invariant-loop-i : goal.invariant-loop-i
invariant-loop-i l = All (λ b. eqb b l.byte ≡ false) (take l.i l.bytes)
