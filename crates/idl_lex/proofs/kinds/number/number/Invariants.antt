use Rattle.std.proofs.Common.{◌≡◌, ◌+◌, ◌*◌, ◌^◌, ◌<◌, drop}
use Rattle.std.specs.List.{fold}
use Rattle.idl_lex.specs.bytes.Byte.{digit_value}
use Rattle.idl_lex.specs.kinds.Number.{number}
use Rattle.idl_lex.proofs.kinds.number.number.Given as goal

abbrev pub invariant-loop-b : goal.invariant-loop-b
invariant-loop-b l = record {
  same : fold (λ value b. value * l.base + digit_value b) l.value (drop l.b-index l.digits) ≡ number l.base l.digits;
  below : l.value < 2 ^ 64;
}
