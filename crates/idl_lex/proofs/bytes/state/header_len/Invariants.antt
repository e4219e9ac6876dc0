use Rattle.std.proofs.Common.{◌≡◌, ◌+◌, drop}
use Rattle.std.specs.Option.{option_map}
use Rattle.idl_lex.specs.bytes.Scan.{header_len}
use Rattle.idl_lex.proofs.bytes.state.header_len.Given as goal

abbrev pub invariant-loop-i : goal.invariant-loop-i
invariant-loop-i l = option_map (λ n. l.i + n) (header_len (drop l.i l.rest)) ≡ header_len l.rest
