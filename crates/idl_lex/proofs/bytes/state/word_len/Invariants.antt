use Rattle.std.proofs.Common.{◌≡◌, ◌+◌, drop}
use Rattle.idl_lex.specs.bytes.Scan.{taken}
use Rattle.idl_lex.specs.declared.bytes.state.Inside.TheVariants.{Word}
use Rattle.idl_lex.proofs.bytes.state.word_len.Given as goal

abbrev pub invariant-loop-i : goal.invariant-loop-i
invariant-loop-i l = l.i + taken Word (drop l.i l.bytes) ≡ taken Word l.bytes
