use Rattle.std.proofs.Common.{◌≡◌, ◌+◌, drop}
use Rattle.idl_lex.specs.bytes.Scan.{taken}
use Rattle.idl_lex.proofs.bytes.state.taken.Given as goal

abbrev pub invariant-loop-i : goal.invariant-loop-i
invariant-loop-i l = l.i + taken l.now (drop l.i l.bytes) ≡ taken l.fn.state l.bytes
