use Rattle.std.proofs.Common.{◌≡◌, drop}
use Rattle.idl_lex.specs.bytes.Scan.{closing_end}
use Rattle.idl_lex.proofs.KindLaws.HeaderLemmas.{ended_at}
use Rattle.idl_lex.proofs.bytes.state.closing_end.Given as goal

abbrev pub invariant-loop-i : goal.invariant-loop-i
invariant-loop-i l = ended_at l.end l.i (closing_end (drop l.i l.bytes)) ≡ closing_end l.bytes
