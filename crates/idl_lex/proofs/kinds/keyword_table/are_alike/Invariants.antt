use Rattle.std.proofs.Common.{◌≡◌, take}
use Rattle.idl_lex.specs.kinds.Keywords.{folded}
use Rattle.idl_lex.proofs.kinds.keyword_table.are_alike.Given as goal

abbrev pub invariant-loop-i : goal.invariant-loop-i
invariant-loop-i l = folded (take l.i l.a) ≡ folded (take l.i l.b)
