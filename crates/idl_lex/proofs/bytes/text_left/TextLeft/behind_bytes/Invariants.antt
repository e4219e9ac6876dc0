use Rattle.std.proofs.Common.{◌≡◌, ◌-◌, drop}
use Rattle.idl_lex.proofs.bytes.text_left.TextLeft.behind_bytes.Given as goal

abbrev pub invariant-loop : goal.invariant-loop
invariant-loop l = drop (l.count - l.counter) l.left ≡ drop l.count l.fn.self
