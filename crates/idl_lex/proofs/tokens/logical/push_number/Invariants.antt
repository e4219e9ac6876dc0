use Rattle.std.proofs.Common.{◌≡◌, ◌++◌, ◌-◌, replicate}
use Rattle.idl_lex.proofs.tokens.logical.push_number.Given as goal

abbrev pub invariant-loop : goal.invariant-loop
invariant-loop l = l.numbers.items ++ replicate (l.count - l.counter) l.number ≡ l.fn.numbers.items ++ replicate l.count l.number
