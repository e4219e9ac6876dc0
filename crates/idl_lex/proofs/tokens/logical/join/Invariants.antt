use Rattle.std.proofs.Common.{◌≡◌, ◌≤◌, ◌+◌, ◌-◌, ◌++◌, drop, length}
use Rattle.idl_lex.specs.tokens.Logical.{placed, continued}
use Rattle.idl_lex.proofs.tokens.logical.join.Given as goal

abbrev pub invariant-lines : goal.invariant-lines
invariant-lines l = record {
  within : l.i + 1 ≤ length l.lines;
  numbered : length l.numbers.items ≡ length l.bytes.items;
  text : placed l.numbers.items 0 l.bytes.items ++ continued (l.number + l.i) (drop l.i l.lines) ≡ continued l.number l.lines;
}

abbrev pub decreases-lines : goal.decreases-lines
decreases-lines l = length l.lines - l.i
