use Rattle.std.proofs.Common.{◌≡◌, ◌≤◌, ◌+◌, ◌-◌, drop, length}
use Rattle.idl_lex.specs.tokens.Logical.{joined_count}
use Rattle.idl_lex.proofs.tokens.logical.joined_count.Given as goal

abbrev pub invariant-lines : goal.invariant-lines
invariant-lines l = record {
  within : l.count ≤ length l.lines;
  same : l.count + joined_count (drop l.count l.lines) ≡ joined_count l.lines;
}

abbrev pub decreases-lines : goal.decreases-lines
decreases-lines l = length l.lines - l.count
