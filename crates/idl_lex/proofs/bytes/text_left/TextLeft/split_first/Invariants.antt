use Rattle.std.proofs.Common.{◌≡◌, ◌+◌, ◌<◌, ◌^◌, length}
use Rattle.idl_lex.proofs.ColumnLemmas.{left_of}
use Rattle.idl_lex.proofs.bytes.text_left.TextLeft.split_first.Given as goal

abbrev pub invariant-lines : goal.invariant-lines
invariant-lines l = record {
  text : left_of l.here l.later ≡ l.fn.self;
  few : l.here.number + length l.later < 2 ^ 32;
}

abbrev pub decreases-lines : goal.decreases-lines
decreases-lines l = length l.later
