use Rattle.std.proofs.Common.{◌≡◌, ◌-◌, ◌<◌, length}
use Rattle.idl_finding.specs.Number.{AreNumbersOf, token_number}
use Rattle.idl_finding.proofs.number.LineNumbers.new.Given as goal

-- those of the events so far, and of the one before
abbrev pub invariant-loop-event : goal.invariant-loop-event
invariant-loop-event l = record {
  numbers : AreNumbersOf l.expansion l.numbers.items;
  count : l.event ≡ length l.numbers.items;
  before : 0 < l.event → l.number ≡ token_number l.expansion (l.event - 1);
}
