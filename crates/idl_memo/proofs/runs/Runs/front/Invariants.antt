use Rattle.std.proofs.Common.{◌≡◌, ◌+◌, ◌≤◌, ◌++◌, flat_map, length}
use Rattle.idl_memo.proofs.runs.Runs.front.Given as goal

-- the entries are those of the steps so far, and behind them what is left
abbrev pub invariant-steps : goal.invariant-steps
invariant-steps g l = record {
  whole : l.entries ≡ flat_map (g.B.Step.Step.logged l.head) l.first.items ++ l.rest;
  count : length l.first.items + length l.rest ≤ length l.entries;
}

abbrev pub decreases-steps : goal.decreases-steps
decreases-steps g l = length l.rest
