use Rattle.std.proofs.Common.{◌≡◌, ◌+◌, ◌≤◌, ◌++◌, drop, flat_map, length, take}
use Rattle.idl_memo.proofs.runs.agreed.Given as goal

-- the entries are those of the steps so far, and behind them what is left
abbrev pub invariant-steps : goal.invariant-steps
invariant-steps g l = record {
  whole : l.entries ≡ flat_map (g.B.Step.Step.logged l.head) (take l.count l.steps) ++ l.rest;
  count : l.count + length l.rest ≤ length l.entries;
  behind : drop l.count l.steps ≡ l.behind;
}

abbrev pub decreases-steps : goal.decreases-steps
decreases-steps g l = length l.behind
