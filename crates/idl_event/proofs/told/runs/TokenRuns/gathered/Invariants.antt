use Rattle.std.proofs.Common.{◌≡◌, ◌+◌, drop, length, take}
use Rattle.idl_event.proofs.told.runs.TokenRuns.gathered.Given as goal

abbrev pub invariant-runs : goal.invariant-runs
invariant-runs l = record {
  count : length l.gathered.items + l.left ≡ l.initial.left;
  items : l.gathered.items ≡ take (length l.gathered.items) (drop l.fn.from l.fn.self);
}

abbrev pub decreases-runs : goal.decreases-runs
decreases-runs l = l.left
