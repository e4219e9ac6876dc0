use Rattle.std.proofs.Common.{◌≡◌, ◌-◌, ◌≤◌, drop}
use Rattle.idl_store.specs.Numbers.{joined, numbers_of, times}
use Rattle.idl_store.specs.Spots.{lists_among}
use Rattle.idl_store.proofs.numbers.spot_among.Given as goal

-- the number isn't one of those behind
abbrev pub invariant-loop-behind : goal.invariant-loop-behind
invariant-loop-behind l = record {
  none : times l.number (joined (drop (l.count - l.behind) (lists_among (numbers_of l.lists l.drafts) l.is_draft))) ≡ 0;
  within : l.behind ≤ l.count;
}
