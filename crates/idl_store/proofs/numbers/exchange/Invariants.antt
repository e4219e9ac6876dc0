use Rattle.std.proofs.Common.{◌≡◌, ◌≤◌, ◌+◌, ◌-◌, ℕ, drop, fold, take, vec_capacity, vec_len}
use Rattle.idl_store.specs.Numbers.{drafts_of, joined, lists_of, times}
use Rattle.idl_store.specs.Stored.{placed, results_of_drafts}
use Rattle.idl_store.proofs.numbers.exchange.Given as goal

-- the drafts so far are in place, the others are as they were, and all numbers are there as often
abbrev pub invariant-loop-place : goal.invariant-loop-place
invariant-loop-place l = record {
  lists : lists_of l.lists.items ≡ fold placed (lists_of l.fn.lists.items) (take l.place (drafts_of l.fn.drafts.items));
  rest : drop l.place (drafts_of l.drafts.items) ≡ drop l.place (drafts_of l.fn.drafts.items);
  len : vec_len l.drafts ≡ vec_len l.fn.drafts;
  times : (n : ℕ)
      → times n (joined (lists_of l.lists.items)) + times n (results_of_drafts (drafts_of l.drafts.items))
      ≡ times n (joined (lists_of l.fn.lists.items)) + times n (results_of_drafts (drafts_of l.fn.drafts.items));
  room : vec_len l.lists + (vec_len l.fn.drafts - l.place) ≤ vec_capacity l.fn.lists;
  capacity : vec_capacity l.lists ≡ vec_capacity l.fn.lists;
}
