use Rattle.std.proofs.Common.{◌≡◌, ◌≤◌, ◌-◌, drop, length}
use Rattle.idl_env.specs.Stamps.{stamped_in, stamped_over}
use Rattle.idl_env.proofs.answering.state.put_all.Given as goal

-- the answers are those over the additions behind, from the last one on
abbrev pub invariant-loop-back : goal.invariant-loop-back
invariant-loop-back l = record {
  count : l.count ≡ length l.facts.additions;
  within : l.back ≤ l.count;
  answers : stamped_in l.answers ≡ stamped_over (drop (l.count - l.back) l.facts.additions) (stamped_in l.fn.answers);
}
