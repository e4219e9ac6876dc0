use Rattle.std.proofs.Common.{◌≡◌, ◌≤◌}
use Rattle.idl_memo.specs.Meter.{compared_after, most_compared}
use Rattle.idl_project.specs.UpToDate.{keys_asked}
use Rattle.idl_project.proofs.root_table.RootTable.keys_asked.Given as goal

-- what was counted and what is still to be counted are all
abbrev pub invariant-loop-root : goal.invariant-loop-root
invariant-loop-root l = record {
  all : compared_after l.keys (keys_asked l._root-iterator) ≡ compared_after 0 (keys_asked l.fn.self);
  fits : l.keys ≤ most_compared;
}
