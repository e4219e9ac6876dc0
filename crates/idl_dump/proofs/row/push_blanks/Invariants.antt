use Rattle.std.proofs.Common.{◌≡◌, ◌≤◌, ◌-◌, ◌++◌, codes}
use Rattle.std.specs.List.{repeat}
use Rattle.idl_dump.proofs.row.push_blanks.Given as goal

-- those so far and those of the rest are all
abbrev pub invariant-loop-scope : goal.invariant-loop-scope
invariant-loop-scope l = record {
  within : l._scope ≤ l.depth;
  text :
      l.row.items ++ repeat (l.depth - l._scope) (codes "  ")
      ≡ l.fn.row.items ++ repeat l.depth (codes "  ");
}
