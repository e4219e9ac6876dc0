use Rattle.std.proofs.Common.{◌≡◌, false, map, replicate, take}
use Rattle.std.specs.List.{range_with_len}
use Rattle.idl_changes.specs.Matched.{is_matched}
use Rattle.idl_changes.proofs.matched.marked.Given as goal

abbrev pub invariant-loop-item : goal.invariant-loop-item
invariant-loop-item l = l.marks.items ≡ replicate l._item false

-- by those so far
abbrev pub invariant-loop-place : goal.invariant-loop-place
invariant-loop-place l =
    l.marks.items ≡ map (is_matched (take l.place-index l.found)) (range_with_len 0 l.count)
