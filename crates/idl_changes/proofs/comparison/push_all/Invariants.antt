use Rattle.std.proofs.Common.{◌≡◌, ◌++◌, length, map}
use Rattle.std.specs.Vec.Iter.{into_iter_items, into_iter_len}
use Rattle.idl_changes.specs.Changes.{change_at}
use Rattle.idl_changes.proofs.comparison.push_all.Given as goal

-- those so far
abbrev pub invariant-loop-difference : goal.invariant-loop-difference
invariant-loop-difference l = record {
  all : l.yielded ++ into_iter_items l.difference-iterator ≡ into_iter_items l.initial.difference-iterator;
  counted : into_iter_len l.difference-iterator ≡ length (into_iter_items l.difference-iterator);
  told : l.out.items ≡ l.fn.out.items ++ map (change_at l.places.0 l.places.1) l.yielded;
}
