use Rattle.std.proofs.Common.{◌≡◌, ◌++◌, length, map}
use Rattle.std.specs.Vec.Iter.{into_iter_items, into_iter_len}
use Rattle.idl_changes.specs.Rows.{eased}
use Rattle.idl_changes.specs.declared.change.Difference.{Difference}
use Rattle.idl_changes.proofs.entries.all_eased.Given as goal

-- those so far
abbrev pub invariant-loop-difference : goal.invariant-loop-difference
invariant-loop-difference l = record {
  all : l.yielded ++ into_iter_items l.difference-iterator ≡ into_iter_items l.initial.difference-iterator;
  counted : into_iter_len l.difference-iterator ≡ length (into_iter_items l.difference-iterator);
  told : l.all.items ≡ map (λ (d : Difference). record d { weights = eased d.weights }) l.yielded;
}
