use Rattle.std.proofs.Common.{◌≡◌, take}
use Rattle.idl_changes.specs.Listing.{by_id}
use Rattle.idl_changes.specs.Tables.{AreCounts, each}
use Rattle.idl_changes.proofs.joined.all_by_id.Given as goal

-- those so far
abbrev pub invariant-loop-tree : goal.invariant-loop-tree
invariant-loop-tree l = record {
  counts : AreCounts (take l.tree-index l.old) l.counts;
  found : l.all.items ≡ take l.tree-index (each (by_id l.old l.new) l.old);
}
