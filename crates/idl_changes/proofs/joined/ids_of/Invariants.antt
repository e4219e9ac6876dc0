use Rattle.std.proofs.Common.{take}
use Rattle.idl_changes.specs.Tables.{AreCounts, AreIds}
use Rattle.idl_changes.proofs.joined.ids_of.Given as goal

-- those so far
abbrev pub invariant-loop-place : goal.invariant-loop-place
invariant-loop-place l = record {
  ids : AreIds (take l.place l.listing) l.ids;
  counts : AreCounts (take l.place l.listing) l.counts;
}
