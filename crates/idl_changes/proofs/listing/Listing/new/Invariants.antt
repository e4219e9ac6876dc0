use Rattle.std.proofs.Common.{map, take}
use Rattle.idl_changes.specs.Tables.{ArePlaces}
use Rattle.idl_changes.proofs.listing.Listing.new.Given as goal

-- those so far
abbrev pub invariant-loop-place : goal.invariant-loop-place
invariant-loop-place l = ArePlaces (map (λ tree. tree.now) (take l.place l.trees)) l.places
