use Rattle.std.proofs.Common.{◌≡◌, take}
use Rattle.idl_changes.specs.Offered.{ancestors}
use Rattle.idl_changes.specs.Tables.{each}
use Rattle.idl_changes.proofs.offered.all_ancestors.Given as goal

-- those so far
abbrev pub invariant-loop-place : goal.invariant-loop-place
invariant-loop-place l = l.all.items ≡ take l.place (each (λ i e. ancestors l.listing i) l.listing)
