use Rattle.std.proofs.Common.{◌≡◌, take}
use Rattle.idl_changes.specs.Partners.{partner}
use Rattle.idl_changes.specs.Tables.{each}
use Rattle.idl_changes.proofs.sides.all_partners.Given as goal

-- those so far
abbrev pub invariant-loop-place : goal.invariant-loop-place
invariant-loop-place l = l.all.items ≡ take l.place (each (λ i e. partner l.old l.new i) l.old)
