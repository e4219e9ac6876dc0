use Rattle.std.proofs.Common.{◌≡◌, ℕ, Some, nat_eq, take}
use Rattle.std.specs.List.{list_any}
use Rattle.idl_changes.specs.Partners.{is_partner}
use Rattle.idl_changes.proofs.interfaces.partners_of.Given as goal

-- those so far
abbrev pub invariant-loop-place : goal.invariant-loop-place
invariant-loop-place l =
    (n : ℕ) → list_any (nat_eq n) l.set.keys
    ≡ list_any (λ m. is_partner l.sides.0 l.sides.1 m (Some n)) (take l.place-index l.places)
