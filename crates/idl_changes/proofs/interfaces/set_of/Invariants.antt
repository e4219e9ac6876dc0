use Rattle.std.proofs.Common.{◌≡◌, ℕ, nat_eq, take}
use Rattle.std.specs.List.{list_any}
use Rattle.idl_changes.proofs.interfaces.set_of.Given as goal

-- those so far
abbrev pub invariant-loop-place : goal.invariant-loop-place
invariant-loop-place l =
    (n : ℕ) → list_any (nat_eq n) l.set.keys ≡ list_any (nat_eq n) (take l.place-index l.places)
