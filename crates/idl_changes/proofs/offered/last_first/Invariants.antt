use Rattle.std.proofs.Common.{◌≡◌, ◌<◌, ◌++◌, ℕ, All, length, nat_eq}
use Rattle.std.specs.List.{list_any}
use Rattle.idl_changes.specs.Offered.{last_first}
use Rattle.idl_changes.proofs.offered.last_first.Given as goal

-- those that are left come behind
abbrev pub invariant-loop-last : goal.invariant-loop-last
invariant-loop-last l =
    (bound : ℕ) → All (λ n. n < bound) l.fn.places.keys
    → All (λ n. n < bound) l.places.keys
    × (l.list.items ++ last_first (λ n. list_any (nat_eq n) l.places.keys) bound
    ≡ last_first (λ n. list_any (nat_eq n) l.fn.places.keys) bound)

abbrev pub decreases-loop-last : goal.decreases-loop-last
decreases-loop-last l = length l.places.keys
