use Rattle.std.proofs.Common.{ℕ, ◌≡◌, drop}
use Rattle.std.specs.List.{list_all}
use Rattle.idl_changes.specs.Listing.{name_at}
use Rattle.idl_changes.specs.Offered.{called_in, is_offered}
use Rattle.idl_changes.proofs.interfaces.offers_all.Given as goal

-- those that are left are offered if all are
abbrev pub invariant-loop-place : goal.invariant-loop-place
invariant-loop-place l =
    let test = λ (h : ℕ). is_offered l.sides.0 l.interface (name_at l.sides.1 h) in
    list_all test (drop l.place-index (called_in l.sides.1 l.scope))
    ≡ list_all test (called_in l.sides.1 l.scope)
