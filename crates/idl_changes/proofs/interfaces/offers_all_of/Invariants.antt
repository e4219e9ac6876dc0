use Rattle.std.proofs.Common.{ℕ, ◌≡◌, drop, flat_map}
use Rattle.std.specs.List.{list_all}
use Rattle.idl_changes.specs.Listing.{name_at}
use Rattle.idl_changes.specs.Offered.{ancestors, called_in, is_offered}
use Rattle.idl_changes.proofs.interfaces.offers_all_of.Given as goal

-- what those that are left offer is offered if all is
abbrev pub invariant-loop-above : goal.invariant-loop-above
invariant-loop-above l =
    let new = l.sides.1 in
    let test = λ (h : ℕ). is_offered l.sides.0 l.interface (name_at new h) in
    list_all test (flat_map (called_in new) (drop l.above-index (ancestors new l.base)))
    ≡ list_all test (flat_map (called_in new) (ancestors new l.base))
