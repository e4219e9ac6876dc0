use Rattle.std.proofs.Common.{◌≡◌, ◌++◌, ℕ, List, None, find, flat_map, if◌then◌else◌, nat_eq, nat_lt, take}
use Rattle.std.specs.Map.{lookup}
use Rattle.std.specs.Str.{bytes_eq}
use Rattle.idl_changes.specs.Keys.{numbered_eq}
use Rattle.idl_changes.specs.Listing.{name_at}
use Rattle.idl_changes.specs.Offered.{ancestors, called_in, offered}
use Rattle.idl_changes.proofs.offered.all_offers.Given as goal

-- those of the interfaces so far
abbrev pub invariant-loop-interface : goal.invariant-loop-interface
invariant-loop-interface l =
    (i : ℕ) (name : List ℕ)
    → lookup (numbered_eq (record { text = name; number = i })) l.offers
    ≡ (if nat_lt i l.interface then offered l.listing i name else None)

-- and those of the next one so far
abbrev pub invariant-loop-base : goal.invariant-loop-base
invariant-loop-base l =
    let L = l.listing in
    let k = l.interface in
    (i : ℕ) (name : List ℕ)
    → lookup (numbered_eq (record { text = name; number = i })) l.offers
    ≡ (if nat_lt i k then offered L i name
    else if nat_eq i k
    then find (λ n. bytes_eq name (name_at L n))
    (called_in L k ++ flat_map (called_in L) (take l.base-index (ancestors L k)))
    else None)
