use Rattle.std.proofs.Common.{◌≡◌, ℕ, List, None, find, if◌then◌else◌, nat_eq, take}
use Rattle.std.specs.Map.{lookup}
use Rattle.std.specs.Option.{option_or}
use Rattle.std.specs.Str.{bytes_eq}
use Rattle.idl_changes.specs.Keys.{numbered_eq}
use Rattle.idl_changes.specs.Listing.{name_at}
use Rattle.idl_changes.proofs.offered.offer_all.Given as goal

-- those so far
abbrev pub invariant-loop-place : goal.invariant-loop-place
invariant-loop-place l =
    (i : ℕ) (name : List ℕ)
    → lookup (numbered_eq (record { text = name; number = i })) l.offers
    ≡ option_or (lookup (numbered_eq (record { text = name; number = i })) l.fn.offers)
    (if nat_eq i l.interface
    then find (λ n. bytes_eq name (name_at l.listing n)) (take l.place-index l.called)
    else None)
