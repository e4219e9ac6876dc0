use Rattle.std.proofs.Common.{◌≡◌, ◌&&◌, [], Some, filter, map, nat_eq, replicate, take}
use Rattle.std.specs.List.{enumerate_from}
use Rattle.std.specs.Option.{option_eq}
use Rattle.idl_changes.specs.Listing.{interface_of, is_called}
use Rattle.idl_changes.specs.Tables.{each}
use Rattle.idl_changes.proofs.offered.all_called.Given as goal

abbrev pub invariant-loop-entry : goal.invariant-loop-entry
invariant-loop-entry l = l.all.items ≡ replicate l._entry []

-- of each those so far
abbrev pub invariant-loop-place : goal.invariant-loop-place
invariant-loop-place l =
    l.all.items
    ≡ each (λ i e. map (λ p. p.0)
    (filter (λ p. is_called p.1 && option_eq nat_eq (interface_of l.listing p.1) (Some i))
    (take l.place (enumerate_from 0 l.listing)))) l.listing
