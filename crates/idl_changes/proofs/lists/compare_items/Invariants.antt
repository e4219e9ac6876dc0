use Rattle.std.proofs.Common.{◌≡◌, ◌++◌, drop, flat_map}
use Rattle.std.specs.List.{enumerate_from, slice_get, zip}
use Rattle.std.specs.Option.{option_and_then}
use Rattle.idl_changes.specs.Differences.{item_differences}
use Rattle.idl_changes.proofs.lists.compare_items.Given as goal

-- those that are left come behind
abbrev pub invariant-loop-place : goal.invariant-loop-place
invariant-loop-place g l =
    l.out.items
    ++ flat_map
    (λ p. item_differences l.lists.item g.T.Named.name_of (g.T.ListItem.both l.sides.0 l.sides.1)
    p.0 p.1.0 (option_and_then (slice_get l.lists.after.now) p.1.1))
    (enumerate_from l.place (zip (drop l.place l.lists.before.now) (drop l.place l.found)))
    ≡ l.fn.out.items
    ++ flat_map
    (λ p. item_differences l.lists.item g.T.Named.name_of (g.T.ListItem.both l.sides.0 l.sides.1)
    p.0 p.1.0 (option_and_then (slice_get l.lists.after.now) p.1.1))
    (enumerate_from 0 (zip l.lists.before.now l.found))
