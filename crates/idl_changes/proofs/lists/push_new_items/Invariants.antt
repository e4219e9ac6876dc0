use Rattle.std.proofs.Common.{◌≡◌, ◌++◌, drop, flat_map}
use Rattle.std.specs.List.{enumerate_from}
use Rattle.idl_changes.specs.Differences.{new_differences}
use Rattle.idl_changes.proofs.lists.push_new_items.Given as goal

-- those that are left come behind
abbrev pub invariant-loop-place : goal.invariant-loop-place
invariant-loop-place g l =
    l.out.items
    ++ flat_map (λ p. new_differences l.lists.item g.T.Named.name_of l.found p.0 p.1)
    (enumerate_from l.place (drop l.place l.lists.after.now))
    ≡ l.fn.out.items
    ++ flat_map (λ p. new_differences l.lists.item g.T.Named.name_of l.found p.0 p.1)
    (enumerate_from 0 l.lists.after.now)
