use Rattle.std.proofs.Common.{◌≡◌, ◌++◌, codes, drop, flat_map}
use Rattle.idl_changes.specs.Differences.{in_a_row}
use Rattle.idl_changes.proofs.parts.in_a_row.Given as goal

-- those that are left come behind
abbrev pub invariant-loop-item : goal.invariant-loop-item
invariant-loop-item g l =
    l.row.items ++ flat_map (λ x. codes " " ++ g.T.Named.name_of x) (drop l.item-index l.others)
    ≡ in_a_row g.T.Named.name_of l.items
