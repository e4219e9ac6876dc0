use Rattle.std.proofs.Common.{◌≡◌, ◌++◌, [], Some, codes, drop, flat_map, if◌then◌else◌}
use Rattle.std.specs.List.{list_any}
use Rattle.idl_changes.specs.Differences.{base_line, new_bases, told}
use Rattle.idl_changes.specs.Listing.{path_at}
use Rattle.idl_changes.specs.Offered.{ancestors}
use Rattle.idl_changes.specs.Partners.{is_partner}
use Rattle.idl_changes.specs.declared.change.Turn.TheVariants as turn
use Rattle.idl_changes.proofs.interfaces.push_new_bases.Given as goal

-- those that are left come behind
abbrev pub invariant-loop-base : goal.invariant-loop-base
invariant-loop-base l =
    let old = l.sides.0 in
    let new = l.sides.1 in
    l.out.items
    ++ flat_map
    (λ n. if list_any (λ m. is_partner old new m (Some n)) (ancestors old l.places.0)
    then []
    else told (base_line old new l.places.0 n) (codes "base " ++ path_at new n) turn.New)
    (drop l.base-index (ancestors new l.places.1))
    ≡ l.fn.out.items ++ new_bases old new l.places.0 l.places.1
