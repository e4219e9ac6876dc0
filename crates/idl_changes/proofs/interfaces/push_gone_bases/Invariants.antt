use Rattle.std.proofs.Common.{◌≡◌, ◌++◌, [], Some, codes, drop, flat_map, if◌then◌else◌}
use Rattle.std.specs.List.{list_any}
use Rattle.idl_changes.specs.Differences.{gone_bases, told}
use Rattle.idl_changes.specs.Listing.{path_at}
use Rattle.idl_changes.specs.Offered.{ancestors}
use Rattle.idl_changes.specs.Partners.{is_partner}
use Rattle.idl_changes.specs.declared.change.Turn.TheVariants as turn
use Rattle.idl_changes.specs.declared.rows.Line.TheVariants as line
use Rattle.idl_changes.proofs.interfaces.push_gone_bases.Given as goal

-- those that are left come behind
abbrev pub invariant-loop-base : goal.invariant-loop-base
invariant-loop-base l =
    let old = l.sides.0 in
    let new = l.sides.1 in
    l.out.items
    ++ flat_map
    (λ m. if list_any (λ n. is_partner old new m (Some n)) (ancestors new l.fn.places.1)
    then []
    else told line.BaseGone (codes "base " ++ path_at old m) turn.Gone)
    (drop l.base-index (ancestors old l.fn.places.0))
    ≡ l.fn.out.items ++ gone_bases old new l.fn.places.0 l.fn.places.1
