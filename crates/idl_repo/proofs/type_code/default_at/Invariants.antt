use Rattle.std.proofs.Common.{◌≡◌, ◌+◌, ◌++◌, drop, flat_map}
use Rattle.idl_repo.specs.TypeCode.{default_at}
use Rattle.idl_repo.proofs.type_code.default_at.Given as goal

-- that of all is that of those from here on
abbrev pub invariant-loop-member : goal.invariant-loop-member
invariant-loop-member l =
    default_at l.number (flat_map (λ m. m.labels) (drop l.member-index l.members))
    ≡ default_at 0 (flat_map (λ m. m.labels) l.members)

abbrev pub invariant-loop-label : goal.invariant-loop-label
invariant-loop-label l =
    default_at l.number
    (drop l.label-index l.label-items
    ++ flat_map (λ m. m.labels) (drop (l.member-index + 1) l.members))
    ≡ default_at 0 (flat_map (λ m. m.labels) l.members)
