use Rattle.std.proofs.Common.{◌≡◌, length}
use Rattle.std.specs.Cmp.Lexicographic.{slice_cmp}
use Rattle.std.specs.Option.{option_map}
use Rattle.std.specs.Ordering.{nat_cmp}
use Rattle.idl_entity.specs.Path.{names_of}
use Rattle.idl_env.proofs.keys.outline.order_of.Given as goal

-- what is left of the two comes in the order in which they do
abbrev pub invariant-loop-own : goal.invariant-loop-own
invariant-loop-own l =
    slice_cmp (slice_cmp nat_cmp) (names_of (option_map (λ p. (p.0.now, p.1)) l.own)) (names_of (option_map (λ p. (p.0.now, p.1)) l.other))
    ≡ slice_cmp (slice_cmp nat_cmp) l.fn.first l.fn.second

abbrev pub decreases-loop-own : goal.decreases-loop-own
decreases-loop-own l = length (names_of (option_map (λ p. (p.0.now, p.1)) l.own))
