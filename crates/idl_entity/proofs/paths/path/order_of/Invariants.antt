use Rattle.std.proofs.Common.{◌≡◌, length}
use Rattle.std.specs.Cmp.Lexicographic.{slice_cmp}
use Rattle.std.specs.Ordering.{nat_cmp}
use Rattle.idl_entity.specs.Path.{path_of}
use Rattle.idl_entity.proofs.paths.path.order_of.Given as goal

-- what is left of the two comes in the order in which they do
abbrev pub invariant-loop-own : goal.invariant-loop-own
invariant-loop-own l = slice_cmp (slice_cmp nat_cmp) (path_of l.own) (path_of l.other) ≡ slice_cmp (slice_cmp nat_cmp) (path_of l.first) (path_of l.second)

abbrev pub decreases-loop-own : goal.decreases-loop-own
decreases-loop-own l = length (path_of l.own)
