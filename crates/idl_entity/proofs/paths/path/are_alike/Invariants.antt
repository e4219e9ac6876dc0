use Rattle.std.proofs.Common.{◌≡◌, ◌∷◌, length}
use Rattle.idl_entity.specs.Path.{path_eq}
use Rattle.idl_entity.proofs.paths.path.are_alike.Given as goal

-- what is left of the two is one where they are
abbrev pub invariant-loop-own : goal.invariant-loop-own
invariant-loop-own l = path_eq (l.own.0 ∷ l.own.1) (l.other.0 ∷ l.other.1) ≡ path_eq (l.mine.0 ∷ l.mine.1) (l.theirs.0 ∷ l.theirs.1)

abbrev pub decreases-loop-own : goal.decreases-loop-own
decreases-loop-own l = length l.own.1
