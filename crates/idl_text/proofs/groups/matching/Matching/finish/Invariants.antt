use Rattle.std.proofs.Common.{◌≡◌, ℕ, List, [], length}
use Rattle.idl_text.specs.Line.{Line}
use Rattle.idl_text.specs.Matching.{IsMatchedBy}
use Rattle.idl_text.proofs.groups.matching.Matching.finish.Given as goal

abbrev pub invariant-branches : goal.invariant-branches
invariant-branches l = (lines : ℕ → List Line) → lines l.at ≡ [] → IsMatchedBy lines l.at l.fn.self → IsMatchedBy lines l.at l.self

abbrev pub decreases-branches : goal.decreases-branches
decreases-branches l = length l.self.branches
