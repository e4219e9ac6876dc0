use Rattle.std.proofs.Common.{◌≡◌, length}
use Rattle.idl_tree.specs.Pragma.{further_parts}
use Rattle.idl_syntax.proofs.PragmaLemmas.{behind_parts}
use Rattle.idl_syntax.proofs.pragma.further_parts.Given as goal

abbrev pub invariant-loop-left : goal.invariant-loop-left
invariant-loop-left l =
    further_parts l.fn.tokens ≡ behind_parts l.parts.items (further_parts l.left)

abbrev pub decreases-loop-left : goal.decreases-loop-left
decreases-loop-left l = length l.left
