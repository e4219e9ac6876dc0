use Rattle.std.proofs.Common.{◌≡◌, ◌++◌, length}
use Rattle.idl_explain.specs.Explained.{indented}
use Rattle.idl_explain.proofs.explanation.push_indented.Given as goal

-- what is left to be written is that of what is left
abbrev pub invariant-lines : goal.invariant-lines
invariant-lines l = l.out.items ++ indented l.left ≡ l.fn.out.items ++ indented l.fn.text

abbrev pub decreases-lines : goal.decreases-lines
decreases-lines l = length l.left
