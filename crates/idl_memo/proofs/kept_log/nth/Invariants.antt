use Rattle.std.proofs.Common.{◌≡◌, length}
use Rattle.std.specs.Prelude.{slice_get}
use Rattle.idl_memo.proofs.kept_log.nth.Given as goal

-- what is looked for stands so far behind what is left
abbrev pub invariant-entries : goal.invariant-entries
invariant-entries g l = slice_get l.fn.entries l.index ≡ slice_get l.left l.before

abbrev pub decreases-entries : goal.decreases-entries
decreases-entries g l = length l.left
