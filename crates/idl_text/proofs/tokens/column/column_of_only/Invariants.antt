use Rattle.std.proofs.Common.{◌≡◌, None, length}
use Rattle.idl_text.specs.Starts.{starts_left}
use Rattle.idl_text.proofs.StartLemmas.{only_beside, spelled_on}
use Rattle.idl_text.proofs.tokens.column.column_of_only.Given as goal

abbrev pub invariant-starts : goal.invariant-starts
invariant-starts l = only_beside l.only (spelled_on l.line l.text (starts_left l.left)) ≡ only_beside None (spelled_on l.line l.text (starts_left l.starts))

abbrev pub decreases-starts : goal.decreases-starts
decreases-starts l = length (starts_left l.left)
