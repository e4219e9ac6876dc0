use Rattle.std.proofs.Common.{◌≡◌, ◌++◌, length}
use Rattle.idl_env.specs.answering.Walked.{entries_outward}
use Rattle.idl_env.proofs.answering.outward.append_outward.Given as goal

-- the entries so far are there, and the others are left
abbrev pub invariant-scopes : goal.invariant-scopes
invariant-scopes l = l.entries.items ++ entries_outward l.names ≡ l.fn.entries.items ++ entries_outward l.fn.scope

abbrev pub decreases-scopes : goal.decreases-scopes
decreases-scopes l = length l.names
