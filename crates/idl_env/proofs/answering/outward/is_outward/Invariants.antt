use Rattle.std.proofs.Common.{◌≡◌, Option, length}
use Rattle.idl_env.specs.answering.Walked.{entries_outward}
use Rattle.idl_env.specs.declared.answering.answer.Answer.{Answer}
use Rattle.idl_env.specs.keys.Key.{key_eq}
use Rattle.idl_memo.specs.Query.{is_logged}
use Rattle.idl_env.proofs.answering.outward.is_outward.Given as goal

-- none of the keys so far is the one
abbrev pub invariant-scopes : goal.invariant-scopes
invariant-scopes l = is_logged {V = Option Answer} key_eq (entries_outward l.fn.scope) l.key ≡ is_logged {V = Option Answer} key_eq (entries_outward l.names) l.key

abbrev pub decreases-scopes : goal.decreases-scopes
decreases-scopes l = length l.names
