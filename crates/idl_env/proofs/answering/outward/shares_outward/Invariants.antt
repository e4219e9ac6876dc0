use Rattle.std.proofs.Common.{length}
use Rattle.std.specs.Prelude.{All}
use Rattle.idl_env.specs.answering.Walked.{entries_outward}
use Rattle.idl_env.specs.declared.answering.answer.Answer.{Answer}
use Rattle.idl_env.specs.keys.Key.{key_digest}
use Rattle.idl_env.proofs.answering.outward.shares_outward.Given as goal

-- none of the digests so far is among them
abbrev pub invariant-scopes : goal.invariant-scopes
invariant-scopes g l =
    All (λ e. g.D.Digests.has l.digests (key_digest e.0) → ⊥) (entries_outward {A = Answer} l.names) → All (λ e. g.D.Digests.has l.digests (key_digest e.0) → ⊥) (entries_outward {A = Answer} l.fn.scope)

abbrev pub decreases-scopes : goal.decreases-scopes
decreases-scopes g l = length l.names
