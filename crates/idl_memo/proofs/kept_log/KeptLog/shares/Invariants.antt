use Rattle.std.specs.Prelude.{All}
use Rattle.idl_memo.proofs.kept_log.KeptLog.shares.Given as goal

-- none of the digests so far is among them
abbrev pub invariant-parts : goal.invariant-parts
invariant-parts g l = All (λ e. g.D.Digests.has l.digests (g.B.Key.Digest.digest_of e.0) → ⊥) l.left.entries → All (λ e. g.D.Digests.has l.digests (g.B.Key.Digest.digest_of e.0) → ⊥) l.self

abbrev pub decreases-parts : goal.decreases-parts
decreases-parts g l = l.left.count
