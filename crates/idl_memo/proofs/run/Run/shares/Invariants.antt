use Rattle.std.proofs.Common.{flat_map, length}
use Rattle.std.specs.Prelude.{All}
use Rattle.idl_memo.proofs.run.Run.shares.Given as goal

-- none of the digests so far is among them
abbrev pub invariant-steps : goal.invariant-steps
invariant-steps g l =
    let left = flat_map (g.B.Step.Step.logged l.head) l.left in
    All (λ e. g.D.Digests.has l.digests (g.B.Key.Digest.digest_of e.0) → ⊥) left → All (λ e. g.D.Digests.has l.digests (g.B.Key.Digest.digest_of e.0) → ⊥) l.self

abbrev pub decreases-steps : goal.decreases-steps
decreases-steps g l = length l.left
