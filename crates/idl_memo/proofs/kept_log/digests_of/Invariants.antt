use Rattle.std.proofs.Common.{◌≡◌, map, take}
use Rattle.idl_memo.proofs.kept_log.digests_of.Given as goal

-- the digests of the entries so far
abbrev pub invariant-loop-entry : goal.invariant-loop-entry
invariant-loop-entry g l = l.digests.items ≡ map (λ e. g.K.Digest.digest_of e.0) (take l.entry-index l.entries)
