use Rattle.std.proofs.Common.{◌≡◌}
use Rattle.idl_memo.specs.Query.{is_logged}
use Rattle.idl_memo.proofs.kept_log.KeptLog.contains.Given as goal

-- none of the keys so far is the one
abbrev pub invariant-parts : goal.invariant-parts
invariant-parts g l = is_logged g.B.Key.PartialEq.eq l.self l.key ≡ is_logged g.B.Key.PartialEq.eq l.left.entries l.key

abbrev pub decreases-parts : goal.decreases-parts
decreases-parts g l = l.left.count
