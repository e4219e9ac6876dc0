use Rattle.std.proofs.Common.{◌≡◌, false, take}
use Rattle.idl_memo.specs.Query.{is_logged}
use Rattle.idl_memo.proofs.kept_log.Digested.contains.Given as goal

-- none of the keys so far is the one
abbrev pub invariant-loop-place : goal.invariant-loop-place
invariant-loop-place g l = is_logged g.B.Key.PartialEq.eq (take l.place l.self) l.key ≡ false
