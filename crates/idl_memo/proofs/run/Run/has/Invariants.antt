use Rattle.std.proofs.Common.{◌≡◌, flat_map, length}
use Rattle.idl_memo.specs.Query.{is_logged}
use Rattle.idl_memo.proofs.run.Run.has.Given as goal

-- none of the keys so far is the one
abbrev pub invariant-steps : goal.invariant-steps
invariant-steps g l =
    let left = flat_map (g.B.Step.Step.logged l.head) l.left in
    is_logged g.B.Key.PartialEq.eq l.self l.key ≡ is_logged g.B.Key.PartialEq.eq left l.key

abbrev pub decreases-steps : goal.decreases-steps
decreases-steps g l = length l.left
