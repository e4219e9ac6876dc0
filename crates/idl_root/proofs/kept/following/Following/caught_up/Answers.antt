use Rattle.idl_root.proofs.TakenLemmas.{at-some}
use Rattle.idl_root.proofs.kept.following.Following.caught_up.Goals as goal

pub loop-following-preserved : goal.loop-following-preserved
loop-following-preserved c = λ earlier facts b.
    at-some c.in_ok-next.field-0 c.in-Some.next _ c.in-Some.is c.in_ok-next.ensures.followed earlier facts (c.loop-following.invariant earlier facts b)
