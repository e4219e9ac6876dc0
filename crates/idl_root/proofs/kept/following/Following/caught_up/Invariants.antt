use Rattle.std.proofs.Common.{List}
use Rattle.idl_root.specs.Followed.{IsFollowed}
use Rattle.idl_root.specs.declared.kept.course.Course.{Course}
use Rattle.idl_env.specs.Facts.{UnitFacts}
use Rattle.idl_root.proofs.kept.following.Following.caught_up.Given as goal

abbrev pub invariant-loop-following : goal.invariant-loop-following
invariant-loop-following l = (earlier : Course) (facts : List UnitFacts) → IsFollowed l.kept.lists earlier l.fn.self facts → IsFollowed l.kept.lists earlier l.following facts

abbrev pub decreases-loop-following : goal.decreases-loop-following
decreases-loop-following l = l.following.less
