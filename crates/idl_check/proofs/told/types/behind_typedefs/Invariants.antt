use Rattle.std.proofs.Common.{◌≡◌, ◌≤◌, ◌-◌}
use Rattle.idl_check.specs.told.Types.{behind_typedefs}
use Rattle.idl_scope.proofs.LookupLaws.RunLemmas.{runs}
use Rattle.idl_env.specs.Facts.{answers}
use Rattle.idl_check.proofs.told.types.behind_typedefs.Given as goal

-- what stands behind with the turns that are left, over the log so far, is what stands behind
abbrev pub invariant-loop-turn : goal.invariant-loop-turn
invariant-loop-turn l = record {
  within : l._turn ≤ l.turns;
  run :
      runs l.view.own.now.additions (answers l.view.env.now) (behind_typedefs (l.turns - l._turn) l.entity l.behind) l.log
      ≡ runs l.view.own.now.additions (answers l.view.env.now) (behind_typedefs l.turns l.entity l.entity) l.fn.log;
}
