use Rattle.std.proofs.Common.{◌≡◌, drop}
use Rattle.idl_check.specs.tables.Declaring.{finished, with_finished}
use Rattle.idl_check.proofs.walk.walker.finish.Given as goal

-- the rest, put behind those so far, comes to all of them
abbrev pub invariant-loop-entity : goal.invariant-loop-entity
invariant-loop-entity l = record {
  rest :
      with_finished (finished l.ending.bases.now l.ending.value.now l.ending.clauses.now) l.own.additions (drop l.entity-index l.begun)
      ≡ with_finished (finished l.ending.bases.now l.ending.value.now l.ending.clauses.now) l.fn.own.additions l.begun;
  step : l.own.step ≡ l.fn.own.step;
}
