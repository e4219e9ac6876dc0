use Rattle.std.proofs.Common.{arith, sym, ◌∙◌}
use Rattle.std.proofs.lemmas.Result.{err_from_is_err_and}
use Rattle.idl_syntax.proofs.Turns.{turns_start, turns_stop, loop_behind, loop_behind_fails}
use Rattle.idl_syntax.proofs.production.more_listed.Goals as goal

pub trees-init : goal.trees-init
trees-init g c = record { turns = turns_start _ _ _ _ c.new-trees.ensures.items; long = omega arith }

pub trees-preserved : goal.trees-preserved
trees-preserved g c = record {
  turns = loop_behind _ _ _ _ c.trees.rest.now _ _ _ c.trees.invariant.turns (sym c.is_at.ensures ∙ c.trees-test.true) c.in_ok-one.ensures.reads c.in_ok-one.ensures.shorter c.in_ok-push.ensures.items;
  long = omega (arith, c.in_ok-one.ensures.shorter, c.trees.invariant.long);
}

pub returns-in_err-one-clause-reads : goal.returns-in_err-one-clause-reads
returns-in_err-one-clause-reads g c =
    let why = err_from_is_err_and c.from_residual.result c.from_residual.ensures.1 in
    rw (why.1, why.2) (loop_behind_fails _ _ _ c.trees.rest.now _ _ c.trees.invariant.turns (sym c.is_at.ensures ∙ c.trees-test.true) c.in_err-one.ensures.reads)

pub returns-clause-reads : goal.returns-clause-reads
returns-clause-reads g c = rw c.from_vec.ensures (turns_stop _ _ _ _ _ c.trees.invariant.turns (sym c.is_at.ensures ∙ c.trees-test.false))
