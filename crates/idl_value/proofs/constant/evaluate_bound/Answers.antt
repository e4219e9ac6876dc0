use Rattle.std.proofs.Common.{◌∙◌, ap}
use Rattle.idl_value.specs.Walk.{positive_outcome}
use Rattle.idl_value.proofs.WalkLemmas.{walk-bound}
use Rattle.idl_value.proofs.constant.evaluate_bound.Goals as goal

pub returns : goal.returns
returns c = record { value = c.positive.ensures ∙ ap positive_outcome c.in_ok-outcome.ensures.value ∙ walk-bound c.args.operands.now c.args.expression.now }
