use Rattle.std.proofs.Common.{◌≡◌, ◌∙◌, IfOk, ap, subst}
use Rattle.idl_value.specs.Walk.{held_outcome}
use Rattle.idl_value.proofs.WalkLemmas.{walk-value}
use Rattle.idl_value.proofs.constant.evaluate.Goals as goal

pub returns : goal.returns
returns c =
    let e = ap (λ w. held_outcome c.args.target.now w.outcome) c.expression.ensures ∙ walk-value c.args.target.now c.args.operands.now c.args.expression.now in
    record { value = subst (λ v. IfOk c.held.result (λ outcome. outcome ≡ v)) e c.held.ensures }
