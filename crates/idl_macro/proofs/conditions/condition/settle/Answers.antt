use Rattle.std.proofs.Common.{◌≡◌, ◌≤◌, List, ◌∷◌, sym, ◌∙◌, ap, subst, arith}
use Rattle.idl_macro.specs.conditions.Operator.{rank}
use Rattle.idl_macro.specs.conditions.Waiting.{meaning, IsRising}
use Rattle.idl_macro.specs.declared.conditions.stack.Waiting.{Waiting}
use Rattle.idl_macro.specs.declared.conditions.stack.Waiting.TheVariants.{Infix}
use Rattle.idl_macro.proofs.ConditionLaws.ChainLemmas.{HasRank}
use Rattle.idl_macro.proofs.ConditionLaws.WaitingLemmas.{meaning-infix, IsBelow-higher, IsComplete-above}
use Rattle.idl_macro.proofs.conditions.condition.settle.Goals as goal

pub operators-preserved : goal.operators-preserved
operators-preserved c =
    let inv = c.operators.invariant in
    let a = c.in-Infix.left in
    let o = c.in-Infix.operator in
    let below = c.pop.new.self in
    let v = c.operators.value in
    let ranked : HasRank o = record { low = omega arith; high = omega arith } in
    let floor_le : c.args.floor ≤ rank o = omega arith in
    let top : c.operators.stack ≡ Infix a o ∷ below = c.in-Some.ensures ∙ ap (λ e. e ∷ below) c.in-Infix.is in
    let rising : IsRising (Infix a o ∷ below) = subst (λ (es : List Waiting). IsRising es) top inv.rising in
    record {
      same = λ k t h. ap (λ w. meaning below w k t) c.apply-value.ensures
          ∙ meaning-infix below a o v k t ranked rising.0 (IsBelow-higher k c.args.floor (rank o) floor_le h)
          ∙ ap (λ es. meaning es v k t) (sym top) ∙ inv.same k t h;
      rising = rising.1;
      complete = IsComplete-above below (rank o) rising.0;
    }
