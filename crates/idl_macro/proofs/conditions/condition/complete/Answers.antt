use Rattle.std.proofs.Common.{◌≡◌, List, ◌∷◌, sym, ◌∙◌, ap, subst}
use Rattle.idl_macro.specs.conditions.Waiting.{meaning, IsRising}
use Rattle.idl_macro.specs.declared.conditions.stack.Waiting.{Waiting}
use Rattle.idl_macro.specs.declared.conditions.stack.Waiting.TheVariants.{Prefix}
use Rattle.idl_macro.proofs.ConditionLaws.WaitingLemmas.{meaning-prefix}
use Rattle.idl_macro.proofs.conditions.condition.complete.Goals as goal

pub signs-preserved : goal.signs-preserved
signs-preserved c =
    let inv = c.signs.invariant in
    let s = c.in-Prefix.sign in
    let below = c.pop.new.self in
    let v = c.signs.value in
    let top : c.signs.stack ≡ Prefix s ∷ below = c.in-Some.ensures ∙ ap (λ e. e ∷ below) c.in-Prefix.is in
    record {
      same = λ k t. ap (λ w. meaning below w k t) c.apply-value.ensures ∙ meaning-prefix below s v k t
          ∙ ap (λ es. meaning es v k t) (sym top) ∙ inv.same k t;
      rising = subst (λ (es : List Waiting). IsRising es) top inv.rising;
    }
