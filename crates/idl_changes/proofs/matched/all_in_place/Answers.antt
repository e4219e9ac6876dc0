use Rattle.std.proofs.Common.{◌∙◌, ◌++◌, ◌∷◌, [], ℕ, List, Option, Some, ap, sym}
use Rattle.idl_changes.proofs.StepLemmas.{places-more}
use Rattle.idl_changes.proofs.matched.all_in_place.Goals as goal

pub loop-place-preserved : goal.loop-place-preserved
loop-place-preserved c =
    c.in_ok-push.ensures.items
    ∙ ap (λ (places : List (Option ℕ)). places ++ Some c.loop-place.place ∷ []) c.loop-place.invariant
    ∙ sym (places-more c.loop-place.place)
