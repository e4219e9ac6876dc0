use Rattle.std.proofs.Common.{sym, ap, ◌∙◌, ◌++◌, ◌+◌, ◌∷◌, [], ◌≡◌, drop, refl}
use Rattle.idl_env.specs.Facts.{operations_among}
use Rattle.idl_env.proofs.AnswerLaws.PlaceLemmas.{from_here}
use Rattle.idl_env.proofs.AnswerLaws.StateLemmas.{operations_among-cons}
use Rattle.idl_env.proofs.additions.digested_addition.is_operation_among.Goals as goal

pub loop-addition-preserved : goal.loop-addition-preserved
loop-addition-preserved c =
    let additions = c.args.additions.now in
    let at = c.loop-addition.addition-index in
    let one = c.addition-item.result in
    let rest = operations_among (drop (at + 1) additions) in
    let here = from_here additions at one c.loop-addition-test.true c.addition-item.is in
    let none : operations_among (one ∷ []) ≡ [] = ap (λ a. operations_among (a ∷ [])) (sym c.addition.ensures) ∙ c.in_default.ensures.none refl in
    sym (ap (λ l. l ++ rest) none)
    ∙ sym (operations_among-cons one (drop (at + 1) additions))
    ∙ sym (ap operations_among here)
    ∙ c.loop-addition.invariant
