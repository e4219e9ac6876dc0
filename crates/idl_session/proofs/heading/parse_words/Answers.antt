use Rattle.std.proofs.Common.{◌∙◌, ◌∷◌, List, ℕ, ap, sym, eqb}
use Rattle.idl_session.specs.Requests.{counted_request}
use Rattle.idl_session.proofs.HeadingLemmas.{many_words}
use Rattle.idl_session.proofs.heading.parse_words.Goals as goal

pub returns-in-Some-rest-3-clause-request : goal.returns-in-Some-rest-3-clause-request
returns-in-Some-rest-3-clause-request c =
    let second = rw c.in-Some.is at c.first_part.ensures.parts in
    let third = rw c.in-Some-rest.is at c.first_part-2.ensures.parts in
    let fourth = rw c.in-Some-rest-2.is at c.first_part-3.ensures.parts in
    let fifth = rw c.in-Some-rest-3.is at c.first_part-4.ensures.parts in
    let a = c.first_part.result.0.now in
    let b = c.first_part-2.result.0.now in
    let d = c.first_part-3.result.0.now in
    sym (ap (counted_request c.args.first.now) (second ∙ ap (λ (ws : List (List ℕ)). a ∷ ws) (third ∙ ap (λ (ws : List (List ℕ)). b ∷ ws) (fourth ∙ ap (λ (ws : List (List ℕ)). d ∷ ws) fifth)))
    ∙ many_words c.args.first.now a b d c.first_part-4.result.0.now (λ x. eqb x 32) c.in-Some-rest-3._more.now)
