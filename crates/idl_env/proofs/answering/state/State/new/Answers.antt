use Rattle.std.proofs.Common.{◌≡◌, [], ◌∷◌, ◌++◌, ap, ◌∙◌, reverse}
use Rattle.std.specs.Map.{lookup}
use Rattle.idl_env.specs.Facts.{first_answer}
use Rattle.idl_env.specs.keys.Key.{key_eq}
use Rattle.idl_env.specs.declared.answering.answer.Answer.TheVariants.{InForce, Open}
use Rattle.idl_env.specs.declared.keys.key.Key.TheVariants.{Cursor, Prefix as PrefixKey}
use Rattle.idl_env.proofs.AnswerLaws.StateLemmas.{first-answers, kept}
use Rattle.idl_env.proofs.answering.state.State.new.Goals as goal

pub returns-clause-world : goal.returns-clause-world
returns-clause-world c =
    let scopes = ap Open (c.in_ok-scopes.ensures ∙ c.in_ok-with.ensures ∙ (λ i. c.global.ensures i ∷ c.none.ensures i)) in
    let answers : kept c.in_ok-answers.answers ≡ first_answer =
    c.in_ok-answers.ensures.at
    ∙ (λ i k. lookup (key_eq k) ((Cursor, scopes i) ∷ (PrefixKey, InForce (c.in_ok-none.ensures i)) ∷ []))
    ∙ (λ i k. first-answers k i) in
    let inside = c.in_ok-push.ensures.items ∙ (λ i. c.new-inside.ensures.items i ++ c.new-2.ensures i ∷ []) in
    λ i. record { answers = answers i; inside = reverse (inside i); before = record { opened = reverse (c.new-4.ensures i); entered = reverse (c.new-5.ensures i) } }
