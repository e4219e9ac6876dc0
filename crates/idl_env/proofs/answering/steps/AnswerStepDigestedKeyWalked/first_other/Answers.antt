-- Outward, scope by scope: what is left tells.
use Rattle.std.proofs.Common.{◌≡◌, ◌∷◌, [], true, None, refl, sym, ap, ◌∙◌}
use Rattle.std.specs.Option.{is_some}
use Rattle.idl_env.specs.SameAnswer.{answer_eq}
use Rattle.idl_env.specs.answering.Walked.{entries_outward, entries_walked}
use Rattle.idl_env.specs.declared.keys.key.Key.TheVariants.{Typeprefix}
use Rattle.idl_env.proofs.WalkedLemmas.{other_alone}
use Rattle.idl_memo.specs.Runs.{first_other, other_at}
use Rattle.idl_memo.proofs.RunLaws.{not-some, other-behind, other-front, some-mapped}
use Rattle.idl_env.proofs.answering.steps.AnswerStepDigestedKeyWalked.first_other.Goals as goal

pub returns-then-is_some : goal.returns-then-is_some
returns-then-is_some g c =
    let bank = g.B.Bank.at c.args.bank.now in
    let name = c.in-Some._name.now in
    let around = c.in-Some.around in
    let here : c.scopes.names ≡ name ∷ around = sym c.again.ensures ∙ c.in-Some.ensures.some in
    let one = (Typeprefix (name ∷ around), None) ∷ [] in
    let told = c.other_at-other.ensures ∙ ap (other_at answer_eq None) (c.answer_at.ensures ∙ ap bank (c.typeprefix.ensures ∙ ap Typeprefix here)) ∙ other_alone answer_eq bank (Typeprefix (name ∷ around), None) in
    let some : is_some (first_other answer_eq bank one) ≡ true = some-mapped _ c.other_at-other.result (first_other answer_eq bank one) told ∙ sym c.is_some.ensures ∙ c.if-is_some.true in
    let all = ap (λ head. first_other answer_eq bank (entries_walked head c.args.self.now)) c.in-Outward.is ∙ ap (λ names. first_other answer_eq bank (entries_outward names)) (sym c.lent-names.ensures) in
    told ∙ sym (all ∙ c.scopes.invariant ∙ ap (λ names. first_other answer_eq bank (entries_outward names)) here ∙ other-front answer_eq bank one (entries_outward around) some)

pub scopes-preserved : goal.scopes-preserved
scopes-preserved g c =
    let bank = g.B.Bank.at c.args.bank.now in
    let name = c.in-Some._name.now in
    let around = c.in-Some.around in
    let here : c.scopes.names ≡ name ∷ around = sym c.again.ensures ∙ c.in-Some.ensures.some in
    let one = (Typeprefix (name ∷ around), None) ∷ [] in
    let told = c.other_at-other.ensures ∙ ap (other_at answer_eq None) (c.answer_at.ensures ∙ ap bank (c.typeprefix.ensures ∙ ap Typeprefix here)) ∙ other_alone answer_eq bank (Typeprefix (name ∷ around), None) in
    let none : first_other answer_eq bank one ≡ None = not-some (first_other answer_eq bank one) (some-mapped _ c.other_at-other.result (first_other answer_eq bank one) told ∙ sym c.is_some.ensures ∙ c.if-is_some.false) in
    c.scopes.invariant ∙ ap (λ names. first_other answer_eq bank (entries_outward names)) here ∙ other-behind answer_eq bank one (entries_outward around) none

pub returns : goal.returns
returns g c =
    let bank = g.B.Bank.at c.args.bank.now in
    let none = sym c.again.ensures ∙ c.in_default.ensures.none refl in
    let all = ap (λ head. first_other answer_eq bank (entries_walked head c.args.self.now)) c.in-Outward.is ∙ ap (λ names. first_other answer_eq bank (entries_outward names)) (sym c.lent-names.ensures) in
    sym (all ∙ c.scopes.invariant ∙ ap (λ names. first_other answer_eq bank (entries_outward names)) none)
