-- Scope by scope: what is left tells.
use Rattle.std.proofs.Common.{◌≡◌, ◌∷◌, None, Option, refl, subst, sym, ap, ◌∙◌}
use Rattle.std.specs.Prelude.{All}
use Rattle.std.proofs.lemmas.List.Elements.{All-cons, All-nil}
use Rattle.idl_env.specs.answering.Walked.{entries_outward}
use Rattle.idl_env.specs.declared.answering.answer.Answer.{Answer}
use Rattle.idl_env.specs.declared.keys.key.Key.{Key}
use Rattle.idl_env.specs.declared.keys.key.Key.TheVariants.{Typeprefix}
use Rattle.idl_env.specs.keys.Key.{key_digest}
use Rattle.idl_env.proofs.answering.outward.shares_outward.Goals as goal

pub scopes-preserved : goal.scopes-preserved
scopes-preserved g c =
    let name = c.in-Some._name.now in
    let around = c.in-Some.around in
    let here : c.scopes.names ≡ name ∷ around = sym c.again.ensures ∙ c.in-Some.ensures.some in
    let has = g.D.Digests.has c.args.digests.now in
    let P : Key × Option Answer → Type 0 = λ e. has (key_digest e.0) → ⊥ in
    let digest = c.digest.ensures ∙ ap key_digest (c.typeprefix.ensures ∙ ap Typeprefix here) in
    let one = subst (λ n. has n → ⊥) digest (c.has.ensures c.if-has.false) in
    λ all. c.scopes.invariant (subst (λ names. All P (entries_outward names)) (sym here) (All-cons P (Typeprefix (name ∷ around), None) (entries_outward around) one all))

pub returns : goal.returns
returns g c =
    let none = sym c.again.ensures ∙ c.in_default.ensures.none refl in
    let P : Key × Option Answer → Type 0 = λ e. g.D.Digests.has c.args.digests.now (key_digest e.0) → ⊥ in
    λ _. c.scopes.invariant (subst (λ names. All P (entries_outward names)) (sym none) (All-nil P))
