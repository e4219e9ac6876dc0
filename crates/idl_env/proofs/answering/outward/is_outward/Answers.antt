-- Scope by scope: its key is the one, or what is left has it.
use Rattle.std.proofs.Common.{◌≡◌, ◌∷◌, ◌||◌, true, false, Option, refl, sym, ap, ◌∙◌}
use Rattle.idl_env.specs.answering.Walked.{entries_outward}
use Rattle.idl_env.specs.declared.answering.answer.Answer.{Answer}
use Rattle.idl_env.specs.declared.keys.key.Key.TheVariants.{Typeprefix}
use Rattle.idl_env.specs.keys.Digested.{key_equiv}
use Rattle.idl_env.specs.keys.Key.{key_eq}
use Rattle.idl_memo.specs.Query.{is_logged}
use Rattle.idl_env.proofs.answering.outward.is_outward.Goals as goal

pub returns-then-is : goal.returns-then-is
returns-then-is c =
    let name = c.in-Some._name.now in
    let around = c.in-Some.around in
    let key = c.args.key.now in
    let here : c.scopes.names ≡ name ∷ around = sym c.again.ensures ∙ c.in-Some.ensures.some in
    let same : key_eq key (Typeprefix (name ∷ around)) ≡ true = key_equiv.symm key (Typeprefix (name ∷ around)) ∙ ap (λ k. key_eq k key) (sym (c.typeprefix.ensures ∙ ap Typeprefix here)) ∙ sym c.is.ensures ∙ c.if-is.true in
    sym (c.scopes.invariant ∙ ap (λ names. is_logged {V = Option Answer} key_eq (entries_outward names) key) here ∙ ap (λ b. b || is_logged {V = Option Answer} key_eq (entries_outward around) key) same)

pub scopes-preserved : goal.scopes-preserved
scopes-preserved c =
    let name = c.in-Some._name.now in
    let around = c.in-Some.around in
    let key = c.args.key.now in
    let here : c.scopes.names ≡ name ∷ around = sym c.again.ensures ∙ c.in-Some.ensures.some in
    let other : key_eq key (Typeprefix (name ∷ around)) ≡ false = key_equiv.symm key (Typeprefix (name ∷ around)) ∙ ap (λ k. key_eq k key) (sym (c.typeprefix.ensures ∙ ap Typeprefix here)) ∙ sym c.is.ensures ∙ c.if-is.false in
    c.scopes.invariant ∙ ap (λ names. is_logged {V = Option Answer} key_eq (entries_outward names) key) here ∙ ap (λ b. b || is_logged {V = Option Answer} key_eq (entries_outward around) key) other

pub returns : goal.returns
returns c =
    let none = sym c.again.ensures ∙ c.in_default.ensures.none refl in
    sym (c.scopes.invariant ∙ ap (λ names. is_logged {V = Option Answer} key_eq (entries_outward names) c.args.key.now) none)
