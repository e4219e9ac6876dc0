-- Scope by scope: its entry goes behind.
use Rattle.std.proofs.Common.{◌≡◌, ◌++◌, ◌∷◌, [], None, append_assoc, append-nil, refl, sym, ap, ◌∙◌}
use Rattle.idl_env.specs.answering.Walked.{entries_outward}
use Rattle.idl_env.specs.declared.keys.key.Key.TheVariants.{Typeprefix}
use Rattle.idl_env.proofs.answering.outward.append_outward.Goals as goal

pub scopes-preserved : goal.scopes-preserved
scopes-preserved c =
    let name = c.in-Some._name.now in
    let around = c.in-Some.around in
    let old = c.scopes.entries.items in
    let here : c.scopes.names ≡ name ∷ around = sym c.again.ensures ∙ c.in-Some.ensures.some in
    let key = c.in_ok-key.ensures ∙ c.typeprefix.ensures ∙ ap Typeprefix here in
    ap (λ l. l ++ entries_outward around) (c.in_ok-push.ensures.items ∙ ap (λ k. old ++ (k, None) ∷ []) key)
    ∙ append_assoc old ((Typeprefix (name ∷ around), None) ∷ []) (entries_outward around)
    ∙ ap (λ names. old ++ entries_outward names) (sym here)
    ∙ c.scopes.invariant

pub returns : goal.returns
returns c =
    let old = c.scopes.entries.items in
    let none = sym c.again.ensures ∙ c.in_default.ensures.none refl in
    sym (append-nil old) ∙ ap (λ names. old ++ entries_outward names) (sym none) ∙ c.scopes.invariant
