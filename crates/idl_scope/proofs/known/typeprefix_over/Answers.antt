use Rattle.std.proofs.Common.{◌≡◌, ◌∷◌, ℕ, List, None, Some, sym, ap, ◌∙◌, refl}
use Rattle.std.specs.Option.{option_copied}
use Rattle.idl_memo.specs.Query.{noted}
use Rattle.idl_env.specs.Facts.{answers, typeprefix_in}
use Rattle.idl_env.specs.keys.Key.{key_eq}
use Rattle.idl_env.specs.declared.keys.key.Key.TheVariants.{Typeprefix}
use Rattle.idl_scope.specs.Known.{added_by, typeprefix_around}
use Rattle.idl_scope.proofs.KnownLemmas.{typeprefix_found, typeprefix_on}
use Rattle.idl_scope.proofs.LookupLaws.RunLemmas.{runs, seen_at}
use Rattle.idl_scope.proofs.known.typeprefix_over.Goals as goal

pub returns : goal.returns
returns c =
    let own = added_by (option_copied c.args.own) in
    let bank = answers c.args.env.now in
    let none = sym c.again.ensures ∙ c.in_default.ensures.none refl in
    ap (λ names. runs own bank (typeprefix_around names) c.scopes.log) (sym none) ∙ c.scopes.invariant

pub returns-in-Some-found : goal.returns-in-Some-found
returns-in-Some-found c =
    let own = added_by (option_copied c.args.own) in
    let bank = answers c.args.env.now in
    let log = c.scopes.log in
    let name = c.in-Some._name.now in
    let around = c.in-Some.around in
    let here : c.scopes.names ≡ name ∷ around = sym c.again.ensures ∙ c.in-Some.ensures.some in
    let there = λ (names : List (List ℕ)). typeprefix_in (seen_at own bank (Typeprefix names)) in
    let text = c.in-Some-found.text.now in
    let some : there (name ∷ around) ≡ Some text = ap there (sym here) ∙ sym c.in_ok-found.ensures.typeprefix ∙ ap option_copied c.in-Some-found.is in
    let logged = c.in_ok-found.ensures.logged ∙ ap (λ names. noted key_eq bank log (Typeprefix names)) here in
    (λ i. (Some text, logged i))
    ∙ sym (typeprefix_found own bank name around log text some)
    ∙ ap (λ names. runs own bank (typeprefix_around names) log) (sym here)
    ∙ c.scopes.invariant

pub scopes-preserved : goal.scopes-preserved
scopes-preserved c =
    let own = added_by (option_copied c.args.own) in
    let bank = answers c.args.env.now in
    let log = c.scopes.log in
    let name = c.in-Some._name.now in
    let around = c.in-Some.around in
    let here : c.scopes.names ≡ name ∷ around = sym c.again.ensures ∙ c.in-Some.ensures.some in
    let there = λ (names : List (List ℕ)). typeprefix_in (seen_at own bank (Typeprefix names)) in
    let none : there (name ∷ around) ≡ None = ap there (sym here) ∙ sym c.in_ok-found.ensures.typeprefix ∙ ap option_copied c.in_default-found.is in
    let logged = c.in_ok-found.ensures.logged ∙ ap (λ names. noted key_eq bank log (Typeprefix names)) here in
    ap (runs own bank (typeprefix_around around)) logged
    ∙ sym (typeprefix_on own bank name around log none)
    ∙ ap (λ names. runs own bank (typeprefix_around names) log) (sym here)
    ∙ c.scopes.invariant
