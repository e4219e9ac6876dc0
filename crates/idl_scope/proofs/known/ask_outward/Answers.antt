use Rattle.std.proofs.Common.{◌≡◌, ◌∷◌, refl, sym, ap, ◌∙◌}
use Rattle.idl_memo.specs.Query.{asked, noted, noted_all}
use Rattle.idl_env.specs.Facts.{answers}
use Rattle.idl_env.specs.keys.Key.{key_eq}
use Rattle.idl_env.specs.declared.keys.key.Key.TheVariants.{Typeprefix}
use Rattle.idl_scope.specs.Known.{typeprefix_around}
use Rattle.idl_scope.proofs.KnownLemmas.{typeprefix_asked}
use Rattle.idl_scope.proofs.known.ask_outward.Goals as goal

pub returns : goal.returns
returns c =
    let bank = answers c.args.env.now in
    let none = sym c.again.ensures ∙ c.in_default.ensures.none refl in
    ap (λ names. noted_all key_eq bank c.scopes.log (asked (typeprefix_around names) bank)) (sym none) ∙ c.scopes.invariant

pub scopes-preserved : goal.scopes-preserved
scopes-preserved c =
    let bank = answers c.args.env.now in
    let log = c.scopes.log in
    let name = c.in-Some._name.now in
    let around = c.in-Some.around in
    let here : c.scopes.names ≡ name ∷ around = sym c.again.ensures ∙ c.in-Some.ensures.some in
    let logged = c.in_ok-ask_lent.ensures.logged ∙ ap (noted key_eq bank log) (c.typeprefix.ensures ∙ ap Typeprefix here) in
    ap (λ l. noted_all key_eq bank l (asked (typeprefix_around around) bank)) logged
    ∙ sym (ap (noted_all key_eq bank log) (typeprefix_asked bank c.requires name around))
    ∙ ap (λ names. noted_all key_eq bank log (asked (typeprefix_around names) bank)) (sym here)
    ∙ c.scopes.invariant
