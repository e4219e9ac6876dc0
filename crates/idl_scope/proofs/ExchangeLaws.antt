-- What facts look at, over answers that are the same outside some keys, and facts that take the place of others.
use Rattle.std.proofs.Common.{◌≡◌, List, [], ◌∷◌, ◌++◌, map, refl, sym, ap, ◌∙◌, subst, inl, inr}
use Rattle.std.specs.Prelude.{Contains, flat_map}
use Rattle.std.proofs.lemmas.List.Elements.{Contains-append_left, Contains-append_right}
use Rattle.idl_env.proofs.ApartLemmas.{gathered_at-same}
use Rattle.idl_env.specs.Differing.{differing}
use Rattle.idl_env.specs.Facts.{UnitFacts, World, after, after_step, count_in, key_of, more_inside, nameless, operations_among, path_around, scopes_in, stops_of, with_additions}
use Rattle.idl_env.specs.Outside.{AgreeOutside, AreApart, WorldsAgreeOutside, gathered_at, looked_at, looked_at_by}
use Rattle.idl_env.specs.declared.additions.addition.Step.{Step}
use Rattle.idl_env.specs.declared.additions.addition.Step.TheVariants.{Stays, Opens, OpensNameless, Closes, Prefixes}
use Rattle.idl_env.specs.declared.keys.key.Key.{Key}
use Rattle.idl_env.specs.declared.keys.key.Key.TheVariants.{Cursor, Opened, Nameless, Prefix as PrefixKey}
use Rattle.idl_scope.proofs.DifferingLaws.{added-elsewhere, exchanged, over-exchanged}
use Rattle.idl_scope.proofs.FactsLaws.{additions-outside, after_step-outside}
use Rattle.idl_env.proofs.Membership.{Contains-IsIn, IsIn, IsIn-Contains, IsIn-left, IsIn-right}
use Rattle.idl_env.proofs.AnswerLaws.StateLemmas.{more_inside-nothing}

-- ---- what facts look at

-- it is told from either of two worlds, since it is looked at itself
module _ (w v : World) where
  looked_at-same : (step : Step) → ((k : Key) → IsIn k (looked_at v step) → v.answers k ≡ w.answers k) → looked_at w step ≡ looked_at v step
  looked_at-same Stays h = refl
  looked_at-same (Opens path kind) h = refl
  looked_at-same (OpensNameless kind) h =
      let count = sym (h Nameless (inl refl)) in
      let cursor = sym (h Cursor (inr (inl refl))) in
      λ i. Nameless ∷ Cursor ∷ Opened (nameless (count_in (count i)) ∷ path_around (scopes_in (cursor i))) ∷ PrefixKey ∷ []
  looked_at-same Closes h =
      ap (λ o. Cursor ∷ gathered_at w (scopes_in o)) (sym (h Cursor (inl refl))) ∙ ap (λ ks. Cursor ∷ ks) (gathered_at-same w v (scopes_in (v.answers Cursor)) (λ k i. h k (inr i)))
  looked_at-same (Prefixes text) h = refl
  looked_at-same other h = refl

-- so facts that look at none of the keys outside of which two worlds agree do so over either
pub looked_at_by-outside : (keys : List Key) (w v : World) (f : UnitFacts) → WorldsAgreeOutside keys w v → AreApart (looked_at_by v f) keys → AreApart (looked_at_by w f) keys
looked_at_by-outside keys w v f (same, both) apart =
    let stops = flat_map stops_of f.additions in
    let there = looked_at (with_additions f.additions v) f.step in
    let added = additions-outside f.additions keys w.answers v.answers same (λ k c. apart k (Contains-append_left stops there k c)) in
    let one = looked_at-same (with_additions f.additions w) (with_additions f.additions v) f.step (λ k i. added k (apart k (Contains-append_right stops there k (Contains-IsIn k there i)))) in
    λ k c. apart k (subst (λ (ks : List Key). Contains (stops ++ ks) k) one c)

-- ---- facts that take the place of others

-- facts that take the place of others with the same change of the open scopes and the same operations
pub after-exchanged : (keys : List Key) (w v : World) (f g : UnitFacts) → WorldsAgreeOutside keys w v → f.step ≡ g.step → operations_among f.additions ≡ operations_among g.additions
    → AreApart (looked_at_by v g) (exchanged keys f.additions g.additions) → WorldsAgreeOutside (exchanged keys f.additions g.additions) (after w f) (after v g)
after-exchanged keys w v f g (same, both) step operations apart =
    let more = exchanged keys f.additions g.additions in
    let stops = flat_map stops_of g.additions in
    let mine = with_additions f.additions w in
    let other = with_additions g.additions v in
    let there = looked_at other g.step in
    let added = over-exchanged keys f.additions g.additions w.answers v.answers same (λ k c i. apart k (Contains-append_left stops there k c) (Contains-append_left keys (differing f.additions g.additions) k i)) in
    let inside : other.inside ≡ more_inside w.inside (operations_among f.additions) = λ i. more_inside (both.0 i) (sym operations i) in
    let one = looked_at-same mine other g.step (λ k i. added k (apart k (Contains-append_right stops there k (Contains-IsIn k there i)))) in
    let clear : AreApart (looked_at mine f.step) more = λ k c.
    apart k (Contains-append_right stops there k (subst (λ (ks : List Key). Contains ks k) (ap (looked_at mine) step ∙ one) c)) in
    let changed = after_step-outside more mine other f.step (added, (inside, both.1)) clear in
    subst (λ (s : Step). WorldsAgreeOutside more (after w f) (after_step other s)) step changed

-- facts that change no open scope and declare no operations stand on one side alone
pub after-less : (keys : List Key) (w v : World) (f : UnitFacts) → WorldsAgreeOutside keys w v → f.step ≡ Stays → operations_among f.additions ≡ []
    → WorldsAgreeOutside (keys ++ map key_of f.additions) (after w f) v
after-less keys w v f (same, both) step operations =
    let mine = map key_of f.additions in
    let grown = with_additions f.additions w in
    let added : AgreeOutside (keys ++ mine) grown.answers v.answers = λ k out.
    same k (λ c. out (Contains-IsIn k (keys ++ mine) (IsIn-left k keys mine (IsIn-Contains k keys c))))
    ∙ sym (added-elsewhere w.answers f.additions k (λ i. out (Contains-IsIn k (keys ++ mine) (IsIn-right k keys mine i)))) in
    let inside : v.inside ≡ grown.inside = both.0 ∙ sym (ap (more_inside w.inside) operations ∙ more_inside-nothing w.inside) in
    subst (λ (s : Step). WorldsAgreeOutside (keys ++ mine) (after_step grown s) v) (sym step) (added, (inside, both.1))

pub after-more : (keys : List Key) (w v : World) (g : UnitFacts) → WorldsAgreeOutside keys w v → g.step ≡ Stays → operations_among g.additions ≡ []
    → WorldsAgreeOutside (keys ++ map key_of g.additions) w (after v g)
after-more keys w v g (same, both) step operations =
    let mine = map key_of g.additions in
    let grown = with_additions g.additions v in
    let added : AgreeOutside (keys ++ mine) w.answers grown.answers = λ k out.
    added-elsewhere v.answers g.additions k (λ i. out (Contains-IsIn k (keys ++ mine) (IsIn-right k keys mine i)))
    ∙ same k (λ c. out (Contains-IsIn k (keys ++ mine) (IsIn-left k keys mine (IsIn-Contains k keys c)))) in
    let inside : grown.inside ≡ w.inside = ap (more_inside v.inside) operations ∙ more_inside-nothing v.inside ∙ both.0 in
    subst (λ (s : Step). WorldsAgreeOutside (keys ++ mine) w (after_step grown s)) (sym step) (added, (inside, both.1))
