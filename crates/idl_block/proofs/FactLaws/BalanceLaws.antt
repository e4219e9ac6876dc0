-- What steps close and leave, by how many scopes and files have come since the start.
use Rattle.std.proofs.Common.{◌≡◌, ◌<◌, ℕ, zero, suc, List, [], ◌∷◌, length, Option, Some, None, refl, sym, ap, ◌∙◌, subst, arith}
use Rattle.std.specs.Prelude.{◌≢◌, drop}
use Rattle.idl_env.specs.Facts.{UnitFacts, World, after, after_closing, after_step, more_inside, operations_among, over, scopes_in, unstopped, with_additions}
use Rattle.idl_env.specs.declared.additions.addition.Addition.{Addition}
use Rattle.idl_env.specs.declared.additions.addition.Addition.TheVariants.{Declares, Uses, UsesFurther, Appears, Identifies, TypePrefixes}
use Rattle.idl_env.specs.declared.additions.addition.Step.{Step}
use Rattle.idl_env.specs.declared.additions.addition.Step.TheVariants.{Stays, Opens, OpensNameless, Closes, Prefixes, Enters, Leaves}
use Rattle.idl_env.specs.declared.answering.answer.Answer.{Answer}
use Rattle.idl_env.specs.declared.answering.answer.Scope.{Scope}
use Rattle.idl_env.specs.declared.keys.key.Key.{Key}
use Rattle.idl_env.specs.declared.keys.key.Key.TheVariants.{Cursor}
use Rattle.idl_block.specs.facts.Beneath.{AreBalanced, AreTwo, Depth, IsThere, StayWithin, StaysWithin, deepened, start}

-- so many scopes and files have come, and the scopes are open
record IsDeep (d : Depth) (w : World) : Type 0 where
  inside : length w.inside ≡ suc d.scopes
  opened : length w.before.opened ≡ d.scopes
  entered : length w.before.entered ≡ d.files
  cursor : d.scopes < length (scopes_in (w.answers Cursor))

pub is-there : {X : Type 0} (xs : List X) → 0 < length xs → IsThere xs
is-there [] lt = absurd (omega (arith, lt))
is-there (x ∷ xs) lt = tt

pub are-two : {X : Type 0} (xs : List X) → 1 < length xs → AreTwo xs
are-two [] lt = absurd (omega (arith, lt))
are-two (x ∷ xs) lt = is-there xs (omega (arith, lt))

pub length-dropped : {X : Type 0} (xs : List X) (n : ℕ) → length xs ≡ suc n → length (drop 1 xs) ≡ n
length-dropped [] n h = absurd (omega (arith, h))
length-dropped (x ∷ xs) n h = omega (arith, h)

-- ---- additions

-- they change no open scope
pub over_cursor : (additions : List Addition) (before : Option Answer) → over additions Cursor before ≡ before
over_cursor [] before = refl
over_cursor (Declares e ∷ additions) before = over_cursor additions before
over_cursor (Uses n path body ∷ additions) before = over_cursor additions before
over_cursor (UsesFurther n path further ∷ additions) before = over_cursor additions before
over_cursor (Appears path prefix ∷ additions) before = over_cursor additions before
over_cursor (Identifies path identity ∷ additions) before = over_cursor additions before
over_cursor (TypePrefixes path text ∷ additions) before = over_cursor additions before

pub length-more : (inside : List (List (List (List ℕ)))) (paths : List (List (List ℕ))) → length (more_inside inside paths) ≡ length inside
length-more [] paths = refl
length-more (own ∷ outer) paths = refl

deep-more : (d : Depth) (w : World) (additions : List Addition) → IsDeep d w → IsDeep d (with_additions additions w)
deep-more d w additions deep = record {
  inside = length-more w.inside (operations_among additions) ∙ deep.inside;
  opened = deep.opened;
  entered = deep.entered;
  cursor = subst (λ o. d.scopes < length (scopes_in o)) (sym (over_cursor (unstopped w.answers additions) (w.answers Cursor))) deep.cursor;
}

-- ---- steps

closing-kept : (w : World) (n files : ℕ) → IsDeep (record { scopes = suc n; files = files }) w → (scopes : List Scope) → suc n < length scopes
    → IsDeep (record { scopes = n; files = files }) (after_closing w scopes)
closing-kept w n files deep [] lt = absurd (omega (arith, lt))
closing-kept w n files deep (s ∷ []) lt = absurd (omega (arith, lt))
closing-kept w n files deep (s ∷ t ∷ outer) lt = record {
  inside = length-dropped w.inside (suc n) deep.inside;
  opened = length-dropped w.before.opened n deep.opened;
  entered = deep.entered;
  cursor = omega (arith, lt);
}

closes-kept : (w : World) (scopes files : ℕ) → IsDeep (record { scopes = scopes; files = files }) w
    → (next : Depth) → deepened (record { scopes = scopes; files = files }) Closes ≡ Some next → StaysWithin w Closes × IsDeep next (after_step w Closes)
closes-kept w zero files deep next is = cc
closes-kept w (suc n) files deep next is =
    let there : record { scopes = n; files = files } ≡ next = cc in (
      (are-two w.inside (omega (arith, deep.inside)), is-there w.before.opened (omega (arith, deep.opened))),
      subst (λ d. IsDeep d (after_step w Closes)) there (closing-kept w n files deep (scopes_in (w.answers Cursor)) deep.cursor),
    )

leaves-kept : (w : World) (scopes files : ℕ) → IsDeep (record { scopes = scopes; files = files }) w
    → (next : Depth) → deepened (record { scopes = scopes; files = files }) Leaves ≡ Some next → StaysWithin w Leaves × IsDeep next (after_step w Leaves)
leaves-kept w scopes zero deep next is = cc
leaves-kept w scopes (suc n) deep next is =
    let there : record { scopes = scopes; files = n } ≡ next = cc in (
      is-there w.before.entered (omega (arith, deep.entered)),
      subst (λ d. IsDeep d (after_step w Leaves)) there
          (record { inside = deep.inside; opened = deep.opened; entered = length-dropped w.before.entered n deep.entered; cursor = deep.cursor }),
    )

step-kept : (d : Depth) (w : World) (step : Step) → IsDeep d w → (next : Depth) → deepened d step ≡ Some next → StaysWithin w step × IsDeep next (after_step w step)
step-kept d w Stays deep next is = (tt, subst (λ d. IsDeep d w) (let there : d ≡ next = cc in there) deep)
step-kept d w (Opens path kind) deep next is = (
  tt,
  subst (λ d. IsDeep d (after_step w (Opens path kind))) (let there : record d { scopes = suc d.scopes } ≡ next = cc in there)
      (record { inside = ap suc deep.inside; opened = ap suc deep.opened; entered = deep.entered; cursor = omega (arith, deep.cursor) }),
)
step-kept d w (OpensNameless kind) deep next is = (
  tt,
  subst (λ d. IsDeep d (after_step w (OpensNameless kind))) (let there : record d { scopes = suc d.scopes } ≡ next = cc in there)
      (record { inside = ap suc deep.inside; opened = ap suc deep.opened; entered = deep.entered; cursor = omega (arith, deep.cursor) }),
)
step-kept d w Closes deep next is = closes-kept w d.scopes d.files deep next is
step-kept d w (Prefixes text) deep next is = (
  tt,
  subst (λ d. IsDeep d (after_step w (Prefixes text))) (let there : d ≡ next = cc in there)
      (record { inside = deep.inside; opened = deep.opened; entered = deep.entered; cursor = deep.cursor }),
)
step-kept d w Enters deep next is = (
  tt,
  subst (λ d. IsDeep d (after_step w Enters)) (let there : record d { files = suc d.files } ≡ next = cc in there)
      (record { inside = deep.inside; opened = deep.opened; entered = ap suc deep.entered; cursor = deep.cursor }),
)
step-kept d w Leaves deep next is = leaves-kept w d.scopes d.files deep next is

-- ---- facts

within-less : (w : World) (additions : List Addition) (step : Step) → StaysWithin (with_additions additions w) step → StaysWithin w step
within-less w additions Closes h = (two w.inside h.0, h.1)
  where
    two : (inside : List (List (List (List ℕ)))) → AreTwo (more_inside inside (operations_among additions)) → AreTwo inside
    two [] h = h
    two (own ∷ outer) h = h
within-less w additions Leaves h = h
within-less w additions other h = tt

facts-within : (d : Depth) (w : World) (facts : List UnitFacts) → IsDeep d w → AreBalanced d facts → StayWithin w facts
facts-within d w [] deep balanced = tt
facts-within d w (f ∷ facts) deep balanced =
    by (λ next deep balanced. facts-within next (after w f) facts deep balanced) (deepened d f.step) refl balanced
  where
    by : ((next : Depth) → IsDeep next (after w f) → AreBalanced next facts → StayWithin (after w f) facts)
        → (o : Option Depth) → deepened d f.step ≡ o → (elim o as (λ _. Type 0) [ None ↦ ⊥ | Some next ↦ AreBalanced next facts ]) → StaysWithin w f.step × StayWithin (after w f) facts
    by rest None is balanced = absurd balanced
    by rest (Some next) is balanced =
        let kept = step-kept d (with_additions f.additions w) f.step (deep-more d w f.additions deep) next is in
        (within-less w f.additions f.step kept.0, rest next kept.1 balanced)

some-open : (scopes : List Scope) → scopes ≢ [] → 0 < length scopes
some-open [] some = absurd (some refl)
some-open (s ∷ scopes) some = omega arith

pub balanced-within : (bank : Key → Option Answer) (facts : List UnitFacts) → scopes_in (bank Cursor) ≢ [] → AreBalanced (record { scopes = 0; files = 0 }) facts → StayWithin (start bank) facts
balanced-within bank facts some balanced =
    facts-within (record { scopes = 0; files = 0 }) (start bank) facts
    (record { inside = refl; opened = refl; entered = refl; cursor = some-open (scopes_in (bank Cursor)) some }) balanced
