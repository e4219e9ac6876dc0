-- What a block's steps close and leave, by how many scopes and files have come since its own file was entered.
use Rattle.std.proofs.Common.{◌≡◌, ◌<◌, ℕ, zero, suc, List, [], ◌∷◌, length, Option, Some, None, refl, sym, ap, subst, arith}
use Rattle.std.specs.Prelude.{◌≢◌}
use Rattle.idl_env.specs.Facts.{UnitFacts, World, after, after_closing, after_step, boundary, scopes_in, unstopped, with_additions}
use Rattle.idl_env.specs.Outside.{IsInnermost}
use Rattle.idl_env.specs.declared.additions.addition.Addition.{Addition}
use Rattle.idl_env.specs.declared.additions.addition.Step.{Step}
use Rattle.idl_env.specs.declared.additions.addition.Step.TheVariants.{Stays, Opens, OpensNameless, Closes, Prefixes, Enters, Leaves}
use Rattle.idl_env.specs.declared.answering.answer.Answer.{Answer}
use Rattle.idl_env.specs.declared.answering.answer.Scope.{Scope}
use Rattle.idl_env.specs.declared.keys.key.Key.{Key}
use Rattle.idl_env.specs.declared.keys.key.Key.TheVariants.{Cursor}
use Rattle.idl_block.specs.facts.Answered.{IsClosing}
use Rattle.idl_block.specs.facts.Beneath.{AreBalanced, Depth, deepened, start}
use Rattle.idl_block.specs.facts.Known.{AreInside, IsInside}
use Rattle.idl_block.proofs.FactLaws.BalanceLaws.{are-two, is-there, length-dropped, over_cursor}

-- so many scopes and files have come, and the scopes are open
pub record IsIn (d : Depth) (w : World) : Type 0 where
  pub opened : length w.before.opened ≡ d.scopes
  pub entered : length w.before.entered ≡ suc d.files
  pub cursor : d.scopes < length (scopes_in (w.answers Cursor))

pub in-more : (d : Depth) (w : World) (additions : List Addition) → IsIn d w → IsIn d (with_additions additions w)
in-more d w additions deep = record {
  opened = deep.opened;
  entered = deep.entered;
  cursor = subst (λ o. d.scopes < length (scopes_in o)) (sym (over_cursor (unstopped w.answers additions) (w.answers Cursor))) deep.cursor;
}

-- ---- closings

closing-in : (w : World) (n files : ℕ) → IsIn (record { scopes = suc n; files = files }) w → (scopes : List Scope) → suc n < length scopes → IsIn (record { scopes = n; files = files }) (after_closing w scopes)
closing-in w n files deep [] lt = absurd (omega (arith, lt))
closing-in w n files deep (s ∷ []) lt = absurd (omega (arith, lt))
closing-in w n files deep (s ∷ t ∷ outer) lt = record {
  opened = length-dropped w.before.opened n deep.opened;
  entered = deep.entered;
  cursor = omega (arith, lt);
}

innermost-of : (w : World) (n : ℕ) (scopes : List Scope) → scopes_in (w.answers Cursor) ≡ scopes → suc n < length scopes → (s : Scope) × IsInnermost w.answers s
innermost-of w n [] is lt = absurd (omega (arith, lt))
innermost-of w n (s ∷ []) is lt = absurd (omega (arith, lt))
innermost-of w n (s ∷ t ∷ outer) is lt = (s, (t, outer, is))

-- what is kept where a step closes and leaves nothing that was there
abbrev pub Goes : World → Step → Depth → Type 0
Goes w step next = (IsInside w step × IsClosing w.answers step) × IsIn next (after_step w step)

closes-in : (w : World) (scopes files : ℕ) → IsIn (record { scopes = scopes; files = files }) w → (next : Depth) → deepened (record { scopes = scopes; files = files }) Closes ≡ Some next → Goes w Closes next
closes-in w zero files deep next is = cc
closes-in w (suc n) files deep next is =
    let there : record { scopes = n; files = files } ≡ next = cc in (
      (is-there w.before.opened (omega (arith, deep.opened)), innermost-of w n (scopes_in (w.answers Cursor)) refl deep.cursor),
      subst (λ d. IsIn d (after_step w Closes)) there (closing-in w n files deep (scopes_in (w.answers Cursor)) deep.cursor),
    )

leaves-in : (w : World) (scopes files : ℕ) → IsIn (record { scopes = scopes; files = files }) w → (next : Depth) → deepened (record { scopes = scopes; files = files }) Leaves ≡ Some next → Goes w Leaves next
leaves-in w scopes zero deep next is = cc
leaves-in w scopes (suc n) deep next is =
    let there : record { scopes = scopes; files = n } ≡ next = cc in (
      (are-two w.before.entered (omega (arith, deep.entered)), tt),
      subst (λ d. IsIn d (after_step w Leaves)) there (record { opened = deep.opened; entered = length-dropped w.before.entered (suc n) deep.entered; cursor = deep.cursor }),
    )

pub step-in : (d : Depth) (w : World) (step : Step) → IsIn d w → (next : Depth) → deepened d step ≡ Some next → Goes w step next
step-in d w Stays deep next is = ((tt, tt), subst (λ d. IsIn d w) (let there : d ≡ next = cc in there) deep)
step-in d w (Opens path kind) deep next is = (
  (tt, tt),
  subst (λ d. IsIn d (after_step w (Opens path kind))) (let there : record d { scopes = suc d.scopes } ≡ next = cc in there)
      (record { opened = ap suc deep.opened; entered = deep.entered; cursor = omega (arith, deep.cursor) }),
)
step-in d w (OpensNameless kind) deep next is = (
  (tt, tt),
  subst (λ d. IsIn d (after_step w (OpensNameless kind))) (let there : record d { scopes = suc d.scopes } ≡ next = cc in there)
      (record { opened = ap suc deep.opened; entered = deep.entered; cursor = omega (arith, deep.cursor) }),
)
step-in d w Closes deep next is = closes-in w d.scopes d.files deep next is
step-in d w (Prefixes text) deep next is = (
  (tt, tt),
  subst (λ d. IsIn d (after_step w (Prefixes text))) (let there : d ≡ next = cc in there) (record { opened = deep.opened; entered = deep.entered; cursor = deep.cursor }),
)
step-in d w Enters deep next is = (
  (tt, tt),
  subst (λ d. IsIn d (after_step w Enters)) (let there : record d { files = suc d.files } ≡ next = cc in there)
      (record { opened = deep.opened; entered = ap suc deep.entered; cursor = deep.cursor }),
)
step-in d w Leaves deep next is = leaves-in w d.scopes d.files deep next is

-- ---- facts

pub inside-less : (w : World) (additions : List Addition) (step : Step) → IsInside (with_additions additions w) step → IsInside w step
inside-less w additions Closes h = h
inside-less w additions Leaves h = h
inside-less w additions other h = tt

facts-inside : (d : Depth) (w : World) (facts : List UnitFacts) → IsIn d w → AreBalanced d facts → AreInside w facts
facts-inside d w [] deep balanced = tt
facts-inside d w (f ∷ facts) deep balanced =
    by (λ next deep balanced. facts-inside next (after w f) facts deep balanced) (deepened d f.step) refl balanced
  where
    by : ((next : Depth) → IsIn next (after w f) → AreBalanced next facts → AreInside (after w f) facts)
        → (o : Option Depth) → deepened d f.step ≡ o → (elim o as (λ _. Type 0) [ None ↦ ⊥ | Some next ↦ AreBalanced next facts ])
        → (IsInside w f.step × IsClosing (with_additions f.additions w).answers f.step) × AreInside (after w f) facts
    by rest None is balanced = absurd balanced
    by rest (Some next) is balanced =
        let kept = step-in d (with_additions f.additions w) f.step (in-more d w f.additions deep) next is in
        ((inside-less w f.additions f.step kept.0.0, kept.0.1), rest next kept.1 balanced)

some-open : (scopes : List Scope) → scopes ≢ [] → 0 < length scopes
some-open [] some = absurd (some refl)
some-open (s ∷ scopes) some = omega arith

-- where the block's own file is entered
pub start-in : (bank : Key → Option Answer) → scopes_in (bank Cursor) ≢ [] → IsIn (record { scopes = 0; files = 0 }) (after (start bank) (boundary Enters))
start-in bank some = record { opened = refl; entered = refl; cursor = some-open (scopes_in (bank Cursor)) some }

pub balanced-inside : (bank : Key → Option Answer) (facts : List UnitFacts) → scopes_in (bank Cursor) ≢ [] → AreBalanced (record { scopes = 0; files = 0 }) facts
    → AreInside (after (start bank) (boundary Enters)) facts
balanced-inside bank facts some balanced = facts-inside (record { scopes = 0; files = 0 }) (after (start bank) (boundary Enters)) facts (start-in bank some) balanced
