-- Prefixes: behind a scope and behind a file the one of before is in force again.
use Rattle.std.proofs.Common.{◌≡◌, ◌≢◌, ◌∙◌, ℕ, zero, suc, true, false, List, [], ◌∷◌, ◌++◌, Option, Some, None, drop, refl, sym, ap, subst}
use Rattle.idl_env.proofs.AnswerLaws.AnswerLemmas.{over_prefix}
use Rattle.idl_scope.proofs.Constructors.{none_some, some_same, tail_same}
use Rattle.idl_scope.proofs.FactsLaws.{after_all-append}
use Rattle.idl_env.specs.Facts.{UnitFacts, World, after, after_all, after_closing, after_step, count_in, given_back, nameless, next_body, over, path_around, prefix_in, scopes_in, unstopped, with_additions, after_nameless}
use Rattle.idl_entity.specs.Identity.{no_prefix}
use Rattle.idl_scope.specs.Stretch.{IsBalanced, closes, depth, depth_behind, enters, leaves, opens}
use Rattle.idl_env.specs.declared.additions.addition.Addition.{Addition}
use Rattle.idl_env.specs.declared.additions.addition.Addition.TheVariants.{Declares, Uses, UsesFurther, Appears, Identifies, TypePrefixes}
use Rattle.idl_env.specs.declared.additions.addition.Step.{Step}
use Rattle.idl_env.specs.declared.additions.addition.Step.TheVariants.{Stays, Opens, OpensNameless, Closes, Prefixes, Enters, Leaves}
use Rattle.idl_env.specs.declared.answering.answer.Answer.{Answer}
use Rattle.idl_env.specs.declared.answering.answer.Scope.{Scope}
use Rattle.idl_entity.specs.declared.identity.Prefix.{Prefix}
use Rattle.idl_env.specs.declared.keys.key.Key.TheVariants.{Cursor, Nameless, Prefix as PrefixKey}

no_cons : {A : Type 0} {x : A} {xs : List A} → [] ≡ x ∷ xs → ⊥
no_cons h = cc

false_true : false ≡ true → ⊥
false_true h = cc

drop-nothing : {A : Type 0} (n : ℕ) → drop {A = A} n [] ≡ []
drop-nothing zero = refl
drop-nothing (suc n) = refl

drop-first : {A : Type 0} (n : ℕ) (xs : List A) → drop n (drop 1 xs) ≡ drop (suc n) xs
drop-first n [] = drop-nothing n
drop-first n (x ∷ xs) = refl

-- additions open and close nothing
over_cursor : (additions : List Addition) (before : Option Answer) → over additions Cursor before ≡ before
over_cursor [] before = refl
over_cursor (Declares e ∷ additions) before = over_cursor additions before
over_cursor (Uses n path body ∷ additions) before = over_cursor additions before
over_cursor (UsesFurther n path further ∷ additions) before = over_cursor additions before
over_cursor (Appears path prefix ∷ additions) before = over_cursor additions before
over_cursor (Identifies path identity ∷ additions) before = over_cursor additions before
over_cursor (TypePrefixes path text ∷ additions) before = over_cursor additions before

-- inside of so many scopes more than these
module _ (t : Scope) (outer : List Scope) (opened : List Prefix) where
  record IsInside (w : World) (n : ℕ) : Type 0 where
    pub scopes : drop n (scopes_in (w.answers Cursor)) ≡ t ∷ outer
    pub kept : drop n w.before.opened ≡ opened

  inside-additions : (w : World) (n : ℕ) (additions : List Addition) → IsInside w n → IsInside (with_additions additions w) n
  inside-additions w n additions h = record {
    scopes = ap (λ o. drop n (scopes_in o)) (over_cursor (unstopped w.answers additions) (w.answers Cursor)) ∙ h.scopes;
    kept = h.kept;
  }

  inside-closing : (w : World) (n : ℕ) (scopes : List Scope) → drop (suc n) scopes ≡ t ∷ outer → drop (suc n) w.before.opened ≡ opened → IsInside (after_closing w scopes) n
  inside-closing w n [] h g = absurd (no_cons h)
  inside-closing w n (s ∷ []) h g = absurd (no_cons (sym (drop-nothing n) ∙ h))
  inside-closing w n (s ∷ u ∷ rest) h g = record { scopes = h; kept = drop-first n w.before.opened ∙ g }

  inside-step : (w : World) (n m : ℕ) (step : Step) → depth_behind (opens step) (closes step) n ≡ Some m → IsInside w n → IsInside (after_step w step) m
  inside-step w n m Stays e h = subst (λ k. IsInside w k) (some_same e) h
  inside-step w n m (Opens path kind) e h =
      subst (λ k. IsInside (after_step w (Opens path kind)) k) (some_same e) (record { scopes = h.scopes; kept = h.kept })
  inside-step w n m (OpensNameless kind) e h =
      subst (λ k. IsInside (after_step w (OpensNameless kind)) k) (some_same e) (record { scopes = h.scopes; kept = h.kept })
  inside-step w zero m Closes e h = absurd (none_some e)
  inside-step w (suc n) m Closes e h =
      subst (λ k. IsInside (after_step w Closes) k) (some_same e) (inside-closing w n (scopes_in (w.answers Cursor)) h.scopes h.kept)
  inside-step w n m (Prefixes text) e h =
      subst (λ k. IsInside (after_step w (Prefixes text)) k) (some_same e) (record { scopes = h.scopes; kept = h.kept })
  inside-step w n m Enters e h = subst (λ k. IsInside (after_step w Enters) k) (some_same e) (record { scopes = h.scopes; kept = h.kept })
  inside-step w n m Leaves e h = subst (λ k. IsInside (after_step w Leaves) k) (some_same e) (record { scopes = h.scopes; kept = h.kept })

  inside-all : (facts : List UnitFacts) (w : World) (n m : ℕ) → depth opens closes n facts ≡ Some m → IsInside w n → IsInside (after_all w facts) m
  inside-all [] w n m e h = subst (λ k. IsInside w k) (some_same e) h
  inside-all (f ∷ facts) w n m e h = by (depth_behind (opens f.step) (closes f.step) n) refl e (λ k rest now. inside-all facts (after w f) k m rest now)
    where
      by : (d : Option ℕ) → depth_behind (opens f.step) (closes f.step) n ≡ d → elim d [ None ↦ None | Some k ↦ depth opens closes k facts ] ≡ Some m
          → ((k : ℕ) → depth opens closes k facts ≡ Some m → IsInside (after w f) k → IsInside (after_all (after w f) facts) m) → IsInside (after_all (after w f) facts) m
      by None is rest more = absurd (none_some rest)
      by (Some k) is rest more = more k rest (inside-step (with_additions f.additions w) n k f.step is (inside-additions w n f.additions h))

-- a scope more is open, and the prefix of before is kept for its end
record IsOpened (w v : World) : Type 0 where
  pub scope : Scope
  pub scopes : scopes_in (v.answers Cursor) ≡ scope ∷ scopes_in (w.answers Cursor)
  pub opened : v.before.opened ≡ prefix_in (w.answers PrefixKey) ∷ w.before.opened

opening : (w : World) (step : Step) → opens step ≡ true → IsOpened w (after_step w step)
opening w (Opens path kind) e = record { scope = record { path = path; kind = kind; body = next_body w path }; scopes = refl; opened = refl }
opening w (OpensNameless kind) e =
    let path = nameless (count_in (w.answers Nameless)) ∷ path_around (scopes_in (w.answers Cursor)) in
    record { scope = record { path = path; kind = kind; body = next_body (after_nameless w) path }; scopes = refl; opened = refl }
opening w Stays e = absurd (false_true e)
opening w other e = absurd (false_true e)

closing-prefix : (w : World) (scopes outer : List Scope) (s : Scope) → scopes ≡ s ∷ outer → outer ≢ [] → prefix_in ((after_closing w scopes).answers PrefixKey) ≡ given_back w.before.opened
closing-prefix w [] outer s e some = absurd (no_cons e)
closing-prefix w (x ∷ []) outer s e some = absurd (some (sym (tail_same e)))
closing-prefix w (x ∷ y ∷ rest) outer s e some = refl

pub prefix-behind_scope : (w : World) (f g : UnitFacts) (inside : List UnitFacts) → scopes_in (w.answers Cursor) ≢ []
    → opens f.step ≡ true → IsBalanced opens closes inside → g.step ≡ Closes
    → prefix_in ((after_all w (f ∷ (inside ++ g ∷ []))).answers PrefixKey) ≡ prefix_in (w.answers PrefixKey)
prefix-behind_scope w f g inside some begins balanced ends =
    let u = with_additions f.additions w in
    let o = opening u f.step begins in
    let v = after_all (after w f) inside in
    let x = with_additions g.additions v in
    let here = inside-all o.scope (scopes_in (u.answers Cursor)) (prefix_in (u.answers PrefixKey) ∷ u.before.opened) inside (after w f) zero zero balanced (record { scopes = o.scopes; kept = o.opened }) in
    let scopes : scopes_in (x.answers Cursor) ≡ o.scope ∷ scopes_in (u.answers Cursor) = ap scopes_in (over_cursor (unstopped v.answers g.additions) (v.answers Cursor)) ∙ here.scopes in
    let outer : scopes_in (u.answers Cursor) ≢ [] = λ e. some (sym (ap scopes_in (over_cursor (unstopped w.answers f.additions) (w.answers Cursor))) ∙ e) in
    ap (λ (y : World). prefix_in (y.answers PrefixKey)) (after_all-append (after w f) inside (g ∷ []))
    ∙ ap (λ step. prefix_in ((after_step x step).answers PrefixKey)) ends
    ∙ closing-prefix x (scopes_in (x.answers Cursor)) (scopes_in (u.answers Cursor)) o.scope scopes outer
    ∙ ap given_back here.kept
    ∙ ap prefix_in (over_prefix (unstopped w.answers f.additions) (w.answers PrefixKey))

-- inside of so many files more than these
module _ (entered : List Prefix) where
  entered-closing : (w : World) (n : ℕ) (scopes : List Scope) → drop n w.before.entered ≡ entered → drop n (after_closing w scopes).before.entered ≡ entered
  entered-closing w n [] h = h
  entered-closing w n (s ∷ []) h = h
  entered-closing w n (s ∷ u ∷ rest) h = h

  entered-step : (w : World) (n m : ℕ) (step : Step) → depth_behind (enters step) (leaves step) n ≡ Some m → drop n w.before.entered ≡ entered → drop m (after_step w step).before.entered ≡ entered
  entered-step w n m Closes e h = subst (λ k. drop k (after_step w Closes).before.entered ≡ entered) (some_same e) (entered-closing w n (scopes_in (w.answers Cursor)) h)
  entered-step w n m Enters e h = subst (λ k. drop k (after_step w Enters).before.entered ≡ entered) (some_same e) h
  entered-step w zero m Leaves e h = absurd (none_some e)
  entered-step w (suc n) m Leaves e h = subst (λ k. drop k (after_step w Leaves).before.entered ≡ entered) (some_same e) (drop-first n w.before.entered ∙ h)
  entered-step w n m other e h = subst (λ k. drop k w.before.entered ≡ entered) (some_same e) h

  entered-all : (facts : List UnitFacts) (w : World) (n m : ℕ) → depth enters leaves n facts ≡ Some m → drop n w.before.entered ≡ entered → drop m (after_all w facts).before.entered ≡ entered
  entered-all [] w n m e h = subst (λ k. drop k w.before.entered ≡ entered) (some_same e) h
  entered-all (f ∷ facts) w n m e h = by (depth_behind (enters f.step) (leaves f.step) n) refl e (λ k rest now. entered-all facts (after w f) k m rest now)
    where
      by : (d : Option ℕ) → depth_behind (enters f.step) (leaves f.step) n ≡ d → elim d [ None ↦ None | Some k ↦ depth enters leaves k facts ] ≡ Some m
          → ((k : ℕ) → depth enters leaves k facts ≡ Some m → drop k (after w f).before.entered ≡ entered → drop m (after_all (after w f) facts).before.entered ≡ entered) → drop m (after_all (after w f) facts).before.entered ≡ entered
      by None is rest more = absurd (none_some rest)
      by (Some k) is rest more = more k rest (entered-step (with_additions f.additions w) n k f.step is h)

entering : (w : World) (f : UnitFacts) → f.step ≡ Enters → (after w f).before.entered ≡ prefix_in (w.answers PrefixKey) ∷ w.before.entered
entering w f e = ap (λ step. (after_step (with_additions f.additions w) step).before.entered) e ∙ ap (λ o. prefix_in o ∷ w.before.entered) (over_prefix (unstopped w.answers f.additions) (w.answers PrefixKey))

pub prefix-behind_file : (w : World) (f g : UnitFacts) (inside : List UnitFacts) → f.step ≡ Enters → IsBalanced enters leaves inside → g.step ≡ Leaves
    → prefix_in ((after_all w (f ∷ (inside ++ g ∷ []))).answers PrefixKey) ≡ prefix_in (w.answers PrefixKey)
prefix-behind_file w f g inside begins balanced ends =
    let v = after_all (after w f) inside in
    let x = with_additions g.additions v in
    ap (λ (y : World). prefix_in (y.answers PrefixKey)) (after_all-append (after w f) inside (g ∷ []))
    ∙ ap (λ step. prefix_in ((after_step x step).answers PrefixKey)) ends
    ∙ ap given_back (entered-all (prefix_in (w.answers PrefixKey) ∷ w.before.entered) inside (after w f) zero zero balanced (entering w f begins))

pub prefix-in_file : (w : World) (f : UnitFacts) → f.step ≡ Enters → prefix_in ((after w f).answers PrefixKey) ≡ no_prefix
prefix-in_file w f e = ap (λ step. prefix_in ((after_step (with_additions f.additions w) step).answers PrefixKey)) e

abbrev prefix_met : List ℕ → List Scope → Prefix
prefix_met text scopes = record { text = text; scope = path_around scopes }

pub prefix-told : (w : World) (f : UnitFacts) (text : List ℕ) → f.step ≡ Prefixes text → prefix_in ((after w f).answers PrefixKey) ≡ prefix_met text (scopes_in (w.answers Cursor))
prefix-told w f text e =
    ap (λ step. prefix_in ((after_step (with_additions f.additions w) step).answers PrefixKey)) e
    ∙ ap (λ o. prefix_met text (scopes_in o)) (over_cursor (unstopped w.answers f.additions) (w.answers Cursor))

pub prefix-inside : (w : World) (f : UnitFacts) → opens f.step ≡ true → prefix_in ((after w f).answers PrefixKey) ≡ prefix_in (w.answers PrefixKey)
prefix-inside w f e = by f.step e ∙ ap prefix_in (over_prefix (unstopped w.answers f.additions) (w.answers PrefixKey))
  where
    u : World
    u = with_additions f.additions w

    by : (step : Step) → opens step ≡ true → prefix_in ((after_step u step).answers PrefixKey) ≡ prefix_in (u.answers PrefixKey)
    by (Opens path kind) e = refl
    by (OpensNameless kind) e = refl
    by other e = absurd (false_true e)
