-- What facts keep is kept by each unit, so the list of a closed interface is what is reached from it.
use Rattle.std.proofs.Common.{◌≡◌, ◌⊎◌, ◌∙◌, ℕ, ◌+◌, Bool, true, false, cond, List, [], ◌∷◌, ◌++◌, Option, Some, None, append_assoc, refl, sym, ap, subst, arith, inl, inr}
use Rattle.std.proofs.lemmas.List.{append-nil}
use Rattle.std.specs.Prelude.{Contains, drop, nat_eq, nat_lt}
use Rattle.idl_base.specs.Exact.{same_number}
use Rattle.idl_check_laws.proofs.Fits.ReachedLaws.{Names, Place, names_in, there}
use Rattle.idl_check_laws.proofs.Fits.SettledLaws.{AreAdded, IsKept, IsNamed, IsNameless, IsOpened, IsPlace, IsUnder, Once, added-kept, named-nameless, over}
use Rattle.idl_check_laws.proofs.Fits.TurnedLaws.{inherited-in, inherited-out, turned-kept}
use Rattle.idl_check_laws.specs.Closing.{AreTold, Entered, IsTold, Left, Unit as OfUnit}
use Rattle.idl_check.specs.walk.Verdict.{verdict}
use Rattle.idl_lex.specs.kinds.Keywords.{folded}
use Rattle.idl_memo.specs.Query.{outcome}
use Rattle.idl_scope.proofs.Constructors.{some_same, none_some}
use Rattle.idl_scope.proofs.FactsLaws.{world-append}
use Rattle.idl_env.proofs.Membership.{Contains-IsIn, IsIn, IsIn-Contains, IsIn-left, IsIn-right, IsIn-split}
use Rattle.std.specs.Char.{to_ascii_lowercase}
use Rattle.idl_env.proofs.StoppedLemmas.{declared-unstopped}
use Rattle.idl_env.specs.Facts.{UnitFacts, World, addition_at, answer_of, after, after_closing, after_nameless, after_opening, after_step, answers, closed, closing, entity_in, entity_key, first_world, inherited, innermost, nameless, next_body, operations_of, path_around, scopes_in, unstopped, with_additions, world, count_in}
use Rattle.idl_entity.specs.Kind.{kind_eq, same_kind}
use Rattle.idl_entity.specs.Path.{name_of, scope_of}
use Rattle.idl_env.specs.Turns.{turns_for}
use Rattle.idl_env.specs.declared.additions.addition.Addition.{Addition}
use Rattle.idl_env.specs.declared.additions.addition.Addition.TheVariants.{Declares, Uses, UsesFurther, Appears, Identifies, TypePrefixes}
use Rattle.idl_env.specs.declared.additions.addition.Step.{Step}
use Rattle.idl_env.specs.declared.additions.addition.Step.TheVariants.{Stays, Opens, OpensNameless, Closes, Enters, Leaves}
use Rattle.idl_env.specs.declared.answering.answer.Answer.{Answer}
use Rattle.idl_env.specs.declared.answering.answer.Scope.{Scope}
use Rattle.idl_entity.specs.declared.entity.Entity.{Entity}
use Rattle.idl_env.specs.declared.keys.key.Key.TheVariants.{Cursor, Declared, Nameless}
use Rattle.idl_entity.specs.declared.kind.Kind.{Kind}
use Rattle.idl_entity.specs.declared.kind.Kind.TheVariants.{Interface}
use Rattle.idl_unit.specs.declared.unit.UnitText.{UnitText}

-- what facts that come to this keep
abbrev pub IsSettled : World → Type 0
IsSettled w = IsKept (names_in w.answers) (scopes_in (w.answers Cursor)) w.inside

-- ---- a scope that closes

-- no name that is declared is that of a nameless scope, whatever its case
lower-mark : (c : ℕ) → cond (nat_lt c 65) c (cond (nat_lt c 91) (c + 32) c) ≡ 63 → nat_eq c 63 ≡ true
lower-mark c h = grind arith

pub nameless-folded : (p q : Place) → IsNameless p → IsNamed q → folded (name_of p) ≡ folded (name_of q) → ⊥
nameless-folded [] q less named h = less
nameless-folded ([] ∷ p) q less named h = cc
nameless-folded ((b ∷ m) ∷ p) [] less named h = named
nameless-folded ((b ∷ m) ∷ p) ([] ∷ q) less named h = let z : to_ascii_lowercase b ∷ folded m ≡ [] = h in cc
nameless-folded ((b ∷ m) ∷ p) ((c ∷ n) ∷ q) less named h =
    let heads : to_ascii_lowercase b ≡ to_ascii_lowercase c = cc in
    let mark : b ≡ 63 = same_number b 63 less in
    let c_mark : nat_eq c 63 ≡ true = lower-mark c (sym heads ∙ ap to_ascii_lowercase mark) in
    let z : true ≡ false = sym c_mark ∙ named in cc

-- what stands at the place of an open scope that has a name, stands under that path
place-entity : (D : Names) (path : Place) (name : List ℕ) (scope : Place) → path ≡ name ∷ scope → IsPlace D path → (e : Entity) → there D path ≡ Some e
    → IsNamed e.path → folded (name_of path) ≡ folded (name_of e.path) → e.path ≡ path
place-entity D path name scope is (inl global) e h named same = let z : [] ≡ name ∷ scope = sym global ∙ is in cc
place-entity D path name scope is (inr (inl nameless)) e h named same = absurd (nameless-folded path e.path nameless named same)
place-entity D path name scope is (inr (inr y)) e h named same = ap (λ (z : Entity). z.path) (sym (some_same (sym y.1 ∙ h))) ∙ y.2

module _ (w : World) (s t : Scope) (outer : List Scope) where
  abbrev D : Names
  D = names_in w.answers

  abbrev Closes-kept : List Addition → List (List Place) → Type 0
  Closes-kept additions rest = IsKept (over additions D) (t ∷ outer) rest

  unchanged : (paths : List Place) (rest : List (List Place)) → IsKept D (s ∷ t ∷ outer) (paths ∷ rest) → Closes-kept [] rest
  unchanged paths rest k = record { named = k.named; placed = k.placed; whole = k.whole; opened = k.opened.1.1; some = λ z. cc; modules = k.modules }

  closes-entity : (paths : List Place) (rest : List (List Place)) → w.inside ≡ paths ∷ rest → IsKept D (s ∷ t ∷ outer) (paths ∷ rest) → s.kind ≡ Interface
      → (o : Option Entity) → there D s.path ≡ o → Closes-kept (elim o as (λ _. List Addition) [ None ↦ [] | Some e ↦ Declares (closed w e) ∷ [] ]) rest
  closes-entity paths rest inside k interface None h = unchanged paths rest k
  closes-entity paths rest inside k interface (Some e) h =
      let named = k.named (folded (name_of s.path)) (scope_of s.path) e h in
      let at : e.path ≡ s.path = place-entity D s.path k.opened.1.0.0 t.path k.opened.1.0.1 k.opened.0.place e h named.0 named.1 in
      let kind : e.kind ≡ Interface = k.opened.0.kind e h at ∙ interface in
      let own_paths : innermost w.inside ≡ paths = ap innermost inside in
      let more = inherited w.answers e.bases in
      turned-kept D s t outer paths rest k e h at kind (closed w e) refl refl refl refl
      (λ p b i j. IsIn-left p more (innermost w.inside) (inherited-in w.answers p e.bases b (IsIn-Contains b e.bases i) j))
      (λ p i. IsIn-right p more (innermost w.inside) (subst (IsIn p) (sym own_paths) i))
      (λ p i. elim (IsIn-split p more (innermost w.inside) i) as (λ _. ((b : Place) × Contains e.bases b × IsIn p (operations_of (there D b))) ⊎ IsIn p paths) [
        | inl j ↦ inl (let r = inherited-out w.answers p e.bases j in (r.0, Contains-IsIn r.0 e.bases r.1, r.2))
        | inr j ↦ inr (subst (IsIn p) own_paths j)
      ])

  closes-kept : (os : List (List Place)) → w.inside ≡ os → IsKept D (s ∷ t ∷ outer) os → IsKept (over (closing w s) D) (t ∷ outer) (drop 1 w.inside)
  closes-kept [] inside k = absurd k.opened
  closes-kept (paths ∷ rest) inside k = subst (λ os. IsKept (over (closing w s) D) (t ∷ outer) os) (sym (ap (drop 1) inside)) (by_kind (kind_eq s.kind Interface) refl)
    where
      by_kind : (b : Bool) → kind_eq s.kind Interface ≡ b
          → Closes-kept (cond b (elim (entity_in (w.answers (entity_key s.path))) as (λ _. List Addition) [ None ↦ [] | Some e ↦ Declares (closed w e) ∷ [] ]) []) rest
      by_kind true h = closes-entity paths rest inside k (same_kind s.kind Interface h) (there D s.path) refl
      by_kind false h = unchanged paths rest k

closing-settled : (w : World) (scopes : List Scope) → IsSettled w → IsKept (names_in w.answers) scopes w.inside → IsSettled (after_closing w scopes)
closing-settled w [] k h = k
closing-settled w (s ∷ []) k h = k
closing-settled w (s ∷ t ∷ outer) k h = closes-kept w s t outer w.inside refl h

-- ---- what a unit does to the open scopes

-- a scope that a unit opens stands in the innermost, and nothing is declared in it yet
abbrev pub StepFits : World → Step → Type 0
StepFits w (Opens path kind) =
    let s : Scope = record { path = path; kind = kind; body = next_body w path } in
    IsOpened (names_in w.answers) s [] × IsUnder s (scopes_in (w.answers Cursor))
StepFits w other = Unit {0}

opening-settled : (w : World) (s : Scope) → IsSettled w → IsOpened (names_in w.answers) s [] → IsUnder s (scopes_in (w.answers Cursor)) → IsSettled (after_opening w s)
opening-settled w s k o u = record { named = k.named; placed = k.placed; whole = k.whole; opened = (o, (u, k.opened)); some = λ z. cc; modules = k.modules }

pub under-around : (name : List ℕ) (kind : Kind) (body : ℕ) (scopes : List Scope) → IsUnder (record { path = name ∷ path_around scopes; kind = kind; body = body }) scopes
under-around name kind body [] = tt
under-around name kind body (t ∷ outer) = (name, refl)

nameless-opened : (w : World) (s : Scope) → IsSettled w → IsNameless s.path → IsOpened (names_in w.answers) s []
nameless-opened w s k less = record {
  place = inr (inl less);
  kind = λ e h is. absurd (no e h is);
  held = λ e h is interface. absurd (no e h is);
}
  where
    no : (e : Entity) → there (names_in w.answers) s.path ≡ Some e → e.path ≡ s.path → ⊥
    no e h is = named-nameless e.path (k.named (folded (name_of s.path)) (scope_of s.path) e h).0 (subst IsNameless (sym is) less)

step-settled : (w : World) (step : Step) → IsSettled w → StepFits w step → IsSettled (after_step w step)
step-settled w Stays k fits = k
step-settled w (Opens path kind) k fits = opening-settled w (record { path = path; kind = kind; body = next_body w path }) k fits.0 fits.1
step-settled w (OpensNameless kind) k fits =
    let v = after_nameless w in
    let path = nameless (count_in (w.answers Nameless)) ∷ path_around (scopes_in (w.answers Cursor)) in
    let s : Scope = record { path = path; kind = kind; body = next_body v path } in
    opening-settled v s k (nameless-opened v s k refl) (under-around (nameless (count_in (w.answers Nameless))) kind (next_body v path) (scopes_in (w.answers Cursor)))
step-settled w Closes k fits = closing-settled w (scopes_in (w.answers Cursor)) k k
step-settled w other k fits = k

-- nothing that is added changes the open scopes
pub cursor-kept : (additions : List Addition) → addition_at additions Cursor ≡ None
cursor-kept [] = refl
cursor-kept (Declares e ∷ additions) = cursor-kept additions
cursor-kept (Uses n path body ∷ additions) = cursor-kept additions
cursor-kept (UsesFurther n path further ∷ additions) = cursor-kept additions
cursor-kept (Appears path prefix ∷ additions) = cursor-kept additions
cursor-kept (Identifies path identity ∷ additions) = cursor-kept additions
cursor-kept (TypePrefixes path text ∷ additions) = cursor-kept additions

-- and no name is declared otherwise by uses that are stopped
pub added-names : (w : World) (additions : List Addition) → names_in (with_additions additions w).answers ≡ over additions (names_in w.answers)
added-names w additions = λ i n path. declared-unstopped w.answers n path additions (w.answers (Declared n path)) i

-- so it is kept by a unit that adds this
pub record IsFitting (w : World) (f : UnitFacts) : Type 0 where
  pub once : Once f.additions
  pub added : AreAdded (names_in w.answers) (scopes_in (w.answers Cursor)) f.additions
  pub step : StepFits (with_additions f.additions w) f.step

pub added-settled : (w : World) (f : UnitFacts) → IsSettled w → IsFitting w f → IsSettled (with_additions f.additions w)
added-settled w f k fits =
    let v = with_additions f.additions w in
    let same : v.answers Cursor ≡ w.answers Cursor = ap (λ o. elim o as (λ _. Option Answer) [ None ↦ w.answers Cursor | Some a ↦ Some (answer_of a) ]) (cursor-kept (unstopped w.answers f.additions)) in
    let added = added-kept (names_in w.answers) (scopes_in (w.answers Cursor)) w.inside f.additions k fits.added fits.once in
    subst (λ ns. IsKept ns (scopes_in (v.answers Cursor)) v.inside) (sym (added-names w f.additions)) (subst (λ o. IsKept (over f.additions (names_in w.answers)) (scopes_in o) v.inside) (sym same) added)

unit-settled : (w : World) (f : UnitFacts) → IsSettled w → IsFitting w f → IsSettled (after w f)
unit-settled w f k fits = step-settled (with_additions f.additions w) f.step (added-settled w f k fits) fits.step

-- ---- unit after unit

first-settled : IsSettled first_world
first-settled = record {
  named = λ n path x h. absurd (none_some h);
  placed = λ n path x h. absurd (none_some h);
  whole = λ e c. absurd (none_some c.stands);
  opened = (record { place = inl refl; kind = λ e h is. absurd (none_some h); held = λ e h is interface. absurd (none_some h) }, (tt, tt));
  some = λ z. cc;
  modules = λ n path x h. absurd (none_some h);
}

-- what verdicts tell is kept, where a unit's verdict fits
pub told-settled : ((front : List UnitFacts) (text : UnitText) → IsSettled (world front) → IsFitting (world front) (outcome (verdict (turns_for front) text) (answers front)).writes)
    → (facts : List UnitFacts) → AreTold facts → IsSettled (world facts)
unfolding world
told-settled fits facts told = on [] facts refl first
  where
    first : IsSettled (world [])
    first = first-settled

    no-addition : (w : World) (step : Step) → StepFits (with_additions [] w) step → IsFitting w (record { additions = []; step = step })
    no-addition w step s = record { once = tt; added = λ x i. absurd (none_some i); step = s }

    one : (front : List UnitFacts) (f : UnitFacts) → IsTold front f → IsSettled (world front) → IsFitting (world front) f
    one front f (OfUnit text is) k = subst (IsFitting (world front)) (sym is) (fits front text k)
    one front f (Entered is) k = subst (IsFitting (world front)) (sym is) (no-addition (world front) Enters tt)
    one front f (Left is) k = subst (IsFitting (world front)) (sym is) (no-addition (world front) Leaves tt)

    on : (front back : List UnitFacts) → facts ≡ front ++ back → IsSettled (world front) → IsSettled (world facts)
    on front [] is k = subst (λ fs. IsSettled (world fs)) (sym (is ∙ append-nil front)) k
    on front (f ∷ back) is k =
        on (front ++ f ∷ []) back (is ∙ sym (append_assoc front (f ∷ []) back))
        (subst IsSettled (sym (world-append front (f ∷ []))) (unit-settled (world front) f k (one front f (told front f back is) k)))
