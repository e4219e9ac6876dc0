-- Open scopes that facts tell of: one with a name stands in a module; and what a nameless scope declares.
use Rattle.std.proofs.Common.{◌≡◌, ◌⊎◌, ◌∙◌, ◌≤◌, ◌<◌, ◌^◌, ℕ, suc, ◌+◌, Bool, true, false, cond, List, [], ◌∷◌, ◌++◌, length, Option, Some, None, append-nil, append_assoc, refl, sym, ap, subst, arith, inl, inr}
use Rattle.std.specs.Prelude.{All}
use Rattle.std.proofs.lemmas.List.Elements.{All-cons, All-nil, All-weaker}
use Rattle.idl_check_laws.proofs.IdlCheck.Visits.VerdictLaws.{faulty-is, sound-is}
use Rattle.idl_check_laws.specs.idl_check.declared.walk.verdict.Verdict.{Verdict}
use Rattle.idl_check_laws.specs.idl_check.tables.Rules.{is_interface, is_misplaced}
use Rattle.idl_check_laws.specs.idl_check.walk.Placing.{faulty_step, heading_kind, is_module, step_of}
use Rattle.idl_check_laws.specs.idl_check.walk.Verdict.{verdict}
use Rattle.idl_root_blocks.proofs.VerdictLaws.Names.{IsCalm, pragma-calm}
use Rattle.idl_check_laws.proofs.Fits.ClosingLaws.{IsFitting, IsSettled, added-names, added-settled, cursor-kept, told-settled}
use Rattle.idl_check_laws.proofs.Fits.FittingLaws.{unit-fits}
use Rattle.idl_check_laws.proofs.Fits.ReachedLaws.{Names, Place, names_in, own}
use Rattle.idl_check_laws.proofs.Fits.SettledLaws.{Added, AreOpened, IsNamed, IsNameless, IsUnder, Stood, Was, over, path_same, stood}
use Rattle.idl_check_laws.proofs.Fits.SoundLaws.{sound-fits}
use Rattle.idl_check_laws.proofs.NamingLaws.{StepNamed, over_nameless, same-number, settled-own, unit-named}
use Rattle.idl_check_laws.proofs.ToldLaws.{told-front}
use Rattle.idl_check_laws.specs.Closing.{AreTold, Entered, IsTold, Left, Unit as OfUnit}
use Rattle.idl_entity.specs.Kind.{kind_eq}
use Rattle.idl_entity.specs.Path.{name_of, scope_of}
use Rattle.idl_lex.specs.kinds.Keywords.{folded}
use Rattle.idl_entity.specs.declared.entity.Entity.{Entity}
use Rattle.idl_entity.specs.declared.kind.Kind.{Kind}
use Rattle.idl_entity.specs.declared.kind.Kind.TheVariants.{Interface, Module}
use Rattle.idl_env.proofs.AnswerLaws.AnswerLemmas.{over-cons}
use Rattle.idl_env.proofs.Membership.{IsIn}
use Rattle.idl_env.specs.Facts.{UnitFacts, World, after, after_closing, after_step, answer_of, answers, closed, closing, count_in, entity_in, entity_key, first_world, global_scope, nameless, next_body, over as over_additions, path_around, scopes_in, unstopped, with_additions, world}
use Rattle.idl_env.specs.SameKey.{same_key}
use Rattle.idl_env.specs.Turns.{turns_for}
use Rattle.idl_env.specs.declared.additions.addition.Addition.{Addition}
use Rattle.idl_env.specs.declared.additions.addition.Addition.TheVariants.{Declares}
use Rattle.idl_env.specs.declared.additions.addition.Step.{Step}
use Rattle.idl_env.specs.declared.additions.addition.Step.TheVariants.{Stays, Opens, OpensNameless, Closes, Prefixes, Enters, Leaves}
use Rattle.idl_env.specs.declared.answering.answer.Answer.{Answer}
use Rattle.idl_env.specs.declared.answering.answer.Answer.TheVariants.{Known}
use Rattle.idl_env.specs.declared.answering.answer.Scope.{Scope}
use Rattle.idl_env.specs.declared.keys.key.Key.{Key}
use Rattle.idl_env.specs.declared.keys.key.Key.TheVariants.{Cursor, Declared, Nameless}
use Rattle.idl_env.specs.keys.Key.{key_eq}
use Rattle.idl_memo.specs.Query.{outcome}
use Rattle.idl_scope.proofs.FactsLaws.{world-append}
use Rattle.idl_tree.specs.declared.unit.Tree.{Tree}
use Rattle.idl_tree.specs.declared.unit.Tree.TheVariants as tree
use Rattle.idl_block.specs.facts.Known.{NoneInside}
use Rattle.idl_lex.specs.tokens.Tokens.{Token}
use Rattle.idl_unit.specs.Ending.{begins, rule_of}
use Rattle.idl_unit.specs.Scoping.{is_closing_by, opening_brace}
use Rattle.idl_unit.specs.declared.fault.Fault.{Fault}
use Rattle.idl_unit.specs.declared.unit.UnitText.{UnitText}
use Rattle.idl_unit.specs.declared.unit.UnitText.TheVariants as unit

-- ---- what facts keep that are told

pub settled : (facts : List UnitFacts) → AreTold facts → IsSettled (world facts)
settled facts told = told-settled (λ front text k. unit-fits front k (λ tokens v sound. sound-fits front k tokens v sound) text) facts told

-- what a unit adds fits
pub fitting : (facts : List UnitFacts) → AreTold facts → (text : UnitText) → IsFitting (world facts) (outcome (verdict (turns_for facts) text) (answers facts)).writes
fitting facts told text = let k = settled facts told in unit-fits facts k (λ tokens v sound. sound-fits facts k tokens v sound) text

one-fits : (facts : List UnitFacts) → AreTold facts → (f : UnitFacts) → IsTold facts f → IsFitting (world facts) f
one-fits facts told f (OfUnit text is) = subst (IsFitting (world facts)) (sym is) (fitting facts told text)
one-fits facts told f (Entered is) = subst (IsFitting (world facts)) (sym is) (record { once = tt; added = λ x i. cc; step = tt })
one-fits facts told f (Left is) = subst (IsFitting (world facts)) (sym is) (record { once = tt; added = λ x i. cc; step = tt })

-- ---- where scopes stand

abbrev pub IsPart : Kind → Type 0
IsPart kind = (kind ≡ Module) ⊎ (kind ≡ Interface)

-- a scope is nameless, or stands in a module or in none
abbrev pub StandsIn : List Scope → Scope → Type 0
StandsIn [] s = Unit {0}
StandsIn (t ∷ outer) s = IsNameless s.path ⊎ (t.kind ≡ Module)

abbrev pub AreStacked : List Scope → Type 0
AreStacked [] = Unit {0}
AreStacked (s ∷ outer) = (IsPart s.kind × StandsIn outer s) × AreStacked outer

-- what a unit opens in these scopes
abbrev pub StepStands : List Scope → Step → Type 0
StepStands scopes (Opens path kind) = IsNamed path × (IsPart kind × (is_interface scopes ≡ false))
StepStands scopes (OpensNameless kind) = IsPart kind
StepStands scopes other = Unit {0}

heading-part : (tokens : List Token) → IsPart (heading_kind tokens)
heading-part tokens = by (begins is_module tokens)
  where
    by : (b : Bool) → IsPart (cond b Module Interface)
    by true = inl refl
    by false = inr refl

faulty-stands : (scopes : List Scope) (tokens : List Token) → StepStands scopes (faulty_step tokens)
faulty-stands scopes tokens = by (opening_brace tokens) (is_closing_by (rule_of tokens))
  where
    by : (o : Option ℕ) (b : Bool)
        → StepStands scopes (elim (elim o as (λ _. Option Kind) [ None ↦ None | Some n ↦ Some (heading_kind tokens) ]) as (λ _. Step) [ Some kind ↦ OpensNameless kind | None ↦ cond b Closes Stays ])
    by None true = tt
    by None false = tt
    by (Some n) b = heading-part tokens

tree-stands : (scopes : List Scope) (t : Tree) → is_misplaced t scopes ≡ false → StepNamed (step_of t (path_around scopes)) → StepStands scopes (step_of t (path_around scopes))
tree-stands scopes (tree.Module name) placed named = (named, (inl refl, placed))
tree-stands scopes (tree.Interface i) placed named = (named, (inr refl, placed))
tree-stands scopes other placed named = tt

calm-stands : (scopes : List Scope) (step : Step) → (turns : ℕ) (bank : Key → Option Answer) → IsCalm turns bank step → StepStands scopes step
calm-stands scopes Stays turns bank calm = tt
calm-stands scopes (Prefixes text) turns bank calm = tt
calm-stands scopes other turns bank calm = absurd calm

unit-stands : (turns : ℕ) (bank : Key → Option Answer) (text : UnitText) → StepStands (scopes_in (bank Cursor)) (outcome (verdict turns text) bank).writes.step
unit-stands turns bank (unit.Tokens tokens) = by (outcome (verdict turns (unit.Tokens tokens)) bank).fault refl
  where
    scopes : List Scope
    scopes = scopes_in (bank Cursor)

    named : StepNamed (outcome (verdict turns (unit.Tokens tokens)) bank).writes.step
    named = unit-named turns bank (unit.Tokens tokens)

    by : (o : Option Fault) → (outcome (verdict turns (unit.Tokens tokens)) bank).fault ≡ o → StepStands scopes (outcome (verdict turns (unit.Tokens tokens)) bank).writes.step
    by (Some f) is = subst (λ (v : Verdict). StepStands scopes v.writes.step) (sym (faulty-is turns bank tokens f is)) (faulty-stands scopes tokens)
    by None is =
        let s = sound-is turns bank tokens is in
        subst (λ (v : Verdict). StepStands scopes v.writes.step) (sym s.is)
        (tree-stands scopes s.tree s.placed (subst (λ (v : Verdict). StepNamed v.writes.step) s.is named))
unit-stands turns bank (unit.Pragma tokens inside) =
    calm-stands (scopes_in (bank Cursor)) (outcome (verdict turns (unit.Pragma tokens inside)) bank).writes.step turns bank (pragma-calm turns bank tokens inside)

-- no nameless scope that is still to be counted is open, or declares a name
pub record IsBlank (w : World) : Type 0 where
  pub names : (n : List ℕ) (m : ℕ) (scope : Place) → count_in (w.answers Nameless) ≤ m → m < 2 ^ 64 → entity_in (w.answers (Declared n (nameless m ∷ scope))) ≡ None
  pub scopes : (s : Scope) → IsIn s (scopes_in (w.answers Cursor)) → (m : ℕ) (scope : Place) → count_in (w.answers Nameless) ≤ m → m < 2 ^ 64 → s.path ≡ nameless m ∷ scope → ⊥

pub record AreKept (w : World) : Type 0 where
  pub stacked : AreStacked (scopes_in (w.answers Cursor))
  pub blank : IsBlank w

-- ---- additions

cursor-same : (w : World) (additions : List Addition) → (with_additions additions w).answers Cursor ≡ w.answers Cursor
cursor-same w additions = ap (λ o. elim o as (λ _. Option Answer) [ None ↦ w.answers Cursor | Some a ↦ Some (answer_of a) ]) (cursor-kept (unstopped w.answers additions))

count-same : (w : World) (additions : List Addition) → (with_additions additions w).answers Nameless ≡ w.answers Nameless
count-same w additions = over_nameless (unstopped w.answers additions) (w.answers Nameless)

around-none : (scopes : List Scope) (m : ℕ) (scope : Place) → ((s : Scope) → IsIn s scopes → s.path ≡ nameless m ∷ scope → ⊥) → path_around scopes ≡ nameless m ∷ scope → ⊥
around-none [] m scope none is = cc
around-none (s ∷ outer) m scope none is = none s (inl refl) is

module _ (w : World) (f : UnitFacts) (fits : IsFitting w f) (kept : AreKept w) where
  abbrev D : Names
  D = names_in w.answers

  added-none : (n : List ℕ) (m : ℕ) (scope : Place) → count_in (w.answers Nameless) ≤ m → m < 2 ^ 64 → own (over f.additions D) n (nameless m ∷ scope) ≡ None
  added-none n m scope least small = by (stood D f.additions n (nameless m ∷ scope))
    where
      by : Stood D f.additions n (nameless m ∷ scope) → own (over f.additions D) n (nameless m ∷ scope) ≡ None
      by (Was same) = same ∙ kept.blank.names n m scope least small
      by (Added x found key now) =
          let path : nameless m ∷ scope ≡ scope_of x.path = path_same n (folded (name_of x.path)) (nameless m ∷ scope) (scope_of x.path) key in
          let around : scope_of x.path ≡ path_around (scopes_in (w.answers Cursor)) = (fits.added x found).beside (subst IsNameless path refl) in
          absurd (around-none (scopes_in (w.answers Cursor)) m scope (λ s i is. kept.blank.scopes s i m scope least small is) (sym around ∙ sym path))

  pub added-kept : AreKept (with_additions f.additions w)
  added-kept = record {
    stacked = subst (λ o. AreStacked (scopes_in o)) (sym (cursor-same w f.additions)) kept.stacked;
    blank = record {
      names = λ n m scope least small.
          ap (λ (ns : Names). own ns n (nameless m ∷ scope)) (added-names w f.additions)
          ∙ added-none n m scope (subst (λ o. count_in o ≤ m) (count-same w f.additions) least) small;
      scopes = λ s i m scope least small is.
          kept.blank.scopes s (subst (λ o. IsIn s (scopes_in o)) (cursor-same w f.additions) i) m scope (subst (λ o. count_in o ≤ m) (count-same w f.additions) least) small is;
    };
  }

-- ---- steps

stands-in : (scopes : List Scope) (s : Scope) → AreStacked scopes → is_interface scopes ≡ false → StandsIn scopes s
stands-in [] s stacked other = tt
stands-in (t ∷ outer) s stacked other = by stacked.0.0
  where
    by : IsPart t.kind → IsNameless s.path ⊎ (t.kind ≡ Module)
    by (inl is) = inr is
    by (inr is) = let never : true ≡ false = sym (ap (λ k. kind_eq k Interface) is) ∙ other in cc

named-none : (path : Place) (m : ℕ) (scope : Place) → IsNamed path → path ≡ nameless m ∷ scope → ⊥
named-none path m scope named is = let never : true ≡ false = subst IsNamed is named in cc

module _ (w : World) (settled_there : IsSettled w) (kept : AreKept w) where
  opens-kept : (path : Place) (kind : Kind) → StepStands (scopes_in (w.answers Cursor)) (Opens path kind) → AreKept (after_step w (Opens path kind))
  opens-kept path kind stands = record {
    stacked = ((stands.1.0, stands-in (scopes_in (w.answers Cursor)) (record { path = path; kind = kind; body = next_body w path }) kept.stacked stands.1.1), kept.stacked);
    blank = record { names = kept.blank.names; scopes = among };
  }
    where
      among : (s : Scope) → IsIn s (record { path = path; kind = kind; body = next_body w path } ∷ scopes_in (w.answers Cursor)) → (m : ℕ) (scope : Place) → count_in (w.answers Nameless) ≤ m → m < 2 ^ 64
          → s.path ≡ nameless m ∷ scope → ⊥
      among s (inl same) m scope least small is = named-none path m scope stands.0 (ap (λ (s : Scope). s.path) same ∙ is)
      among s (inr i) m scope least small is = kept.blank.scopes s i m scope least small is

  hidden-kept : (kind : Kind) → IsPart kind → AreKept (after_step w (OpensNameless kind))
  hidden-kept kind part = record {
    stacked = ((part, hidden (scopes_in (w.answers Cursor))), kept.stacked);
    blank = record { names = λ n m scope least small. kept.blank.names n m scope (omega (arith, least)) small; scopes = among };
  }
    where
      path : Place
      path = nameless (count_in (w.answers Nameless)) ∷ path_around (scopes_in (w.answers Cursor))

      hidden : (scopes : List Scope) → StandsIn scopes (record { path = nameless (count_in (w.answers Nameless)) ∷ path_around (scopes_in (w.answers Cursor)); kind = kind; body = next_body w path })
      hidden [] = tt
      hidden (t ∷ outer) = inl refl

      among : (s : Scope)
          → IsIn s (record { path = nameless (count_in (w.answers Nameless)) ∷ path_around (scopes_in (w.answers Cursor)); kind = kind; body = next_body w path } ∷ scopes_in (w.answers Cursor))
          → (m : ℕ) (scope : Place) → count_in (w.answers Nameless) + 1 ≤ m → m < 2 ^ 64 → s.path ≡ nameless m ∷ scope → ⊥
      among s (inl same) m scope least small is =
          let one : count_in (w.answers Nameless) ≡ m =
          same-number (count_in (w.answers Nameless)) m (path_around (scopes_in (w.answers Cursor))) scope (omega (arith, least, small)) small (ap (λ (s : Scope). s.path) same ∙ is) in
          omega (arith, least, one)
      among s (inr i) m scope least small is = kept.blank.scopes s i m scope (omega (arith, least)) small is

  -- a closing declares no other name
  closing-none : (here : Scope) (k : Key) → entity_in (w.answers k) ≡ None → entity_in (over_additions (closing w here) k (w.answers k)) ≡ None
  closing-none here k none = by (kind_eq here.kind Interface) (entity_in (w.answers (entity_key here.path))) refl
    where
      at : (e : Entity) (t : Bool) → entity_in (w.answers (entity_key here.path)) ≡ Some e → key_eq k (entity_key e.path) ≡ t → entity_in (cond t (Some (Known (closed w e))) (w.answers k)) ≡ None
      at e false there same = none
      at e true there same =
          let key : k ≡ entity_key here.path = same_key k (entity_key e.path) same ∙ settled-own w settled_there _ _ e there in
          let never : Some e ≡ None = sym there ∙ ap (λ q. entity_in (w.answers q)) (sym key) ∙ none in cc

      by : (b : Bool) (o : Option Entity) → entity_in (w.answers (entity_key here.path)) ≡ o
          → entity_in (over_additions (cond b (elim o as (λ _. List Addition) [ None ↦ [] | Some e ↦ Declares (closed w e) ∷ [] ]) []) k (w.answers k)) ≡ None
      by false o there = none
      by true None there = none
      by true (Some e) there = ap entity_in (over-cons (Declares (closed w e)) [] k (w.answers k)) ∙ at e (key_eq k (entity_key e.path)) there refl

  closes-kept : (scopes : List Scope) → AreStacked scopes → ((s : Scope) → IsIn s scopes → IsIn s (scopes_in (w.answers Cursor))) → AreKept (after_closing w scopes)
  closes-kept [] stacked among = kept
  closes-kept (s ∷ []) stacked among = kept
  closes-kept (s ∷ t ∷ outer) stacked among = record {
    stacked = stacked.1;
    blank = record {
      names = λ n m scope least small. closing-none s (Declared n (nameless m ∷ scope)) (kept.blank.names n m scope (count m least) small);
      scopes = λ x i m scope least small is. kept.blank.scopes x (among x (inr i)) m scope (count m least) small is;
    };
  }
    where
      count : (m : ℕ) → count_in (over_additions (closing w s) Nameless (w.answers Nameless)) ≤ m → count_in (w.answers Nameless) ≤ m
      count m least = subst (λ o. count_in o ≤ m) (over_nameless (closing w s) (w.answers Nameless)) least

  step-kept : (step : Step) → StepStands (scopes_in (w.answers Cursor)) step → AreKept (after_step w step)
  step-kept Stays stands = kept
  step-kept (Opens path kind) stands = opens-kept path kind stands
  step-kept (OpensNameless kind) stands = hidden-kept kind stands
  step-kept Closes stands = closes-kept (scopes_in (w.answers Cursor)) kept.stacked (λ s i. i)
  step-kept (Prefixes text) stands = record { stacked = kept.stacked; blank = record { names = kept.blank.names; scopes = kept.blank.scopes } }
  step-kept Enters stands = record { stacked = kept.stacked; blank = record { names = kept.blank.names; scopes = kept.blank.scopes } }
  step-kept Leaves stands = record { stacked = kept.stacked; blank = record { names = kept.blank.names; scopes = kept.blank.scopes } }

-- ---- unit after unit

pub told-kept : (facts : List UnitFacts) → AreTold facts → AreKept (world facts)
unfolding world
told-kept facts told = on [] facts refl first
  where
    first : AreKept first_world
    first = record {
      stacked = ((inl refl, tt), tt);
      blank = record { names = λ n m scope least small. refl; scopes = global };
    }
      where
        global : (s : Scope) → IsIn s (global_scope ∷ []) → (m : ℕ) (scope : Place) → 0 ≤ m → m < 2 ^ 64 → s.path ≡ nameless m ∷ scope → ⊥
        global s (inl same) m scope least small is = let never : [] ≡ nameless m ∷ scope = ap (λ (s : Scope). s.path) same ∙ is in cc
        global s (inr i) m scope least small is = i

    step_stands : (front : List UnitFacts) (f : UnitFacts) → IsTold front f → StepStands (scopes_in (answers front Cursor)) f.step
    step_stands front f (OfUnit text is) = subst (λ (g : UnitFacts). StepStands (scopes_in (answers front Cursor)) g.step) (sym is) (unit-stands (turns_for front) (answers front) text)
    step_stands front f (Entered is) = subst (λ (g : UnitFacts). StepStands (scopes_in (answers front Cursor)) g.step) (sym is) tt
    step_stands front f (Left is) = subst (λ (g : UnitFacts). StepStands (scopes_in (answers front Cursor)) g.step) (sym is) tt

    one : (front : List UnitFacts) (f : UnitFacts) → AreTold front → IsTold front f → AreKept (world front) → AreKept (after (world front) f)
    one front f before is kept =
        let w : World = world front in
        let fits : IsFitting w f = one-fits front before f is in
        step-kept (with_additions f.additions w) (added-settled w f (settled front before) fits) (added-kept w f fits kept) f.step
        (subst (λ o. StepStands (scopes_in o) f.step) (sym (cursor-same w f.additions)) (step_stands front f is))

    on : (front back : List UnitFacts) → facts ≡ front ++ back → AreKept (world front) → AreKept (world facts)
    on front [] is kept = subst (λ fs. AreKept (world fs)) (sym (is ∙ append-nil front)) kept
    on front (f ∷ back) is kept =
        on (front ++ f ∷ []) back (is ∙ sym (append_assoc front (f ∷ []) back))
        (subst AreKept (sym (world-append front (f ∷ []))) (one front f (told-front facts front (f ∷ back) is told) (told front f back is) kept))

-- ---- how deep scopes are

-- each of these scopes is deeper than those outward of it
abbrev pub AreUnder : List Scope → Type 0
AreUnder [] = Unit {0}
AreUnder (s ∷ outer) = IsUnder s outer × AreUnder outer

pub under-opened : (D : Names) (scopes : List Scope) (inside : List (List Place)) → AreOpened D scopes inside → AreUnder scopes
under-opened D [] inside opened = tt
under-opened D (s ∷ outer) [] opened = absurd opened
under-opened D (s ∷ outer) (paths ∷ inside) opened = (opened.1.0, under-opened D outer inside opened.1.1)

abbrev pub AreShorter : ℕ → List Scope → Type 0
AreShorter depth scopes = All (λ (t : Scope). length t.path < depth) scopes

pub under-shorter : (s : Scope) (outer : List Scope) → AreUnder (s ∷ outer) → AreShorter (length s.path) outer
under-shorter s [] under = All-nil (λ (t : Scope). length t.path < length s.path)
under-shorter s (t ∷ outer) under =
    let longer : length s.path ≡ suc (length t.path) = ap length under.0.1 in
    All-cons (λ (u : Scope). length u.path < length s.path) t outer (omega (arith, longer))
    (All-weaker (λ (u : Scope). length u.path < length t.path) (λ (u : Scope). length u.path < length s.path) (λ u less. omega (arith, longer, less)) outer (under-shorter t outer under.1))

-- none is deeper than the innermost
pub told-deepest : (facts : List UnitFacts) → AreTold facts → NoneInside (scopes_in (answers facts Cursor)) (path_around (scopes_in (answers facts Cursor)))
told-deepest facts told = by (scopes_in (answers facts Cursor)) (under-opened (names_in (answers facts)) (scopes_in (answers facts Cursor)) (world facts).inside (settled facts told).opened)
  where
    by : (scopes : List Scope) → AreUnder scopes → NoneInside scopes (path_around scopes)
    by [] under = All-nil (λ (s : Scope). length s.path ≤ 0)
    by (s ∷ outer) under =
        All-cons (λ (t : Scope). length t.path ≤ length s.path) s outer (omega arith)
        (All-weaker (λ (t : Scope). length t.path < length s.path) (λ (t : Scope). length t.path ≤ length s.path) (λ t less. omega (arith, less)) outer (under-shorter s outer under))
