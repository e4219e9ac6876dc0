-- Names that facts tell of: what is declared stands at its own key, and no nameless scope that is still to be counted was open.
use Rattle.std.proofs.Common.{◌≡◌, ◌∙◌, ◌≤◌, ◌<◌, ◌^◌, ℕ, ◌+◌, Bool, true, false, cond, List, [], ◌∷◌, ◌++◌, Option, Some, None, Result, Ok, Err, append-nil, append_assoc, refl, sym, ap, subst, arith, inl, inr}
use Rattle.std.specs.Prelude.{decimal}
use Rattle.std.proofs.lemmas.Fmt.{decimal_injective}
use Rattle.idl_check.proofs.Visits.VerdictLaws.{faulty-is, sound-is}
use Rattle.idl_check.specs.declared.walk.verdict.Verdict.{Verdict}
use Rattle.idl_check.specs.ids.About.{Said, about, about_entity, refused_for, said_at, unnamed_faults, with_faults}
use Rattle.idl_check.specs.ids.Pragmas.{said, text_faults}
use Rattle.idl_check.specs.tables.Rules.{has_id}
use Rattle.idl_check.specs.walk.Placing.{faulty_step, opened_kind, step_of}
use Rattle.idl_check.specs.walk.Verdict.{verdict}
use Rattle.idl_check_laws.proofs.Fits.ClosingLaws.{IsSettled, nameless-folded}
use Rattle.idl_check_laws.proofs.Fits.ReachedLaws.{Place}
use Rattle.idl_check_laws.proofs.Fits.SettledLaws.{IsNamed}
use Rattle.idl_check_laws.proofs.Fits.SoundLaws.{declared-named}
use Rattle.idl_check_laws.proofs.PragmaLaws.{faulty-pragma, spoken-pragma}
use Rattle.idl_check_laws.specs.Closing.{AreTold, Entered, IsTold, Left, Unit as OfUnit}
use Rattle.idl_entity.specs.Path.{path_eq, same_path}
use Rattle.idl_entity.specs.declared.entity.Entity.{Entity}
use Rattle.idl_entity.specs.declared.identity.Fixed.{Fixed}
use Rattle.idl_entity.specs.declared.identity.Fixed.TheVariants.{Id, Version}
use Rattle.idl_entity.specs.declared.identity.Identity.{Identity}
use Rattle.idl_entity.specs.declared.kind.Kind.{Kind}
use Rattle.idl_env.specs.Facts.{UnitFacts, World, after, after_closing, after_step, answers, closing, count_in, entity_in, entity_key, first_world, nameless, next_body, over, path_around, scopes_in, unstopped, with_additions, world}
use Rattle.idl_env.specs.Turns.{turns_for}
use Rattle.idl_env.specs.declared.additions.addition.Addition.{Addition}
use Rattle.idl_env.specs.declared.additions.addition.Addition.TheVariants.{Declares, Uses, UsesFurther, Appears, Identifies, TypePrefixes}
use Rattle.idl_env.specs.declared.additions.addition.Step.{Step}
use Rattle.idl_env.specs.declared.additions.addition.Step.TheVariants.{Stays, Opens, OpensNameless, Closes, Prefixes, Enters, Leaves}
use Rattle.idl_env.specs.declared.answering.answer.Answer.{Answer}
use Rattle.idl_env.specs.declared.answering.answer.Answer.TheVariants.{Count}
use Rattle.idl_env.specs.declared.answering.answer.Scope.{Scope}
use Rattle.idl_env.specs.declared.keys.key.Key.{Key}
use Rattle.idl_env.specs.declared.keys.key.Key.TheVariants.{Cursor, Declared, Nameless, Opened}
use Rattle.idl_fault.specs.declared.code.Code.TheVariants.{NoRepositoryId}
use Rattle.idl_lex.specs.kinds.Keywords.{folded}
use Rattle.idl_lex.specs.tokens.Tokens.{Token}
use Rattle.idl_memo.proofs.QueryLaws.{outcome-and_then}
use Rattle.idl_memo.specs.Query.{Done, and_then, outcome}
use Rattle.idl_parts.specs.UnitParts.{unit_parts}
use Rattle.idl_parts.specs.declared.part.Declaration.TheVariants as declaration
use Rattle.idl_scope.proofs.FactsLaws.{world-append}
use Rattle.idl_scope.specs.Known.{known}
use Rattle.idl_scope.specs.Lookup.{Lookup, by_result, denoted}
use Rattle.idl_scope.specs.declared.fault.NameFault.{NameFault}
use Rattle.idl_scope.specs.declared.found.Found.{Found}
use Rattle.idl_tree.specs.Lexeme.{lexemes}
use Rattle.idl_tree.specs.NameParts.{last_at}
use Rattle.idl_tree.specs.Unit.{spell}
use Rattle.idl_tree.specs.declared.name.ScopedName.{ScopedName}
use Rattle.idl_tree.specs.declared.pragma.Pragma.{Pragma}
use Rattle.idl_tree.specs.declared.pragma.Pragma.TheVariants as pragma
use Rattle.idl_tree.specs.declared.unit.Tree.{Tree}
use Rattle.idl_tree.specs.declared.unit.Tree.TheVariants as tree
use Rattle.idl_unit.specs.Ending.{rule_of}
use Rattle.idl_unit.specs.Scoping.{is_closing_by}
use Rattle.idl_unit.specs.TokenRules.{fault_at}
use Rattle.idl_unit.specs.declared.fault.Fault.{Fault}
use Rattle.idl_unit.specs.declared.unit.UnitText.{UnitText}
use Rattle.idl_unit.specs.declared.unit.UnitText.TheVariants as unit

-- ---- what a unit opens has a name

abbrev pub StepNamed : Step → Type 0
StepNamed (Opens path kind) = IsNamed path
StepNamed other = Unit {0}

tree-named : (tokens : List Token) (t : Tree) (scope : Place) → lexemes tokens ≡ spell t → StepNamed (step_of t scope)
unfolding unit_parts
tree-named tokens (tree.Module name) scope spelled = declared-named tokens (tree.Module name) spelled declaration.Module name (inr (inl refl))
tree-named tokens (tree.Interface i) scope spelled = declared-named tokens (tree.Interface i) spelled (declaration.Interface i.is_local) i.name (inr (inl refl))
tree-named tokens other scope spelled = tt

faulty-named : (tokens : List Token) → StepNamed (faulty_step tokens)
faulty-named tokens = by (opened_kind tokens) (is_closing_by (rule_of tokens))
  where
    by : (o : Option Kind) (b : Bool) → StepNamed (elim o as (λ _. Step) [ None ↦ cond b Closes Stays | Some kind ↦ OpensNameless kind ])
    by None true = tt
    by None false = tt
    by (Some kind) b = tt

module _ (turns : ℕ) (bank : Key → Option Answer) where
  entity-stays : (at : ℕ) (change : Fixed) (e : Entity) → (outcome (about_entity at change e) bank).step ≡ Stays
  entity-stays at change e = by (has_id e.kind)
    where
      one : (o : Option Identity) → (elim o as (λ _. Said) [ None ↦ refused_for [] | Some d ↦ said_at at change e.path d ]).step ≡ Stays
      one None = refl
      one (Some d) = refl

      by : (b : Bool)
          → (outcome (cond b (and_then (known e.path) (λ d. Done (elim d as (λ _. Said) [ None ↦ refused_for [] | Some d ↦ said_at at change e.path d ]))) (Done (refused_for (fault_at at NoRepositoryId ∷ [])))) bank).step ≡ Stays
      by true =
          ap (λ (s : Said). s.step) (outcome-and_then (known e.path) (λ d. Done (elim d as (λ _. Said) [ None ↦ refused_for [] | Some d ↦ said_at at change e.path d ])) bank)
          ∙ one (outcome (known e.path) bank)
      by false = refl

  about-stays : (scopes : List Scope) (name : ScopedName) (change : Fixed) → (outcome (about 2 turns scopes name change) bank).step ≡ Stays
  about-stays scopes name change =
      let query : Lookup (Result Found NameFault) = denoted turns scopes name in
      let next : Result Found NameFault → Lookup Said = λ r. by_result r (λ found. about_entity (last_at 2 name) change found.entity) (λ fault. Done (refused_for (unnamed_faults 2 name fault))) in
      ap (λ (s : Said). s.step) (outcome-and_then query next bank) ∙ by (outcome query bank)
    where
      by : (r : Result Found NameFault) → (outcome (by_result r (λ found. about_entity (last_at 2 name) change found.entity) (λ fault. Done (refused_for (unnamed_faults 2 name fault)))) bank).step ≡ Stays
      by (Ok found) = entity-stays (last_at 2 name) change found.entity
      by (Err fault) = refl

  said-named : (scopes : List Scope) (p : Pragma) → StepNamed (outcome (said turns scopes p) bank).step
  said-named scopes (pragma.Prefix text) = tt
  said-named scopes (pragma.Version name major minor) = subst StepNamed (sym (about-stays scopes name (Version major minor))) tt
  said-named scopes (pragma.Id name text) =
      subst StepNamed
      (sym (ap (λ (s : Said). s.step) (outcome-and_then (about 2 turns scopes name (Id text)) (λ s. Done (with_faults (text_faults (last_at 2 name + 1) text) s)) bank) ∙ about-stays scopes name (Id text))) tt

  pub unit-named : (text : UnitText) → StepNamed (outcome (verdict turns text) bank).writes.step
  unit-named (unit.Tokens tokens) = by (outcome (verdict turns (unit.Tokens tokens)) bank).fault refl
    where
      by : (o : Option Fault) → (outcome (verdict turns (unit.Tokens tokens)) bank).fault ≡ o → StepNamed (outcome (verdict turns (unit.Tokens tokens)) bank).writes.step
      by (Some f) is = subst (λ (v : Verdict). StepNamed v.writes.step) (sym (faulty-is turns bank tokens f is)) (faulty-named tokens)
      by None is =
          let s = sound-is turns bank tokens is in
          subst (λ (v : Verdict). StepNamed v.writes.step) (sym s.is) (tree-named tokens s.tree (path_around (scopes_in (bank Cursor))) s.spelled)
  unit-named (unit.Pragma tokens inside) = by (outcome (verdict turns (unit.Pragma tokens inside)) bank).fault refl
    where
      by : (o : Option Fault) → (outcome (verdict turns (unit.Pragma tokens inside)) bank).fault ≡ o → StepNamed (outcome (verdict turns (unit.Pragma tokens inside)) bank).writes.step
      by (Some f) is = subst (λ (v : Verdict). StepNamed v.writes.step) (sym (faulty-pragma turns tokens inside bank f is)) tt
      by None is =
          let s = spoken-pragma turns tokens inside bank is in
          subst (λ (v : Verdict). StepNamed v.writes.step) (sym s.is) (said-named (scopes_in (bank Cursor)) s.pragma)

-- ---- nameless scopes

-- none that is still to be counted was open
abbrev IsCounted : World → Type 0
IsCounted w = (n : ℕ) (scope : Place) → count_in (w.answers Nameless) ≤ n → n < 2 ^ 64 → count_in (w.answers (Opened (nameless n ∷ scope))) ≡ 0

pub over_nameless : (additions : List Addition) (before : Option Answer) → over additions Nameless before ≡ before
over_nameless [] before = refl
over_nameless (Declares e ∷ additions) before = over_nameless additions before
over_nameless (Uses n path body ∷ additions) before = over_nameless additions before
over_nameless (UsesFurther n path further ∷ additions) before = over_nameless additions before
over_nameless (Appears path prefix ∷ additions) before = over_nameless additions before
over_nameless (Identifies path identity ∷ additions) before = over_nameless additions before
over_nameless (TypePrefixes path text ∷ additions) before = over_nameless additions before

over_opened : (additions : List Addition) (p : Place) (before : Option Answer) → over additions (Opened p) before ≡ before
over_opened [] p before = refl
over_opened (Declares e ∷ additions) p before = over_opened additions p before
over_opened (Uses n path body ∷ additions) p before = over_opened additions p before
over_opened (UsesFurther n path further ∷ additions) p before = over_opened additions p before
over_opened (Appears path prefix ∷ additions) p before = over_opened additions p before
over_opened (Identifies path identity ∷ additions) p before = over_opened additions p before
over_opened (TypePrefixes path text ∷ additions) p before = over_opened additions p before

-- answers that are the same where it is told
counted-same : (w v : World) → v.answers Nameless ≡ w.answers Nameless → ((p : Place) → v.answers (Opened p) ≡ w.answers (Opened p)) → IsCounted w → IsCounted v
counted-same w v count opened counted n scope least small =
    ap count_in (opened (nameless n ∷ scope)) ∙ counted n scope (subst (λ o. count_in o ≤ n) count least) small

counted-added : (w : World) (additions : List Addition) → IsCounted w → IsCounted (with_additions additions w)
counted-added w additions counted =
    counted-same w (with_additions additions w) (over_nameless (unstopped w.answers additions) (w.answers Nameless)) (λ p. over_opened (unstopped w.answers additions) p (w.answers (Opened p))) counted

counted-closing : (w : World) (scopes : List Scope) → IsCounted w → IsCounted (after_closing w scopes)
counted-closing w [] counted = counted
counted-closing w (s ∷ []) counted = counted
counted-closing w (s ∷ t ∷ outer) counted =
    counted-same w (after_closing w (s ∷ t ∷ outer)) (over_nameless (closing w s) (w.answers Nameless)) (λ p. over_opened (closing w s) p (w.answers (Opened p))) counted

opened-named : (path q : Place) (o : Option Answer) (body n : ℕ) (scope : Place) → IsNamed path → q ≡ nameless n ∷ scope → count_in o ≡ 0 → (b : Bool) → path_eq q path ≡ b
    → count_in (cond b (Some (Count body)) o) ≡ 0
opened-named path q o body n scope named is none false same = none
opened-named path q o body n scope named is none true same =
    let both : nameless n ∷ scope ≡ path = sym is ∙ same_path q path same in
    let never : true ≡ false = subst IsNamed (sym both) named in cc

pub same-number : (m n : ℕ) (p q : Place) → m < 2 ^ 64 → n < 2 ^ 64 → nameless m ∷ p ≡ nameless n ∷ q → m ≡ n
same-number m n p q first second h = let digits : decimal m ≡ decimal n = cc in decimal_injective m n first second digits

opened-nameless : (c n : ℕ) (around scope : Place) (o : Option Answer) (body : ℕ) → c + 1 ≤ n → n < 2 ^ 64 → count_in o ≡ 0 → (b : Bool) → path_eq (nameless n ∷ scope) (nameless c ∷ around) ≡ b
    → count_in (cond b (Some (Count body)) o) ≡ 0
opened-nameless c n around scope o body least small none false same = none
opened-nameless c n around scope o body least small none true same =
    let one : n ≡ c = same-number n c scope around small (omega (arith, least, small)) (same_path (nameless n ∷ scope) (nameless c ∷ around) same) in absurd (omega (arith, least, one))

counted-step : (w : World) (step : Step) → StepNamed step → IsCounted w → IsCounted (after_step w step)
counted-step w Stays named counted = counted
counted-step w (Opens path kind) named counted = λ n scope least small.
    opened-named path (nameless n ∷ scope) (w.answers (Opened (nameless n ∷ scope))) (next_body w path) n scope named refl (counted n scope least small) (path_eq (nameless n ∷ scope) path) refl
counted-step w (OpensNameless kind) named counted = λ n scope least small.
    let c : ℕ = count_in (w.answers Nameless) in
    let around : Place = path_around (scopes_in (w.answers Cursor)) in
    let more : c ≤ n = omega (arith, least) in
    opened-nameless c n around scope (w.answers (Opened (nameless n ∷ scope))) (next_body w (nameless c ∷ around)) least small (counted n scope more small) (path_eq (nameless n ∷ scope) (nameless c ∷ around)) refl
counted-step w Closes named counted = counted-closing w (scopes_in (w.answers Cursor)) counted
counted-step w (Prefixes text) named counted = counted
counted-step w Enters named counted = counted
counted-step w Leaves named counted = counted

counted-unit : (w : World) (f : UnitFacts) → StepNamed f.step → IsCounted w → IsCounted (after w f)
counted-unit w f named counted = counted-step (with_additions f.additions w) f.step named (counted-added w f.additions counted)

pub told-counted : (facts : List UnitFacts) → AreTold facts → IsCounted (world facts)
unfolding world
told-counted facts told = on [] facts refl first
  where
    first : IsCounted first_world
    first = λ n scope least small. refl

    one : (front : List UnitFacts) (f : UnitFacts) → IsTold front f → StepNamed f.step
    one front f (OfUnit text is) = subst (λ (g : UnitFacts). StepNamed g.step) (sym is) (unit-named (turns_for front) (answers front) text)
    one front f (Entered is) = subst (λ (g : UnitFacts). StepNamed g.step) (sym is) tt
    one front f (Left is) = subst (λ (g : UnitFacts). StepNamed g.step) (sym is) tt

    on : (front back : List UnitFacts) → facts ≡ front ++ back → IsCounted (world front) → IsCounted (world facts)
    on front [] is counted = subst (λ fs. IsCounted (world fs)) (sym (is ∙ append-nil front)) counted
    on front (f ∷ back) is counted =
        on (front ++ f ∷ []) back (is ∙ sym (append_assoc front (f ∷ []) back))
        (subst IsCounted (sym (world-append front (f ∷ []))) (counted-unit (world front) f (one front f (told front f back is)) counted))

-- ---- names

-- what is declared stands at its own key
pub settled-own : (w : World) → IsSettled w → (n : List ℕ) (path : Place) (e : Entity) → entity_in (w.answers (Declared n path)) ≡ Some e → entity_key e.path ≡ Declared n path
settled-own w settled n path e stands =
    let named = settled.named n path e stands in
    λ i. Declared (sym named.1 i) (sym named.2 i)

-- and no entity has the path of a nameless scope
pub settled-nameless : (w : World) → IsSettled w → (name : List ℕ) (scope : Place) → entity_in (w.answers (entity_key ((63 ∷ name) ∷ scope))) ≡ None
settled-nameless w settled name scope = by (entity_in (w.answers (entity_key ((63 ∷ name) ∷ scope)))) refl
  where
    path : Place
    path = (63 ∷ name) ∷ scope

    by : (o : Option Entity) → entity_in (w.answers (entity_key ((63 ∷ name) ∷ scope))) ≡ o → o ≡ None
    by None is = refl
    by (Some e) is =
        let named = settled.named (folded (63 ∷ name)) scope e is in
        absurd (nameless-folded ((63 ∷ name) ∷ scope) e.path refl named.0 named.1)
