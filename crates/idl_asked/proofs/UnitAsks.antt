-- What a unit asks is what the table tells.
use Rattle.std.proofs.Common.{◌≡◌, ◌⊎◌, ◌∙◌, ℕ, ◌+◌, ◌≤◌, Bool, true, false, cond, List, [], ◌∷◌, ◌++◌, Option, Some, None, Result, Ok, Err, refl, sym, ap, subst, arith, inl, inr}
use Rattle.std.specs.Prelude.{◌↔◌, Contains, fold}
use Rattle.idl_asked.proofs.FactLaws.{among}
use Rattle.idl_asked.proofs.NameLaws.{asks-end}
use Rattle.idl_asked.proofs.NamedLaws.{then-asks}
use Rattle.idl_asked.proofs.SectionAsks.{tree-table}
use Rattle.idl_asked.proofs.SiteAsks.{about-asks, both-by}
use Rattle.idl_asked.proofs.WalkAsks.{sites-apart}
use Rattle.idl_asked.specs.Units.{AsksAbout, AsksPragma, AsksSites, AsksStep, AsksUnit, AsksUsed}
use Rattle.idl_check_laws.proofs.IdlCheck.Visits.VerdictLaws.{spelled-tree, tree-spelled}
use Rattle.idl_check_laws.specs.idl_check.declared.walk.verdict.Verdict.{Verdict}
use Rattle.idl_check_laws.specs.idl_check.ids.About.{Said, about, about_entity, refused_for, unnamed_faults, with_faults}
use Rattle.idl_check_laws.specs.idl_check.ids.Pragmas.{said_by, text_faults}
use Rattle.idl_check_laws.specs.idl_check.walk.Placing.{faulty_step, opened_kind, place_faults, step_of}
use Rattle.idl_check_laws.specs.idl_check.walk.Verdict.{asking, by_names, by_tree, faulty, first_faults, judged, placed_walk, pragma_judged, pragma_verdict, refused, sound, tree_by, tree_of, verdict}
use Rattle.idl_check_laws.specs.idl_check.walk.Walk.{Walk, first_walk, walk}
use Rattle.idl_check_laws.specs.idl_parse.Parse.{pragma_faults}
use Rattle.idl_entity.specs.declared.identity.Fixed.{Fixed}
use Rattle.idl_entity.specs.declared.identity.Fixed.TheVariants.{Id, Version}
use Rattle.idl_entity.specs.idl_tree.declared.name.ScopedName.{ScopedName}
use Rattle.idl_env.proofs.Membership.{IsIn, IsIn-left, IsIn-right, IsIn-split}
use Rattle.idl_env.specs.Facts.{UnitFacts, answers, path_around, scopes_in}
use Rattle.idl_env.specs.Turns.{HasTurnsFor, turns_for}
use Rattle.idl_env.specs.declared.additions.addition.Step.{Step}
use Rattle.idl_env.specs.declared.additions.addition.Step.TheVariants.{Closes, OpensNameless, Stays}
use Rattle.idl_env.specs.declared.answering.answer.Answer.{Answer}
use Rattle.idl_env.specs.declared.answering.answer.Scope.{Scope}
use Rattle.idl_env.specs.declared.keys.key.Key.{Key}
use Rattle.idl_env.specs.declared.keys.key.Key.TheVariants.{Cursor, Nameless}
use Rattle.idl_entity.specs.declared.kind.Kind.{Kind}
use Rattle.idl_fault.specs.declared.code.Code.TheVariants.{NoTree}
use Rattle.idl_lex.specs.tokens.Tokens.{Token}
use Rattle.idl_memo.proofs.QueryLaws.{asked-and_then, outcome-and_then}
use Rattle.idl_memo.specs.Query.{Ask, Done, and_then, asked, outcome}
use Rattle.idl_parts.specs.Item.{items}
use Rattle.idl_parts.specs.UnitParts.{unit_parts}
use Rattle.idl_parts.specs.declared.part.Use.TheVariants.{AsIdentified}
use Rattle.idl_scope.specs.Lookup.{Lookup, by_result, denoted}
use Rattle.idl_scope.specs.declared.fault.NameFault.{NameFault}
use Rattle.idl_scope.specs.declared.found.Found.{Found}
use Rattle.idl_tree.specs.Lexeme.{lexemes}
use Rattle.idl_tree.specs.NameParts.{last_at}
use Rattle.idl_tree.specs.Pragma.{pragma_of}
use Rattle.idl_tree.specs.Unit.{spell}
use Rattle.idl_tree.specs.declared.pragma.Pragma.{Pragma}
use Rattle.idl_tree.specs.declared.pragma.Pragma.TheVariants as pragma
use Rattle.idl_tree.specs.declared.unit.Tree.{Tree}
use Rattle.idl_tree.specs.declared.unit.Tree.TheVariants as tree
use Rattle.idl_unit.specs.Ending.{rule_of}
use Rattle.idl_unit.specs.Faults.{least_fault, lesser_fault}
use Rattle.idl_unit.specs.Scoping.{is_closing_by}
use Rattle.idl_unit.specs.TokenRules.{fault_at}
use Rattle.idl_unit.specs.declared.fault.Fault.{Fault}
use Rattle.idl_unit.specs.declared.unit.UnitText.{UnitText}
use Rattle.idl_unit.specs.declared.unit.UnitText.TheVariants as unit

-- a query of a verdict asks what this opens
abbrev Opening : (Key → Option Answer) → Lookup Verdict → Key → Type 0
Opening bank q k = IsIn k (asked q bank) ↔ AsksStep (outcome q bank).writes.step k

module _ (bank : Key → Option Answer) (tokens : List Token) (k : Key) where
  -- ---- a refused unit

  abbrev step_by : Option Kind → Bool → Step
  step_by o b = elim o as (λ _. Step) [ None ↦ cond b Closes Stays | Some kind ↦ OpensNameless kind ]

  abbrev refused_by : Fault → Option Kind → Step → Lookup Verdict
  refused_by fault o step = elim o as (λ _. Lookup Verdict) [ None ↦ Done (faulty fault step) | Some kind ↦ Ask Nameless (λ count. Done (faulty fault step)) ]

  refused-opens : (fault : Fault) → Opening bank (refused tokens fault) k
  refused-opens fault = by_kind (opened_kind tokens) (is_closing_by (rule_of tokens))
    where
      nameless : (Nameless ≡ k) ⊎ ⊥ → k ≡ Nameless
      nameless (inl same) = sym same
      nameless (inr f) = absurd f

      by_kind : (o : Option Kind) (b : Bool) → Opening bank (refused_by fault o (step_by o b)) k
      by_kind None true = (λ i. i, λ a. a)
      by_kind None false = (λ i. i, λ a. a)
      by_kind (Some kind) b = (λ i. nameless i, λ a. inl (sym a))

  refused-fault : (fault : Fault) → (outcome (refused tokens fault) bank).fault ≡ Some fault
  refused-fault fault = by_kind (opened_kind tokens) (faulty_step tokens)
    where
      by_kind : (o : Option Kind) (step : Step) → (outcome (refused_by fault o step) bank).fault ≡ Some fault
      by_kind None step = refl
      by_kind (Some kind) step = refl

  -- ---- a unit with a tree, behind its walk

  module _ (scopes : List Scope) where
    abbrev asking_by : Tree → Walk → Lookup Verdict
    asking_by t w = asking (step_of t (path_around scopes)) (sound tokens scopes t w)

    one_key : {j : Key} → (j ≡ k) ⊎ ⊥ → k ≡ j
    one_key (inl same) = sym same
    one_key (inr f) = absurd f

    sound-opens : (t : Tree) (w : Walk) → Opening bank (asking_by t w) k
    sound-opens tree.Closing w = (λ i. i, λ a. a)
    sound-opens (tree.Module name) w = (λ i. one_key i, λ a. inl (sym a))
    sound-opens (tree.Interface i) w = (λ i. one_key i, λ a. inl (sym a))
    sound-opens other w = (λ i. i, λ a. a)

    sound-fault : (t : Tree) (w : Walk) → (outcome (asking_by t w) bank).fault ≡ None
    sound-fault tree.Closing w = refl
    sound-fault (tree.Module name) w = refl
    sound-fault (tree.Interface i) w = refl
    sound-fault other w = refl

    abbrev judged_by : Tree → Walk → Option Fault → Lookup Verdict
    judged_by t w o = elim o as (λ _. Lookup Verdict) [ Some fault ↦ refused tokens fault | None ↦ asking (step_of t (path_around scopes)) (sound tokens scopes t w) ]

    judged-opens : (t : Tree) (w : Walk) → Opening bank (judged tokens scopes t w) k
    judged-opens t w = by_fault w.fault
      where
        by_fault : (o : Option Fault) → Opening bank (judged_by t w o) k
        by_fault (Some f) = refused-opens f
        by_fault None = sound-opens t w

    judged-fault : (t : Tree) (w : Walk) → (outcome (judged tokens scopes t w) bank).fault ≡ w.fault
    judged-fault t w = by_fault w.fault
      where
        by_fault : (o : Option Fault) → (outcome (judged_by t w o) bank).fault ≡ o
        by_fault (Some f) = refused-fault f
        by_fault None = sound-fault t w

module _ (facts : List UnitFacts) (turns : ℕ) (enough_for : turns_for facts ≤ turns) (k : Key) where
  abbrev bank : Key → Option Answer
  bank = answers facts

  -- ---- units of tokens

  module _ (tokens : List Token) (scopes : List Scope) where
    -- the sites of a tree that the tokens spell, and no rule of tokens refuses them
    abbrev Sited : Option Fault → Type 0
    Sited fault = (first_faults tokens scopes ≡ []) × (t : Tree) × (lexemes tokens ≡ spell t) × AsksSites turns facts fault (items (unit_parts t)) (first_walk scopes) k

    -- what a query of a verdict asks
    abbrev Told : Lookup Verdict → Type 0
    Told q = IsIn k (asked q bank) ↔ (AsksStep (outcome q bank).writes.step k ⊎ Sited (outcome q bank).fault)

    -- a unit without tree
    refused-told : (fault : Fault) → (((t : Tree) → first_faults tokens scopes ≡ [] → lexemes tokens ≡ spell t → ⊥)) → Told (refused tokens fault)
    refused-told fault clash = (λ i. inl ((refused-opens bank tokens k fault).0 i), back)
      where
        back : AsksStep (outcome (refused tokens fault) bank).writes.step k ⊎ Sited (outcome (refused tokens fault) bank).fault → IsIn k (asked (refused tokens fault) bank)
        back (inl a) = (refused-opens bank tokens k fault).1 a
        back (inr a) = absurd (clash a.1 a.0 a.2)

    ok_tree : (t u : Tree) → ◌≡◌ {A = Result Tree ℕ} (Ok t) (Ok u) → t ≡ u
    ok_tree t u h = cc

    names-told : (t : Tree) → tree_of tokens ≡ Ok t → first_faults tokens scopes ≡ [] → Told (by_names turns tokens scopes t)
    names-told t is none = (λ i. split (subst (IsIn k) asks i), λ a. subst (IsIn k) (sym asks) (back a))
      where
        asks : asked (by_names turns tokens scopes t) bank
            ≡ asked (walk turns (items (unit_parts t)) (placed_walk scopes t)) bank ++ asked (judged tokens scopes t (outcome (walk turns (items (unit_parts t)) (placed_walk scopes t)) bank)) bank
        asks = asked-and_then (walk turns (items (unit_parts t)) (placed_walk scopes t)) (λ w. judged tokens scopes t w) bank

        comes : outcome (by_names turns tokens scopes t) bank ≡ outcome (judged tokens scopes t (outcome (walk turns (items (unit_parts t)) (placed_walk scopes t)) bank)) bank
        comes = outcome-and_then (walk turns (items (unit_parts t)) (placed_walk scopes t)) (λ w. judged tokens scopes t w) bank

        fault_is : (outcome (walk turns (items (unit_parts t)) (placed_walk scopes t)) bank).fault ≡ (outcome (by_names turns tokens scopes t) bank).fault
        fault_is = sym (ap (λ (v : Verdict). v.fault) comes ∙ judged-fault bank tokens k scopes t (outcome (walk turns (items (unit_parts t)) (placed_walk scopes t)) bank))

        sited : IsIn k (asked (walk turns (items (unit_parts t)) (placed_walk scopes t)) bank) ↔ AsksSites turns facts (outcome (by_names turns tokens scopes t) bank).fault (items (unit_parts t)) (first_walk scopes) k
        sited =
            let table = tree-table facts turns enough_for scopes t k in
            let apart = sites-apart facts turns enough_for (outcome (by_names turns tokens scopes t) bank).fault (least_fault (place_faults t scopes)) (items (unit_parts t)) (first_walk scopes) k in (
              λ i. apart.0 (subst (λ o. AsksSites turns facts o (items (unit_parts t)) (placed_walk scopes t) k) fault_is (table.0 i)),
              λ a. table.1 (subst (λ o. AsksSites turns facts o (items (unit_parts t)) (placed_walk scopes t) k) (sym fault_is) (apart.1 a)),
            )

        opens : IsIn k (asked (judged tokens scopes t (outcome (walk turns (items (unit_parts t)) (placed_walk scopes t)) bank)) bank) ↔ AsksStep (outcome (by_names turns tokens scopes t) bank).writes.step k
        opens =
            let all = judged-opens bank tokens k scopes t (outcome (walk turns (items (unit_parts t)) (placed_walk scopes t)) bank) in
            (λ i. subst (λ (v : Verdict). AsksStep v.writes.step k) (sym comes) (all.0 i), λ a. all.1 (subst (λ (v : Verdict). AsksStep v.writes.step k) comes a))

        split : IsIn k (asked (walk turns (items (unit_parts t)) (placed_walk scopes t)) bank ++ asked (judged tokens scopes t (outcome (walk turns (items (unit_parts t)) (placed_walk scopes t)) bank)) bank)
            → AsksStep (outcome (by_names turns tokens scopes t) bank).writes.step k ⊎ Sited (outcome (by_names turns tokens scopes t) bank).fault
        split i = elim (IsIn-split k (asked (walk turns (items (unit_parts t)) (placed_walk scopes t)) bank) (asked (judged tokens scopes t (outcome (walk turns (items (unit_parts t)) (placed_walk scopes t)) bank)) bank) i) [
          | inl j ↦ inr (none, t, tree-spelled tokens t is, sited.0 j)
          | inr j ↦ inl (opens.0 j)
        ]

        same_tree : (u : Tree) → lexemes tokens ≡ spell u → u ≡ t
        same_tree u spelled = ok_tree u t (sym (spelled-tree tokens u spelled) ∙ is)

        back : AsksStep (outcome (by_names turns tokens scopes t) bank).writes.step k ⊎ Sited (outcome (by_names turns tokens scopes t) bank).fault
            → IsIn k (asked (walk turns (items (unit_parts t)) (placed_walk scopes t)) bank ++ asked (judged tokens scopes t (outcome (walk turns (items (unit_parts t)) (placed_walk scopes t)) bank)) bank)
        back (inl a) =
            IsIn-right k (asked (walk turns (items (unit_parts t)) (placed_walk scopes t)) bank) (asked (judged tokens scopes t (outcome (walk turns (items (unit_parts t)) (placed_walk scopes t)) bank)) bank) (opens.1 a)
        back (inr a) =
            IsIn-left k (asked (walk turns (items (unit_parts t)) (placed_walk scopes t)) bank) (asked (judged tokens scopes t (outcome (walk turns (items (unit_parts t)) (placed_walk scopes t)) bank)) bank)
            (sited.1 (subst (λ u. AsksSites turns facts (outcome (by_names turns tokens scopes t) bank).fault (items (unit_parts u)) (first_walk scopes) k) (same_tree a.1 a.2) a.3))

    -- by the tree, and by the faults of the first step
    tree-told : first_faults tokens scopes ≡ [] → (r : Result Tree ℕ) → tree_of tokens ≡ r → Told (by_tree turns tokens scopes (tree_by None r))
    tree-told none (Ok t) is = names-told t is none
    tree-told none (Err place) is =
        refused-told (fault_at place NoTree) (λ t clear spelled. let no : ◌≡◌ {A = Result Tree ℕ} (Ok t) (Err place) = sym (spelled-tree tokens t spelled) ∙ is in cc)

    first-told : (fs : List Fault) → first_faults tokens scopes ≡ fs → Told (by_tree turns tokens scopes (tree_by (least_fault fs) (tree_of tokens)))
    first-told [] is = tree-told is (tree_of tokens) refl
    first-told (f ∷ fs) is = refused-told (fold lesser_fault f fs) (λ t clear spelled. let no : f ∷ fs ≡ [] = sym is ∙ clear in cc)

  -- ---- pragmas

  -- what is said of the id of a name
  abbrev about_by : ℕ → ScopedName → Fixed → Result Found NameFault → Lookup Said
  about_by first name change r = by_result r (λ found. about_entity (last_at first name) change found.entity) (λ fault. Done (refused_for (unnamed_faults first name fault)))

  bare : HasTurnsFor facts [] turns
  bare = omega (arith, enough_for)

  about-told : (first : ℕ) (scopes : List Scope) (name : ScopedName) (change : Fixed) → IsIn k (asked (about first turns scopes name change) bank) ↔ AsksAbout bank scopes name k
  about-told first scopes name change =
      then-asks facts [] turns bare scopes name (denoted turns scopes name) refl refl (λ e j. AsksUsed bank AsIdentified e j)
      (λ found. about_entity (last_at first name) change found.entity) (λ fault. Done (refused_for (unnamed_faults first name fault)))
      (λ found j. about-asks bank found.entity j (last_at first name) change) (λ fault j i. i) k

  said-told : (scopes : List Scope) (p : Pragma) → IsIn k (asked (said_by turns scopes (Some p)) bank) ↔ AsksPragma bank scopes p k
  said-told scopes (pragma.Prefix text) = (λ i. i, λ a. a)
  said-told scopes (pragma.Id name text) = both-by k (asks-end (about 2 turns scopes name (Id text)) (λ s. with_faults (text_faults (last_at 2 name + 1) text) s) bank) (about-told 2 scopes name (Id text))
  said-told scopes (pragma.Version name major minor) = about-told 2 scopes name (Version major minor)

  module _ (tokens : List Token) (inside : Bool) (scopes : List Scope) where
    abbrev Spoken : Type 0
    Spoken = (pragma_faults tokens inside ≡ []) × (p : Pragma) × (pragma_of tokens ≡ Some p) × AsksPragma bank scopes p k

    abbrev spoken_by : Option Fault → Lookup Verdict
    spoken_by o = elim o as (λ _. Lookup Verdict) [ Some fault ↦ Done (faulty fault Stays) | None ↦ and_then (said_by turns scopes (pragma_of tokens)) (λ s. Done (pragma_verdict s)) ]

    some_pragma : (p q : Pragma) → Some p ≡ Some q → p ≡ q
    some_pragma p q h = cc

    said-spoken : pragma_faults tokens inside ≡ [] → (o : Option Pragma) → pragma_of tokens ≡ o → IsIn k (asked (said_by turns scopes o) bank) ↔ Spoken
    said-spoken none None is = (λ i. absurd i, λ a. absurd (let no : None ≡ Some a.1 = sym is ∙ a.2 in cc))
    said-spoken none (Some p) is = (
      λ i. (none, p, is, (said-told scopes p).0 i),
      λ a. (said-told scopes p).1 (subst (λ q. AsksPragma bank scopes q k) (some_pragma a.1 p (sym a.2 ∙ is)) a.3),
    )

    by-faults : (fs : List Fault) → pragma_faults tokens inside ≡ fs → IsIn k (asked (spoken_by (least_fault fs)) bank) ↔ Spoken
    by-faults [] is = both-by k (asks-end (said_by turns scopes (pragma_of tokens)) (λ s. pragma_verdict s) bank) (said-spoken is (pragma_of tokens) refl)
    by-faults (f ∷ fs) is = (λ i. absurd i, λ a. absurd (let no : f ∷ fs ≡ [] = sym is ∙ a.0 in cc))

    pragma-told : IsIn k (asked (pragma_judged turns tokens inside scopes) bank) ↔ Spoken
    pragma-told = by-faults (pragma_faults tokens inside) refl

  -- ---- any unit

  -- what is asked behind the open scopes
  with-cursor : {Opens Sites : Type 0} (ks : List Key) → IsIn k ks ↔ (Opens ⊎ Sites) → IsIn k (Cursor ∷ ks) ↔ (((k ≡ Cursor) ⊎ Opens) ⊎ Sites)
  with-cursor {Opens = Opens} {Sites = Sites} ks told = (there, back)
    where
      by_kind : Opens ⊎ Sites → ((k ≡ Cursor) ⊎ Opens) ⊎ Sites
      by_kind (inl a) = inl (inr a)
      by_kind (inr a) = inr a

      there : IsIn k (Cursor ∷ ks) → ((k ≡ Cursor) ⊎ Opens) ⊎ Sites
      there (inl same) = inl (inl (sym same))
      there (inr i) = by_kind (told.0 i)

      back : ((k ≡ Cursor) ⊎ Opens) ⊎ Sites → IsIn k (Cursor ∷ ks)
      back (inl (inl same)) = inl (sym same)
      back (inl (inr a)) = inr (told.1 (inl a))
      back (inr a) = inr (told.1 (inr a))

  with-scopes : {Asks : Type 0} (ks : List Key) → IsIn k ks ↔ Asks → IsIn k (Cursor ∷ ks) ↔ ((k ≡ Cursor) ⊎ Asks)
  with-scopes {Asks = Asks} ks told = (there, back)
    where
      there : IsIn k (Cursor ∷ ks) → (k ≡ Cursor) ⊎ Asks
      there (inl same) = inl (sym same)
      there (inr i) = inr (told.0 i)

      back : (k ≡ Cursor) ⊎ Asks → IsIn k (Cursor ∷ ks)
      back (inl same) = inl (sym same)
      back (inr a) = inr (told.1 a)

  pub unit-in : (text : UnitText) → IsIn k (asked (verdict turns text) bank) ↔ AsksUnit turns facts text (outcome (verdict turns text) bank) k
  unfolding verdict
  unit-in (unit.Tokens tokens) =
      let scopes = scopes_in (bank Cursor) in
      with-cursor (asked (by_tree turns tokens scopes (tree_by (least_fault (first_faults tokens scopes)) (tree_of tokens))) bank) (first-told tokens scopes (first_faults tokens scopes) refl)
  unit-in (unit.Pragma tokens inside) =
      let scopes = scopes_in (bank Cursor) in
      with-scopes (asked (pragma_judged turns tokens inside scopes) bank) (pragma-told tokens inside scopes)

pub unit-asked : (facts : List UnitFacts) (turns : ℕ) (text : UnitText) (k : Key) → turns_for facts ≤ turns
    → Contains (asked (verdict turns text) (answers facts)) k ↔ AsksUnit turns facts text (outcome (verdict turns text) (answers facts)) k
unit-asked facts turns text k enough_for = among (asked (verdict turns text) (answers facts)) k (unit-in facts turns enough_for k text)
