-- Where a scope closes, or a nameless one opens, a unit adds nothing, and names are as they have to be.
use Rattle.std.proofs.Common.{◌≡◌, ◌∙◌, ap, ℕ, ◌+◌, Bool, true, false, cond, List, [], ◌∷◌, Option, Some, None, Result, Ok, Err, refl, sym, subst}
use Rattle.idl_base.specs.Exact.{same_number}
use Rattle.idl_check_laws.proofs.IdlCheck.Visits.VerdictLaws.{faulty-is, sound-is}
use Rattle.idl_check_laws.specs.idl_check.declared.walk.verdict.Verdict.{Verdict}
use Rattle.idl_check_laws.specs.idl_check.walk.Judging.{walked, without_name}
use Rattle.idl_check_laws.specs.idl_check.ids.About.{Said, about, about_entity, refused_for, said_at, unnamed_faults, with_faults}
use Rattle.idl_check_laws.specs.idl_check.ids.Pragmas.{said_by, text_faults}
use Rattle.idl_check_laws.specs.idl_check.tables.Rules.{has_id}
use Rattle.idl_check_laws.specs.idl_check.walk.Placing.{faulty_step, step_of}
use Rattle.idl_check_laws.specs.idl_check.walk.Verdict.{faulty, pragma_judged, pragma_verdict, sound, verdict}
use Rattle.idl_check_laws.specs.idl_check.walk.Walk.{first_walk, visit}
use Rattle.idl_entity.specs.declared.entity.Entity.{Entity}
use Rattle.idl_env.specs.Facts.{UnitFacts, answers, count_in, entity_in, entity_key, nameless, path_around, scopes_in, with_additions, world}
use Rattle.idl_env.specs.declared.additions.addition.Addition.{Addition}
use Rattle.idl_env.specs.declared.additions.addition.Step.{Step}
use Rattle.idl_env.specs.declared.additions.addition.Step.TheVariants.{Stays, Opens, OpensNameless, Closes, Prefixes, Enters, Leaves}
use Rattle.idl_env.specs.declared.answering.answer.Answer.{Answer}
use Rattle.idl_env.specs.declared.answering.answer.Scope.{Scope}
use Rattle.idl_env.specs.declared.keys.key.Key.{Key}
use Rattle.idl_env.specs.declared.keys.key.Key.TheVariants.{Cursor, Declared, Nameless, Opened}
use Rattle.idl_block.specs.Blocks.{Text}
use Rattle.idl_root_blocks.specs.verdicts.Standing.{part_step}
use Rattle.idl_check_laws.proofs.Fits.ReachedLaws.{Place}
use Rattle.idl_check_laws.proofs.Fits.SettledLaws.{IsNamed, IsNameless}
use Rattle.idl_check_laws.proofs.NamingLaws.{StepNamed}
use Rattle.idl_block.specs.facts.Answered.{AreNamed, AreNamedAt, is_nameless}
use Rattle.idl_block.specs.facts.Beneath.{Depth, deepened}
use Rattle.idl_lex.specs.tokens.Tokens.{Token}
use Rattle.idl_memo.proofs.QueryLaws.{outcome-and_then}
use Rattle.idl_memo.specs.Query.{Done, and_then, outcome}
use Rattle.idl_parts.specs.Item.{items}
use Rattle.idl_parts.specs.UnitParts.{unit_parts}
use Rattle.idl_fault.specs.declared.code.Code.TheVariants.{NoRepositoryId}
use Rattle.idl_entity.specs.declared.identity.Fixed.{Fixed}
use Rattle.idl_entity.specs.declared.identity.Fixed.TheVariants.{Id, Version}
use Rattle.idl_entity.specs.declared.identity.Identity.{Identity}
use Rattle.idl_scope.specs.Known.{known}
use Rattle.idl_scope.specs.Lookup.{Lookup, by_result, denoted}
use Rattle.idl_scope.specs.declared.fault.NameFault.{NameFault}
use Rattle.idl_scope.specs.declared.found.Found.{Found}
use Rattle.idl_check_laws.specs.idl_parse.Parse.{pragma_faults}
use Rattle.idl_tree.specs.Lexeme.{lexemes}
use Rattle.idl_tree.specs.NameParts.{last_at}
use Rattle.idl_tree.specs.Unit.{spell}
use Rattle.idl_tree.specs.Pragma.{pragma_of}
use Rattle.idl_tree.specs.declared.name.ScopedName.{ScopedName}
use Rattle.idl_tree.specs.declared.pragma.Pragma.{Pragma}
use Rattle.idl_tree.specs.declared.pragma.Pragma.TheVariants as pragma
use Rattle.idl_unit.specs.Faults.{least_fault}
use Rattle.idl_unit.specs.TokenRules.{fault_at}
use Rattle.idl_tree.specs.declared.unit.Tree.{Tree}
use Rattle.idl_tree.specs.declared.unit.Tree.TheVariants as tree
use Rattle.idl_unit.specs.declared.fault.Fault.{Fault}
use Rattle.idl_unit.specs.declared.unit.UnitText.{UnitText}
use Rattle.idl_unit.specs.declared.unit.UnitText.TheVariants as unit

-- ---- names of scopes

pub nameless-path : (path : Place) → IsNameless path → is_nameless path ≡ true
nameless-path [] less = absurd less
nameless-path ([] ∷ scope) less = cc
nameless-path ((c ∷ name) ∷ scope) less = less

pub named-path : (path : Place) → IsNamed path → is_nameless path ≡ false
named-path [] named = refl
named-path ([] ∷ scope) named = refl
named-path ((c ∷ name) ∷ scope) named = named

-- ---- what closes or opens so adds nothing

abbrev AddsNothing : UnitFacts → Type 0
AddsNothing f = elim f.step [
  | OpensNameless kind ↦ f.additions ≡ []
  | Closes ↦ f.additions ≡ []
  | other ↦ Unit {0}
]

empty-nothing : (step : Step) → AddsNothing (record { additions = []; step = step })
empty-nothing Stays = tt
empty-nothing (Opens path kind) = tt
empty-nothing (OpensNameless kind) = refl
empty-nothing Closes = refl
empty-nothing (Prefixes text) = tt
empty-nothing Enters = tt
empty-nothing Leaves = tt

module _ (turns : ℕ) (bank : Key → Option Answer) where
  closing-nothing : (tokens : List Token) (scopes : List Scope) → (sound tokens scopes tree.Closing (walked turns bank (items (unit_parts tree.Closing)) (first_walk scopes))).writes.additions ≡ []
  unfolding unit_parts visit
  closing-nothing tokens scopes = refl

  tree-nothing : (tokens : List Token) (t : Tree) (scopes : List Scope) → AddsNothing (sound tokens scopes t (walked turns bank (items (unit_parts t)) (first_walk scopes))).writes
  unfolding unit_parts
  tree-nothing tokens tree.Closing scopes = closing-nothing tokens scopes
  tree-nothing tokens (tree.Module name) scopes = tt
  tree-nothing tokens (tree.Interface i) scopes = tt
  tree-nothing tokens (tree.Forward f) scopes = tt
  tree-nothing tokens (tree.Typedef t) scopes = tt
  tree-nothing tokens (tree.Construction c) scopes = tt
  tree-nothing tokens (tree.Native name) scopes = tt
  tree-nothing tokens (tree.Constant c) scopes = tt
  tree-nothing tokens (tree.Exception e) scopes = tt
  tree-nothing tokens (tree.ReadonlyAttribute a) scopes = tt
  tree-nothing tokens (tree.Attribute a) scopes = tt
  tree-nothing tokens (tree.Operation o) scopes = tt
  tree-nothing tokens (tree.Typeid t) scopes = tt
  tree-nothing tokens (tree.Typeprefix t) scopes = tt

  -- ---- pragmas

  abbrev pub IsCalm : Step → Type 0
  IsCalm Stays = Unit {0}
  IsCalm (Prefixes text) = Unit {0}
  IsCalm other = ⊥

  calm-nothing : (additions : List Addition) (step : Step) → IsCalm step → AddsNothing (record { additions = additions; step = step })
  calm-nothing additions Stays calm = tt
  calm-nothing additions (Prefixes text) calm = tt
  calm-nothing additions other calm = absurd calm

  entity-calm : (at : ℕ) (change : Fixed) (e : Entity) → IsCalm (outcome (about_entity at change e) bank).step
  entity-calm at change e = by (has_id e.kind)
    where
      one : (o : Option Identity) → IsCalm (elim o as (λ _. Said) [ None ↦ refused_for [] | Some d ↦ said_at at change e.path d ]).step
      one None = tt
      one (Some d) = tt

      by : (b : Bool)
          → IsCalm (outcome (cond b (and_then (known e.path) (λ d. Done (elim d as (λ _. Said) [ None ↦ refused_for [] | Some d ↦ said_at at change e.path d ]))) (Done (refused_for (fault_at at NoRepositoryId ∷ [])))) bank).step
      by true =
          subst (λ (s : Said). IsCalm s.step) (sym (outcome-and_then (known e.path) (λ d. Done (elim d as (λ _. Said) [ None ↦ refused_for [] | Some d ↦ said_at at change e.path d ])) bank))
          (one (outcome (known e.path) bank))
      by false = tt

  about-calm : (scopes : List Scope) (name : ScopedName) (change : Fixed) → IsCalm (outcome (about 2 turns scopes name change) bank).step
  about-calm scopes name change =
      let query : Lookup (Result Found NameFault) = denoted turns scopes name in
      let next : Result Found NameFault → Lookup Said = λ r. by_result r (λ found. about_entity (last_at 2 name) change found.entity) (λ fault. Done (refused_for (unnamed_faults 2 name fault))) in
      subst (λ (s : Said). IsCalm s.step) (sym (outcome-and_then query next bank)) (by (outcome query bank))
    where
      by : (r : Result Found NameFault) → IsCalm (outcome (by_result r (λ found. about_entity (last_at 2 name) change found.entity) (λ fault. Done (refused_for (unnamed_faults 2 name fault)))) bank).step
      by (Ok found) = entity-calm (last_at 2 name) change found.entity
      by (Err fault) = tt

  said-calm : (scopes : List Scope) (o : Option Pragma) → IsCalm (outcome (said_by turns scopes o) bank).step
  said-calm scopes None = tt
  said-calm scopes (Some (pragma.Prefix text)) = tt
  said-calm scopes (Some (pragma.Version name major minor)) = about-calm scopes name (Version major minor)
  said-calm scopes (Some (pragma.Id name text)) =
      subst (λ (s : Said). IsCalm s.step) (sym (outcome-and_then (about 2 turns scopes name (Id text)) (λ s. Done (with_faults (text_faults (last_at 2 name + 1) text) s)) bank)) (about-calm scopes name (Id text))

  said-nothing : (s : Said) → IsCalm s.step → AddsNothing (pragma_verdict s).writes
  said-nothing s calm = by (least_fault s.faults)
    where
      by : (o : Option Fault)
          → AddsNothing (elim o as (λ _. Verdict) [
            | Some fault ↦ faulty fault Stays
            | None ↦ record { fault = None; writes = record { additions = s.additions; step = s.step }; row = None }
          ]).writes
      by (Some fault) = tt
      by None = calm-nothing s.additions s.step calm

  judged-nothing : (tokens : List Token) (inside : Bool) (scopes : List Scope) → AddsNothing (outcome (pragma_judged turns tokens inside scopes) bank).writes
  judged-nothing tokens inside scopes = by (least_fault (pragma_faults tokens inside))
    where
      by : (o : Option Fault)
          → AddsNothing (outcome (elim o as (λ _. Lookup Verdict) [ Some fault ↦ Done (faulty fault Stays) | None ↦ and_then (said_by turns scopes (pragma_of tokens)) (λ s. Done (pragma_verdict s)) ]) bank).writes
      by (Some fault) = tt
      by None =
          let query : Lookup Said = said_by turns scopes (pragma_of tokens) in
          subst (λ (v : Verdict). AddsNothing v.writes) (sym (outcome-and_then query (λ s. Done (pragma_verdict s)) bank)) (said-nothing (outcome query bank) (said-calm scopes (pragma_of tokens)))

  verdict-calm : (s : Said) → IsCalm s.step → IsCalm (pragma_verdict s).writes.step
  verdict-calm s calm = by (least_fault s.faults)
    where
      by : (o : Option Fault)
          → IsCalm (elim o as (λ _. Verdict) [
            | Some fault ↦ faulty fault Stays
            | None ↦ record { fault = None; writes = record { additions = s.additions; step = s.step }; row = None }
          ]).writes.step
      by (Some fault) = tt
      by None = calm

  judged-calm : (tokens : List Token) (inside : Bool) (scopes : List Scope) → IsCalm (outcome (pragma_judged turns tokens inside scopes) bank).writes.step
  judged-calm tokens inside scopes = by (least_fault (pragma_faults tokens inside))
    where
      by : (o : Option Fault)
          → IsCalm (outcome (elim o as (λ _. Lookup Verdict) [ Some fault ↦ Done (faulty fault Stays) | None ↦ and_then (said_by turns scopes (pragma_of tokens)) (λ s. Done (pragma_verdict s)) ]) bank).writes.step
      by (Some fault) = tt
      by None =
          let query : Lookup Said = said_by turns scopes (pragma_of tokens) in
          subst (λ (v : Verdict). IsCalm v.writes.step) (sym (outcome-and_then query (λ s. Done (pragma_verdict s)) bank)) (verdict-calm (outcome query bank) (said-calm scopes (pragma_of tokens)))

  pub pragma-calm : (tokens : List Token) (inside : Bool) → IsCalm (outcome (verdict turns (unit.Pragma tokens inside)) bank).writes.step
  unfolding verdict
  pragma-calm tokens inside = judged-calm tokens inside (scopes_in (bank Cursor))

  pragma-nothing : (tokens : List Token) (inside : Bool) → AddsNothing (outcome (verdict turns (unit.Pragma tokens inside)) bank).writes
  unfolding verdict
  pragma-nothing tokens inside = judged-nothing tokens inside (scopes_in (bank Cursor))

  -- ---- units

  pub unit-nothing : (text : UnitText) → AddsNothing (outcome (verdict turns text) bank).writes
  unit-nothing (unit.Tokens tokens) = by (outcome (verdict turns (unit.Tokens tokens)) bank).fault refl
    where
      by : (o : Option Fault) → (outcome (verdict turns (unit.Tokens tokens)) bank).fault ≡ o → AddsNothing (outcome (verdict turns (unit.Tokens tokens)) bank).writes
      by (Some f) is = subst (λ (v : Verdict). AddsNothing v.writes) (sym (faulty-is turns bank tokens f is)) (empty-nothing (faulty_step tokens))
      by None is =
          let s = sound-is turns bank tokens is in
          subst (λ (v : Verdict). AddsNothing v.writes) (sym s.is) (tree-nothing tokens s.tree (scopes_in (bank Cursor)))
  unit-nothing (unit.Pragma tokens inside) = pragma-nothing tokens inside

-- ---- what a unit does to the open scopes

abbrev pub IsTextStep : Type 0
IsTextStep = (tokens : List Token) (t : Tree) (scope : List (List ℕ)) → lexemes tokens ≡ spell t → faulty_step tokens ≡ without_name (step_of t scope)

-- a name makes no difference
deepened-without : (d : Depth) (step : Step) → deepened d (without_name step) ≡ deepened d step
deepened-without d Stays = refl
deepened-without d (Opens path kind) = refl
deepened-without d (OpensNameless kind) = refl
deepened-without d Closes = refl
deepened-without d (Prefixes text) = refl
deepened-without d Enters = refl
deepened-without d Leaves = refl

module _ (turns : ℕ) (bank : Key → Option Answer) (text_step : IsTextStep) (d : Depth) where
  calm-deepened : (step : Step) → IsCalm turns bank step → deepened d step ≡ Some d
  calm-deepened Stays calm = refl
  calm-deepened (Prefixes text) calm = refl
  calm-deepened other calm = absurd calm

  pub text-deepened : (text : UnitText) → deepened d (outcome (verdict turns text) bank).writes.step ≡ deepened d (part_step (Text text))
  text-deepened (unit.Tokens tokens) = by (outcome (verdict turns (unit.Tokens tokens)) bank).fault refl
    where
      by : (o : Option Fault) → (outcome (verdict turns (unit.Tokens tokens)) bank).fault ≡ o → deepened d (outcome (verdict turns (unit.Tokens tokens)) bank).writes.step ≡ deepened d (faulty_step tokens)
      by (Some f) is = ap (λ (v : Verdict). deepened d v.writes.step) (faulty-is turns bank tokens f is)
      by None is =
          let s = sound-is turns bank tokens is in
          let scope : List (List ℕ) = path_around (scopes_in (bank Cursor)) in
          ap (λ (v : Verdict). deepened d v.writes.step) s.is
          ∙ sym (ap (deepened d) (text_step tokens s.tree scope s.spelled) ∙ deepened-without d (step_of s.tree scope))
  text-deepened (unit.Pragma tokens inside) = calm-deepened (outcome (verdict turns (unit.Pragma tokens inside)) bank).writes.step (pragma-calm turns bank tokens inside)

-- ---- names

-- over facts that are told, names are as they have to be where a unit closes a scope or opens a nameless one
module _ (facts : List UnitFacts) (own : (n : List ℕ) (path : List (List ℕ)) (e : Entity) → entity_in (answers facts (Declared n path)) ≡ Some e → entity_key e.path ≡ Declared n path)
    (none : (name : List ℕ) (scope : List (List ℕ)) → entity_in (answers facts (entity_key ((63 ∷ name) ∷ scope))) ≡ None)
    (next : (scope : List (List ℕ)) → count_in (answers facts (Opened (nameless (count_in (answers facts Nameless)) ∷ scope))) ≡ 0)
    (blank : (n : List ℕ) (scope : List (List ℕ)) → entity_in (answers facts (Declared n (nameless (count_in (answers facts Nameless)) ∷ scope))) ≡ None) where
  nameless-none : (path : List (List ℕ)) → is_nameless path ≡ true → entity_in (answers facts (entity_key path)) ≡ None
  nameless-none [] less = cc
  nameless-none ([] ∷ scope) less = cc
  nameless-none ((c ∷ name) ∷ scope) less =
      subst (λ b. entity_in (answers facts (entity_key ((b ∷ name) ∷ scope))) ≡ None) (sym (same_number c 63 less)) (none name scope)

  are-named : AreNamed (answers facts)
  are-named = record { own = own; declared = nameless-none; opened = next; blank = blank }

  -- the same with no additions
  named-nothing : (additions : List Addition) → additions ≡ [] → AreNamed (with_additions additions (world facts)).answers
  named-nothing additions is = subst (λ more. AreNamed (with_additions more (world facts)).answers) (sym is) are-named

  pub named-unit : (f : UnitFacts) → AddsNothing f → StepNamed f.step → AreNamedAt (with_additions f.additions (world facts)).answers f.step
  named-unit f nothing named = by f.step nothing named
    where
      by : (step : Step) → AddsNothing (record f { step = step }) → StepNamed step → AreNamedAt (with_additions f.additions (world facts)).answers step
      by (OpensNameless kind) is named = named-nothing f.additions is
      by Closes is named = named-nothing f.additions is
      by Stays is named = tt
      by (Opens path kind) is named = named-path path named
      by (Prefixes text) is named = tt
      by Enters is named = tt
      by Leaves is named = tt
