-- The scopes in which a site of a unit stands: those around the unit, and inside of them those that have begun in it.
use Rattle.std.proofs.Common.{◌≡◌, ◌≢◌, ◌≤◌, ◌∙◌, ℕ, ◌+◌, Bool, true, false, cond, List, [], ◌∷◌, length, Option, Some, None, Result, Ok, Err, refl, sym, ap, subst, arith}
use Rattle.std.specs.Prelude.{drop}
use Rattle.std.proofs.lemmas.List.Elements.{All-weaker}
use Rattle.idl_check_laws.specs.idl_check.ids.Remarks.{purpose_of, remark}
use Rattle.idl_check_laws.specs.idl_check.tables.Declaring.{entity_of, standing}
use Rattle.idl_check_laws.specs.idl_check.told.Types.{looked_through}
use Rattle.idl_check_laws.specs.idl_check.walk.Walk.{Visit, Walk, cut_name, declared_visit, ended_scope, faulty_if, head_of, head_visit, is_known, looked_at, outcome_at, passed, past_name, quiet, spoken_of, spoken_visit, turns_at, unfound_visit, unspoken_visit, used, used_visit, value_visit, visit, with_scope}
use Rattle.idl_check_laws.specs.idl_check.tables.Rules.{is_useless_default}
use Rattle.idl_check_laws.proofs.Nests.LevelSites.{Around, IsFit, around_after, is_inside, opens_union, popped, used_around}
use Rattle.idl_entity.specs.Kind.{kind_eq}
use Rattle.idl_entity.specs.declared.entity.Entity.{Entity}
use Rattle.idl_entity.specs.declared.kind.Kind.TheVariants.{Union}
use Rattle.idl_env.specs.Facts.{path_around}
use Rattle.idl_env.specs.declared.answering.answer.Answer.{Answer}
use Rattle.idl_env.specs.declared.answering.answer.Scope.{Scope}
use Rattle.idl_env.specs.declared.keys.key.Key.{Key}
use Rattle.idl_fault.specs.declared.code.Code.TheVariants.{UselessDefault}
use Rattle.idl_block.specs.facts.Known.{NoneInside}
use Rattle.idl_memo.proofs.QueryLaws.{outcome-and_then}
use Rattle.idl_memo.specs.Query.{Done, and_then, outcome}
use Rattle.idl_parts.specs.Item.{Item}
use Rattle.idl_parts.specs.Part.{Part as item}
use Rattle.idl_parts.specs.declared.part.Declaration.{Declaration}
use Rattle.idl_parts.specs.declared.part.Purpose.{Purpose}
use Rattle.idl_parts.specs.declared.part.Purpose.TheVariants as purpose
use Rattle.idl_parts.specs.declared.part.TextPurpose.{TextPurpose}
use Rattle.idl_parts.specs.declared.part.Use.{Use}
use Rattle.idl_parts.specs.declared.part.Use.TheVariants as way_of
use Rattle.idl_scope.specs.Lookup.{Lookup, by_result, denoted, under}
use Rattle.idl_scope.specs.declared.fault.NameFault.{NameFault}
use Rattle.idl_scope.specs.declared.fault.NameFault.TheVariants.{At, Memory}
use Rattle.idl_scope.specs.declared.found.Found.{Found}
use Rattle.idl_tree.specs.NameParts.{last_at}
use Rattle.idl_tree.specs.declared.name.ScopedName.{ScopedName}
use Rattle.idl_unit.specs.TokenRules.{first}
use Rattle.idl_value.specs.declared.outcome.Outcome.{Outcome}
use Rattle.idl_value.specs.declared.outcome.Outcome.TheVariants as outcome_is

-- ---- where a site leaves them

abbrev pub scopes_after : Item → List Scope → List Scope
scopes_after (item.ScopeBegins way name) scopes = with_scope way name scopes
scopes_after item.ScopeEnds scopes = drop 1 scopes
scopes_after other scopes = scopes

module _ (turns : ℕ) (bank : Key → Option Answer) (w : Walk) where
  unfound-cursor : (way : Use) (name : ScopedName) (fault : NameFault) → (unfound_visit w way name fault).after.cursor ≡ w.cursor
  unfound-cursor way name (At why part) = refl
  unfound-cursor way name Memory = refl

  abbrev query : ScopedName → Lookup (Result Found NameFault)
  query name = under w.own (denoted (turns_at turns w) w.cursor name)

  abbrev used_next : Use → ScopedName → Result Found NameFault → Lookup Visit
  used_next way name r =
      by_result r
      (λ found. and_then (under w.own (looked_through (turns_at turns w) way found.entity)) (λ behind. Done (used_visit w way name found behind)))
      (λ fault. Done (unfound_visit w way name fault))

  used-cursor : (way : Use) (name : ScopedName) → (outcome (used turns way name w) bank).after.cursor ≡ w.cursor
  unfolding used
  used-cursor way name = ap (λ (v : Visit). v.after.cursor) (outcome-and_then (query name) (used_next way name) bank) ∙ by (outcome (query name) bank)
    where
      by : (r : Result Found NameFault) → (outcome (used_next way name r) bank).after.cursor ≡ w.cursor
      by (Ok found) = ap (λ (v : Visit). v.after.cursor) (outcome-and_then (under w.own (looked_through (turns_at turns w) way found.entity)) (λ behind. Done (used_visit w way name found behind)) bank)
      by (Err fault) = unfound-cursor way name fault

  abbrev spoken_next : TextPurpose → ScopedName → Result Found NameFault → Lookup Visit
  spoken_next purpose name r =
      by_result r
      (λ found. and_then (under w.own (remark purpose (last_at w.at name) w.text found.entity)) (λ s. Done (spoken_visit w name found s)))
      (λ fault. Done (unspoken_visit w name fault))

  spoken-cursor : (purpose : TextPurpose) (name : ScopedName) → (outcome (spoken_of turns purpose name w) bank).after.cursor ≡ w.cursor
  unfolding spoken_of
  spoken-cursor purpose name = ap (λ (v : Visit). v.after.cursor) (outcome-and_then (query name) (spoken_next purpose name) bank) ∙ by (outcome (query name) bank)
    where
      by : (r : Result Found NameFault) → (outcome (spoken_next purpose name r) bank).after.cursor ≡ w.cursor
      by (Ok found) = ap (λ (v : Visit). v.after.cursor) (outcome-and_then (under w.own (remark purpose (last_at w.at name) w.text found.entity)) (λ s. Done (spoken_visit w name found s)) bank)
      by (Err fault) = refl

  cut-cursor : (way : Use) (name : ScopedName) → (outcome (cut_name turns way name w) bank).after.cursor ≡ w.cursor
  unfolding cut_name
  cut-cursor way name = by name.is_global name.rest
    where
      by : (b : Bool) (rest : List (List ℕ))
          → (outcome (cond b (Done (quiet (past_name name w))) (elim rest as (λ _. Lookup Visit) [ [] ↦ used turns way name w | part ∷ parts ↦ and_then (query (head_of name)) (λ r. Done (head_visit name w r)) ])) bank).after.cursor ≡ w.cursor
      by true rest = refl
      by false [] = used-cursor way name
      by false (part ∷ parts) = ap (λ (v : Visit). v.after.cursor) (outcome-and_then (query (head_of name)) (λ r. Done (head_visit name w r)) bank)

  declared-cursor : (way : Declaration) (name : List ℕ) (o : Option Scope)
      → (outcome (elim o as (λ _. Lookup Visit) [
        | None ↦ Done (quiet (passed 1 w))
        | Some s ↦ and_then (under w.own (standing (turns_at turns w) s (entity_of w.written way name s.path))) (λ there. Done (declared_visit w way s (entity_of w.written way name s.path) there))
      ]) bank).after.cursor ≡ w.cursor
  declared-cursor way name None = refl
  declared-cursor way name (Some s) =
      let e : Entity = entity_of w.written way name s.path in
      ap (λ (v : Visit). v.after.cursor) (outcome-and_then (under w.own (standing (turns_at turns w) s e)) (λ there. Done (declared_visit w way s e there)) bank)

  value-cursor : (way : Purpose) (o : Outcome) → (value_visit w way o).after.cursor ≡ w.cursor
  value-cursor purpose.Label (outcome_is.Value v) = refl
  value-cursor other (outcome_is.Value v) = refl
  value-cursor way (outcome_is.Fault f) = refl
  value-cursor way outcome_is.Told = refl

  none-dropped : (cursor : List Scope) → first cursor ≡ None → cursor ≡ drop 1 cursor
  none-dropped [] h = refl
  none-dropped (s ∷ cursor) h = cc

  ends-cursor : (o : Option Scope) → first w.cursor ≡ o
      → (elim o as (λ _. Visit) [ None ↦ quiet w | Some s ↦ cond (kind_eq s.kind Union) (faulty_if (is_useless_default w.unions) UselessDefault w (record (ended_scope w) { unions = drop 1 w.unions })) (quiet (ended_scope w)) ]).after.cursor
      ≡ drop 1 w.cursor
  ends-cursor None is = none-dropped w.cursor is
  ends-cursor (Some s) is = by (kind_eq s.kind Union)
    where
      by : (b : Bool) → (cond b (faulty_if (is_useless_default w.unions) UselessDefault w (record (ended_scope w) { unions = drop 1 w.unions })) (quiet (ended_scope w))).after.cursor ≡ drop 1 w.cursor
      by true = refl
      by false = refl

  pub looked-cursor : (site : Item) → (outcome (looked_at turns site w) bank).after.cursor ≡ scopes_after site w.cursor
  unfolding visit
  looked-cursor (item.Uses way name) = by (purpose_of way)
    where
      by : (o : Option TextPurpose)
          → (outcome (elim o as (λ _. Lookup Visit) [ None ↦ cond (is_known (w.at + 1) w) (cut_name turns way name w) (used turns way name w) | Some purpose ↦ spoken_of turns purpose name w ]) bank).after.cursor ≡ w.cursor
      by None = on (is_known (w.at + 1) w)
        where
          on : (b : Bool) → (outcome (cond b (cut_name turns way name w) (used turns way name w)) bank).after.cursor ≡ w.cursor
          on true = cut-cursor way name
          on false = used-cursor way name
      by (Some purpose) = spoken-cursor purpose name
  looked-cursor (item.Declares way name) = declared-cursor way name (first w.cursor)
  looked-cursor (item.ScopeBegins way name) = refl
  looked-cursor item.ScopeEnds = ends-cursor (first w.cursor) refl
  looked-cursor item.ValueBegins = refl
  looked-cursor (item.ValueEnds way expression) = value-cursor way (outcome_at w way expression)
  looked-cursor (item.TypeEnds shape) = refl
  looked-cursor item.ArrayEnds = refl
  looked-cursor (item.Enumerates names) = refl
  looked-cursor (item.Identifies text) = refl
  looked-cursor (item.Switches discrete) = refl
  looked-cursor item.Default = refl
  looked-cursor item.GivesBack = refl
  looked-cursor (item.Plain n) = refl
  looked-cursor (item.Says purpose text) = refl

-- ---- no open scope stands inside of one in which a name is declared

module _ (scopes : List Scope) (some : scopes ≢ []) (deepest : NoneInside scopes (path_around scopes)) where
  -- as many scopes have begun as these, each inside of all that are open
  abbrev pub IsCursor : List Bool → List Scope → Type 0
  IsCursor [] cursor = cursor ≡ scopes
  IsCursor (b ∷ begun) [] = ⊥
  IsCursor (b ∷ begun) (t ∷ cursor) = NoneInside scopes t.path × IsCursor begun cursor

  around-first : (ss : List Scope) (s : Scope) → first ss ≡ Some s → path_around ss ≡ s.path
  around-first [] s h = cc
  around-first (t ∷ ss) s h = let same : t ≡ s = cc in ap (λ (s : Scope). s.path) same

  pub cursor-first : (begun : List Bool) (cursor : List Scope) → IsCursor begun cursor → (s : Scope) → first cursor ≡ Some s → NoneInside scopes s.path
  cursor-first [] cursor is s h = subst (NoneInside scopes) (around-first scopes s (ap first (sym is) ∙ h)) deepest
  cursor-first (b ∷ begun) [] is s h = absurd is
  cursor-first (b ∷ begun) (t ∷ cursor) is s h = let same : t ≡ s = cc in subst (λ (s : Scope). NoneInside scopes s.path) same is.0

  begins-cursor : (b : Bool) (begun : List Bool) (way : Declaration) (name : List ℕ) (cursor : List Scope) → IsCursor begun cursor → IsCursor (b ∷ begun) (with_scope way name cursor)
  begins-cursor b [] way name [] is = absurd (some (sym is))
  begins-cursor b (c ∷ begun) way name [] is = absurd is
  begins-cursor b begun way name (t ∷ cursor) is = (
    All-weaker (λ (s : Scope). length s.path ≤ length t.path) (λ (s : Scope). length s.path ≤ length (name ∷ t.path)) (λ s least. omega (arith, least)) scopes
        (cursor-first begun (t ∷ cursor) is t refl),
    is,
  )

  ended-cursor : (a : Around) (begun : List Bool) (cursor : List Scope) → is_inside begun ≡ true → IsCursor begun cursor → IsCursor (popped begun a).scopes (drop 1 cursor)
  ended-cursor a [] cursor inside is = cc
  ended-cursor a (b ∷ begun) [] inside is = absurd is
  ended-cursor a (true ∷ begun) (t ∷ cursor) inside is = is.1
  ended-cursor a (false ∷ begun) (t ∷ cursor) inside is = is.1

  used-same : (way : Use) (a : Around) → a.scopes ≡ (used_around way a).scopes
  used-same way_of.AsDiscriminator a = refl
  used-same way_of.AsConstantType a = refl
  used-same (way_of.AsBase is_local) a = refl
  used-same other a = refl

  pub site-cursor : (site : Item) (a : Around) (cursor : List Scope) → IsFit site a → IsCursor a.scopes cursor → IsCursor (around_after site a).scopes (scopes_after site cursor)
  site-cursor (item.Uses way name) a cursor fit is = subst (λ begun. IsCursor begun cursor) (used-same way a) is
  site-cursor (item.ScopeBegins way name) a cursor fit is = begins-cursor (opens_union way) a.scopes way name cursor is
  site-cursor item.ScopeEnds a cursor fit is = ended-cursor a a.scopes cursor fit is
  site-cursor other a cursor fit is = is
