-- What the used names of a unit without fault denote.
use Rattle.std.proofs.Common.{◌≡◌, ◌∙◌, ◌≤◌, ℕ, List, [], ◌∷◌, ◌++◌, length, slice_get, Option, None, Some, Result, Ok, Err, refl, sym, ap, subst, arith}
use Rattle.idl_check.proofs.Faults.VisitFaults.{visit_faults}
use Rattle.idl_check.proofs.PartLemmas.{IsUpTo}
use Rattle.idl_check.proofs.Visits.SiteLaws.{denoted-up, spoken_by, used_by, visit-placed, visited}
use Rattle.idl_check.proofs.Visits.VerdictLaws.{sound-is, spelled-tree}
use Rattle.idl_check.proofs.Visits.VisitLemmas.{turns-here}
use Rattle.idl_check.proofs.Visits.WalkLaws.{none-append}
use Rattle.idl_check.proofs.Visits.WholeLaws.{whole-none}
use Rattle.idl_check.specs.ids.Remarks.{purpose_of}
use Rattle.idl_check.specs.walk.Judging.{used_names, walked}
use Rattle.idl_check.specs.walk.Names.{site_names, unit_names, used_paths}
use Rattle.idl_check.specs.walk.Verdict.{verdict}
use Rattle.idl_check.specs.walk.Walk.{Walk, Visit, first_walk, plain_name, spoken_of, turns_at, used, visit}
use Rattle.idl_check_laws.proofs.Visits.NameLaws.{unit-used, walked-used}
use Rattle.idl_check_laws.proofs.Visits.RowLaws.{unfound-faulty, used-path, walked-found}
use Rattle.idl_check_laws.proofs.Visits.ValuedLaws.{faults-follow, walked-on}
use Rattle.idl_entity.specs.declared.entity.Entity.{Entity}
use Rattle.idl_env.specs.Facts.{UnitFacts, answers, scopes_in}
use Rattle.idl_env.specs.Turns.{turns_for}
use Rattle.idl_env.specs.declared.answering.answer.Answer.{Answer}
use Rattle.idl_env.specs.declared.keys.key.Key.{Key}
use Rattle.idl_env.specs.declared.keys.key.Key.TheVariants.{Cursor}
use Rattle.idl_lex.specs.tokens.Tokens.{Token}
use Rattle.idl_memo.proofs.QueryLaws.{outcome-and_then}
use Rattle.idl_memo.specs.Query.{outcome}
use Rattle.idl_parts.specs.Item.{Item, items}
use Rattle.idl_parts.specs.Part.{Part as item}
use Rattle.idl_parts.specs.UnitParts.{unit_parts}
use Rattle.idl_parts.specs.declared.part.TextPurpose.{TextPurpose}
use Rattle.idl_parts.specs.declared.part.Use.{Use}
use Rattle.idl_scope.proofs.FactsLaws.{outcome-under}
use Rattle.idl_scope.proofs.LookupLaws.LookupLaws.{denotes}
use Rattle.idl_scope.specs.Lookup.{Lookup, denoted, under}
use Rattle.idl_scope.specs.Meaning.{Denotes, entity_found, seen}
use Rattle.idl_scope.specs.declared.fault.NameFault.{NameFault}
use Rattle.idl_scope.specs.declared.fault.NameFault.TheVariants.{At, Memory}
use Rattle.idl_scope.specs.declared.found.Found.{Found}
use Rattle.idl_tree.specs.Lexeme.{lexemes}
use Rattle.idl_tree.specs.Unit.{spell}
use Rattle.idl_tree.specs.declared.name.ScopedName.{ScopedName}
use Rattle.idl_tree.specs.declared.unit.Tree.{Tree}
use Rattle.idl_unit.specs.declared.unit.UnitText.TheVariants as unit

-- what is put behind others, and before more, is found there
found-behind : {X : Type 0} (xs : List X) (x : X) (more : List X) → slice_get ((xs ++ x ∷ []) ++ more) (length xs) ≡ Some x
found-behind [] x more = refl
found-behind (y ∷ xs) x more = found-behind xs x more

not-one : {X : Type 0} {x : X} → x ∷ [] ≡ [] → ⊥
not-one h = cc

module _ (turns : ℕ) (bank : Key → Option Answer) where
  -- what a name is looked up by
  abbrev query : ScopedName → Walk → Lookup (Result Found NameFault)
  query name w = under w.own (denoted (turns_at turns w) w.cursor name)

  -- a name with which nothing is wrong denotes something
  abbrev Finds : ScopedName → Walk → Type 0
  Finds name w = (found : Found) × (outcome (query name w) bank ≡ Ok found)

  plain-finds : (way : Use) (name : ScopedName) (w : Walk) → (outcome (used turns way name w) bank).faults ≡ [] → Finds name w
  unfolding used
  plain-finds way name w h =
      by (outcome (query name w) bank) refl (denoted-up turns bank name w) (ap (λ (v : Visit). v.faults) (sym (outcome-and_then (query name w) (used_by turns bank way name w) bank)) ∙ h)
    where
      by : (r : Result Found NameFault) → outcome (query name w) bank ≡ r → IsUpTo (length name.rest) r → (outcome (used_by turns bank way name w r) bank).faults ≡ [] → Finds name w
      by (Ok found) is up none = (found, is)
      by (Err fault) is up none = absurd (unfound-faulty (length name.rest) w way name fault up none)

  spoken-finds : (p : TextPurpose) (name : ScopedName) (w : Walk) → (outcome (spoken_of turns p name w) bank).faults ≡ [] → Finds name w
  unfolding spoken_of
  spoken-finds p name w h =
      by (outcome (query name w) bank) refl (denoted-up turns bank name w) (ap (λ (v : Visit). v.faults) (sym (outcome-and_then (query name w) (spoken_by turns bank p name w) bank)) ∙ h)
    where
      by : (r : Result Found NameFault) → outcome (query name w) bank ≡ r → IsUpTo (length name.rest) r → (outcome (spoken_by turns bank p name w r) bank).faults ≡ [] → Finds name w
      by (Ok found) is up none = (found, is)
      by (Err (At why part)) is up none = absurd (not-one none)
      by (Err Memory) is up none = absurd up

  any-finds : (way : Use) (name : ScopedName) (w : Walk) → (outcome (plain_name turns way name w) bank).faults ≡ [] → Finds name w
  any-finds way name w = by_purpose (purpose_of way)
    where
      by_purpose : (o : Option TextPurpose) → (outcome (elim o as (λ _. Lookup Visit) [ None ↦ used turns way name w | Some p ↦ spoken_of turns p name w ]) bank).faults ≡ [] → Finds name w
      by_purpose (Some p) = spoken-finds p name w
      by_purpose None = plain-finds way name w

  site-finds : (way : Use) (name : ScopedName) (w : Walk) → (visited turns bank (item.Uses way name) w).faults ≡ [] → Finds name w
  unfolding visit
  site-finds way name w h = any-finds way name w h

  -- a site leaves the fault before it
  walked-keeps : (sites : List Item) (w : Walk) → (walked turns bank sites w).fault ≡ w.fault
  walked-keeps [] w = refl
  walked-keeps (site ∷ sites) w = walked-keeps sites (visited turns bank site w).after ∙ (visit-placed turns bank site w).keeps

  -- a used name between other sites of which none is faulty: it denotes something, whose path is found at its place
  between : (front : List Item) (way : Use) (name : ScopedName) (back : List Item) (w : Walk) → w.fault ≡ None → w.found ≡ [] → visit_faults turns bank (front ++ item.Uses way name ∷ back) w ≡ []
      → (found : Found) × (outcome (query name (walked turns bank front w)) bank ≡ Ok found)
      × (slice_get (walked turns bank (front ++ item.Uses way name ∷ back) w).found (length (used_names front)) ≡ Some found.entity.path)
  between front way name back w none empty h =
      let here = walked turns bank front w in
      let v = visited turns bank (item.Uses way name) here in
      let parts = none-append (visit_faults turns bank front w) (visit_faults turns bank (item.Uses way name ∷ back) here) (sym (faults-follow turns bank front (item.Uses way name ∷ back) w) ∙ h) in
      let rest = none-append v.faults (visit_faults turns bank back v.after) parts.1 in
      let finds = site-finds way name here rest.0 in
      let path = finds.0.entity.path in
      let kept : v.after.fault ≡ None = (visit-placed turns bank (item.Uses way name) here).keeps ∙ walked-keeps front w ∙ none in
      let bare : length w.found ≡ 0 = ap length empty in
      let count : length here.found ≡ length (used_names front) = omega (arith, walked-found turns bank front w parts.0, bare) in
      let more = used_paths (site_names turns bank back v.after) in
      let all : (walked turns bank (front ++ item.Uses way name ∷ back) w).found ≡ (here.found ++ path ∷ []) ++ more =
      ap (λ (u : Walk). u.found) (sym (walked-on turns bank front (item.Uses way name ∷ back) w))
      ∙ walked-used turns bank back v.after kept rest.1
      ∙ ap (λ ps. ps ++ more) (used-path turns bank way name here finds.0 finds.1) in
      (finds.0, finds.1, (λ i. slice_get (all i) (sym count i)) ∙ found-behind here.found path more)

-- ---- a unit without fault

-- it is the one tree that its tokens spell, at none of whose sites is a fault
sound-faults : (turns : ℕ) (bank : Key → Option Answer) (tokens : List Token) (tree : Tree) → (outcome (verdict turns (unit.Tokens tokens)) bank).fault ≡ None → lexemes tokens ≡ spell tree
    → visit_faults turns bank (items (unit_parts tree)) (first_walk (scopes_in (bank Cursor))) ≡ []
sound-faults turns bank tokens tree none spelled =
    let scopes = scopes_in (bank Cursor) in
    let s = sound-is turns bank tokens none in
    let same : s.tree ≡ tree = ap (λ (r : Result Tree ℕ). elim r [ Ok t ↦ t | Err n ↦ tree ]) (sym (spelled-tree tokens s.tree s.spelled) ∙ spelled-tree tokens tree spelled) in
    subst (λ t. visit_faults turns bank (items (unit_parts t)) (first_walk scopes) ≡ []) same (whole-none turns bank (items (unit_parts s.tree)) (first_walk scopes) s.named)

-- each of its used names denotes what the scoping rules say, and the unit's names tell the path of that
pub unit-denotes : (facts : List UnitFacts) (turns : ℕ) (tokens : List Token) (tree : Tree) (front : List Item) (way : Use) (name : ScopedName) (back : List Item) → turns_for facts ≤ turns
    → (outcome (verdict turns (unit.Tokens tokens)) (answers facts)).fault ≡ None → lexemes tokens ≡ spell tree → items (unit_parts tree) ≡ front ++ item.Uses way name ∷ back
    → let w = walked turns (answers facts) front (first_walk (scopes_in (answers facts Cursor))) in
    (e : Entity) × Denotes (seen w.own facts) w.cursor name (Ok e)
    × (slice_get (used_paths (unit_names turns (answers facts) (unit.Tokens tokens))) (length (used_names front)) ≡ Some e.path)
unit-denotes facts turns tokens tree front way name back enough none spelled sites =
    let bank = answers facts in
    let first = first_walk (scopes_in (bank Cursor)) in
    let faults = subst (λ ss. visit_faults turns bank ss first ≡ []) sites (sound-faults turns bank tokens tree none spelled) in
    let b = between turns bank front way name back first refl refl faults in
    let w = walked turns bank front first in
    let Q : Result Found NameFault → Type 0 = λ r. Denotes (seen w.own facts) w.cursor name (entity_found r) in
    let says = denotes facts w.own (turns_at turns w) (turns-here facts w.own turns enough) w.cursor name in
    let found : used_paths (unit_names turns bank (unit.Tokens tokens)) ≡ (walked turns bank (front ++ item.Uses way name ∷ back) first).found =
    unit-used turns bank tokens tree none spelled ∙ ap (λ ss. (walked turns bank ss first).found) sites in (
      b.0.entity,
      subst Q (sym (outcome-under w.own bank (denoted (turns_at turns w) w.cursor name)) ∙ b.1) says,
      ap (λ ps. slice_get ps (length (used_names front))) found ∙ b.2,
    )
