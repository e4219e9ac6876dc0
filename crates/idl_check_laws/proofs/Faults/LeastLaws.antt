-- The fault that is told of a unit is the least of all.
use Rattle.std.proofs.Common.{◌≡◌, ◌∙◌, ℕ, ◌^◌, ◌<◌, List, [], ◌∷◌, ◌++◌, length, Option, None, Result, Ok, Err, refl, sym, ap, subst, arith}
use Rattle.std.proofs.lemmas.List.{length-map}
use Rattle.std.specs.Prelude.{flat_map}
use Rattle.idl_check.specs.walk.AllFaults.{further_faults, name_faults, or_else, site_faults, unit_faults}
use Rattle.idl_check.specs.walk.Judging.{FitsMemory}
use Rattle.idl_check.specs.walk.Placing.{place_faults}
use Rattle.idl_check.specs.walk.Sections.{section_sites}
use Rattle.idl_check.specs.walk.Verdict.{first_faults, tree_of, verdict}
use Rattle.idl_check.specs.walk.Walk.{first_walk}
use Rattle.idl_fault.specs.declared.code.Code.TheVariants.{NoTree}
use Rattle.idl_lex.specs.tokens.Tokens.{Token}
use Rattle.idl_memo.specs.Query.{outcome}
use Rattle.idl_env.specs.Facts.{scopes_in}
use Rattle.idl_env.specs.declared.answering.answer.Answer.{Answer}
use Rattle.idl_env.specs.declared.answering.answer.Scope.{Scope}
use Rattle.idl_env.specs.declared.keys.key.Key.{Key}
use Rattle.idl_env.specs.declared.keys.key.Key.TheVariants.{Cursor}
use Rattle.idl_parts.proofs.UnitSpelling.{counted, unit_spells}
use Rattle.idl_parts.specs.Item.{items, items_length}
use Rattle.idl_parts.specs.UnitParts.{unit_parts}
use Rattle.idl_tree.specs.Lexeme.{lexeme_of, lexemes}
use Rattle.idl_tree.specs.Unit.{spell}
use Rattle.idl_tree.specs.declared.unit.Tree.{Tree}
use Rattle.idl_unit.specs.Faults.{least_fault}
use Rattle.idl_unit.specs.TokenRules.{fault_at}
use Rattle.idl_unit.specs.declared.fault.Fault.{Fault}
use Rattle.idl_unit.specs.declared.unit.UnitText.{UnitText}
use Rattle.idl_unit.specs.declared.unit.UnitText.TheVariants as unit
use Rattle.idl_check_laws.proofs.Faults.AlikeLemmas.{AreAlike, alike-append}
use Rattle.idl_check_laws.proofs.Nests.UnitNesting.{unit-whole}
use Rattle.idl_check.proofs.Faults.LeastFault.{least-none}
use Rattle.idl_check_laws.proofs.PragmaLaws.{least-is}
use Rattle.idl_check_laws.proofs.Faults.SectionLaws.{sections-told}
use Rattle.idl_check.proofs.Visits.VerdictLaws.{tree-spelled}
use Rattle.idl_check.proofs.Faults.VisitFaults.{visit_faults, visit_further_faults, visit_name_faults, visit_unit_faults}
use Rattle.idl_check.proofs.Visits.WalkLaws.{none-append}
use Rattle.idl_check.proofs.Visits.WholeLaws.{none-whole}

module _ (turns : ℕ) (answers : Key → Option Answer) where
  -- ---- units of tokens

  sites-tell : (tokens : List Token) (tree : Tree) → lexemes tokens ≡ spell tree → length tokens < 2 ^ 64 → (scopes : List Scope)
      → AreAlike (visit_faults turns answers (items (unit_parts tree)) (first_walk scopes)) (site_faults turns answers (items (unit_parts tree)) (first_walk scopes))
  sites-tell tokens tree spelled fits scopes =
      let b = (unit-whole tree).bracketed in
      let w = first_walk scopes in
      let count : items_length (items (unit_parts tree)) ≡ length tokens = counted (unit_parts tree) ∙ ap length (unit_spells tree) ∙ sym (ap length spelled) ∙ length-map tokens lexeme_of in
      let same : items_length (flat_map section_sites b.sections) ≡ items_length (items (unit_parts tree)) = ap items_length (sym b.are) in
      subst (λ xs. AreAlike (visit_faults turns answers xs w) (site_faults turns answers xs w)) (sym b.are)
      (sections-told turns answers b.sections b.formed w refl (omega (arith, same, count, fits)))

  names-none : (scopes : List Scope) (tree : Tree) → visit_name_faults turns answers scopes tree ≡ [] → name_faults turns answers scopes tree ≡ []
  names-none scopes tree h =
      let parts = none-append (place_faults tree scopes) (visit_faults turns answers (items (unit_parts tree)) (first_walk scopes)) h in
      ap (λ fs. fs ++ site_faults turns answers (items (unit_parts tree)) (first_walk scopes)) parts.0
      ∙ none-whole turns answers (items (unit_parts tree)) (first_walk scopes) parts.1

  -- by the tree
  abbrev told_by : List Scope → Result Tree ℕ → List Fault
  told_by scopes r = elim r [ Err place ↦ fault_at place NoTree ∷ [] | Ok tree ↦ visit_name_faults turns answers scopes tree ]

  abbrev all_by : List Scope → Result Tree ℕ → List Fault
  all_by scopes r = elim r [ Err place ↦ fault_at place NoTree ∷ [] | Ok tree ↦ name_faults turns answers scopes tree ]

  further-least : (tokens : List Token) → length tokens < 2 ^ 64 → (scopes : List Scope) (r : Result Tree ℕ) → tree_of tokens ≡ r → least_fault (told_by scopes r) ≡ least_fault (all_by scopes r)
  further-least tokens fits scopes (Err place) h = refl
  further-least tokens fits scopes (Ok tree) h =
      alike-append (place_faults tree scopes) (place_faults tree scopes) (visit_faults turns answers (items (unit_parts tree)) (first_walk scopes)) (site_faults turns answers (items (unit_parts tree)) (first_walk scopes))
      (λ o. refl) (sites-tell tokens tree (tree-spelled tokens tree h) fits scopes) None

  further-none : (scopes : List Scope) (r : Result Tree ℕ) → told_by scopes r ≡ [] → all_by scopes r ≡ []
  further-none scopes (Err place) h = cc
  further-none scopes (Ok tree) h = names-none scopes tree h

  else-least : (fs gs hs : List Fault) → least_fault gs ≡ least_fault hs → least_fault (or_else turns answers fs gs) ≡ least_fault (or_else turns answers fs hs)
  else-least [] gs hs h = h
  else-least (f ∷ fs) gs hs h = refl

  else-none : (fs gs hs : List Fault) → (gs ≡ [] → hs ≡ []) → or_else turns answers fs gs ≡ [] → or_else turns answers fs hs ≡ []
  else-none [] gs hs h none = h none
  else-none (f ∷ fs) gs hs h none = cc

  -- ---- any unit

  unit-least : (text : UnitText) → FitsMemory text → least_fault (visit_unit_faults turns answers text) ≡ least_fault (unit_faults turns answers text)
  unit-least (unit.Tokens tokens) fits =
      let scopes = scopes_in (answers Cursor) in
      else-least (first_faults tokens scopes) (visit_further_faults turns answers tokens scopes) (further_faults turns answers tokens scopes) (further-least tokens fits scopes (tree_of tokens) refl)
  unit-least (unit.Pragma tokens inside) fits = refl

  unit-none : (text : UnitText) → visit_unit_faults turns answers text ≡ [] → unit_faults turns answers text ≡ []
  unit-none (unit.Tokens tokens) none =
      let scopes = scopes_in (answers Cursor) in
      else-none (first_faults tokens scopes) (visit_further_faults turns answers tokens scopes) (further_faults turns answers tokens scopes) (further-none scopes (tree_of tokens)) none
  unit-none (unit.Pragma tokens inside) none = none

pub least-whole : (turns : ℕ) (text : UnitText) (answers : Key → Option Answer) → FitsMemory text → (outcome (verdict turns text) answers).fault ≡ least_fault (unit_faults turns answers text)
least-whole turns text answers fits = least-is turns text answers ∙ unit-least turns answers text fits

pub none-at-all : (turns : ℕ) (text : UnitText) (answers : Key → Option Answer) → (outcome (verdict turns text) answers).fault ≡ None → unit_faults turns answers text ≡ []
none-at-all turns text answers h = unit-none turns answers text (least-none (visit_unit_faults turns answers text) (sym (least-is turns text answers) ∙ h))
