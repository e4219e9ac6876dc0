-- What comes of a site does not hang on the fault so far.
use Rattle.std.proofs.Common.{◌≡◌, ◌∙◌, ℕ, Bool, true, false, List, [], ◌∷◌, ◌++◌, Option, Some, None, Result, Ok, Err, refl, sym, ap}
use Rattle.idl_check.specs.tables.Declaring.{entity_of, standing}
use Rattle.idl_check.specs.told.Types.{looked_through}
use Rattle.idl_check.specs.walk.Walk.{turns_at, Visit, Walk, declared_visit, outcome_at, unfound_visit, used, used_visit, value_visit, visit, plain_name, spoken_of, spoken_visit}
use Rattle.idl_memo.specs.Query.{Done, outcome}
use Rattle.idl_memo.proofs.QueryLaws.{outcome-and_then}
use Rattle.idl_entity.specs.Kind.{kind_eq}
use Rattle.idl_scope.specs.Lookup.{denoted, under, Lookup}
use Rattle.idl_env.specs.declared.answering.answer.Answer.{Answer}
use Rattle.idl_env.specs.declared.answering.answer.Scope.{Scope}
use Rattle.idl_scope.specs.declared.fault.NameFault.{NameFault}
use Rattle.idl_scope.specs.declared.fault.NameFault.TheVariants.{At, Memory}
use Rattle.idl_scope.specs.declared.found.Found.{Found}
use Rattle.idl_env.specs.declared.keys.key.Key.{Key}
use Rattle.idl_entity.specs.declared.kind.Kind.TheVariants.{Union}
use Rattle.idl_parts.specs.Item.{Item}
use Rattle.idl_parts.specs.Part.{Part as item}
use Rattle.idl_parts.specs.declared.part.Declaration.{Declaration}
use Rattle.idl_parts.specs.declared.part.Purpose.{Purpose}
use Rattle.idl_parts.specs.declared.part.Purpose.TheVariants as purpose
use Rattle.idl_parts.specs.declared.part.Use.{Use}
use Rattle.idl_tree.specs.declared.name.ScopedName.{ScopedName}
use Rattle.idl_unit.specs.TokenRules.{first}
use Rattle.idl_unit.specs.declared.fault.Fault.{Fault}
use Rattle.idl_value.specs.declared.outcome.Outcome.{Outcome}
use Rattle.idl_value.specs.declared.outcome.Outcome.TheVariants as comes
use Rattle.idl_check.proofs.Visits.SiteLaws.{declared_by, end_visit, union_visit, used_by, visited, spoken_by}
use Rattle.idl_check.proofs.Faults.VisitFaults.{visit_faults}
use Rattle.idl_parts.specs.declared.part.TextPurpose.{TextPurpose}
use Rattle.idl_check.specs.ids.Remarks.{purpose_of, remark}
use Rattle.idl_tree.specs.NameParts.{last_at}

-- ---- the same walk but for the fault

abbrev pub with_fault : Option Fault → Walk → Walk
with_fault f w = record w { fault = f }

abbrev pub with_fault_after : Option Fault → Visit → Visit
with_fault_after f v = record { faults = v.faults; after = with_fault f v.after }

unfound-apart : (f : Option Fault) (w : Walk) (way : Use) (name : ScopedName) (fault : NameFault) → unfound_visit (with_fault f w) way name fault ≡ with_fault_after f (unfound_visit w way name fault)
unfound-apart f w way name (At why part) = refl
unfound-apart f w way name Memory = refl

union-apart : (f : Option Fault) (w : Walk) (b : Bool) → union_visit (with_fault f w) b ≡ with_fault_after f (union_visit w b)
union-apart f w true = refl
union-apart f w false = refl

end-apart : (f : Option Fault) (w : Walk) (o : Option Scope) → end_visit (with_fault f w) o ≡ with_fault_after f (end_visit w o)
end-apart f w None = refl
end-apart f w (Some s) = union-apart f w (kind_eq s.kind Union)

value-apart : (f : Option Fault) (w : Walk) (way : Purpose) (o : Outcome) → value_visit (with_fault f w) way o ≡ with_fault_after f (value_visit w way o)
value-apart f w purpose.Bound (comes.Value v) = refl
value-apart f w purpose.Constant (comes.Value v) = refl
value-apart f w purpose.Length (comes.Value v) = refl
value-apart f w purpose.Label (comes.Value v) = refl
value-apart f w way (comes.Fault g) = refl
value-apart f w way comes.Told = refl

module _ (turns : ℕ) (answers : Key → Option Answer) where
  declared-apart : (f : Option Fault) (way : Declaration) (name : List ℕ) (w : Walk) (o : Option Scope) → outcome (declared_by turns answers way name (with_fault f w) o) answers ≡ with_fault_after f (outcome (declared_by turns answers way name w o) answers)
  declared-apart f way name w None = refl
  declared-apart f way name w (Some s) =
      let e = entity_of w.written way name s.path in
      let query = under w.own (standing (turns_at turns w) s e) in
      outcome-and_then query (λ there. Done (declared_visit (with_fault f w) way s e there)) answers
      ∙ sym (ap (with_fault_after f) (outcome-and_then query (λ there. Done (declared_visit w way s e there)) answers))

  used-by-apart : (f : Option Fault) (way : Use) (name : ScopedName) (w : Walk) (r : Result Found NameFault) → outcome (used_by turns answers way name (with_fault f w) r) answers ≡ with_fault_after f (outcome (used_by turns answers way name w r) answers)
  used-by-apart f way name w (Ok found) =
      let query = under w.own (looked_through (turns_at turns w) way found.entity) in
      outcome-and_then query (λ behind. Done (used_visit (with_fault f w) way name found behind)) answers
      ∙ sym (ap (with_fault_after f) (outcome-and_then query (λ behind. Done (used_visit w way name found behind)) answers))
  used-by-apart f way name w (Err fault) = unfound-apart f w way name fault

  plain-apart : (f : Option Fault) (way : Use) (name : ScopedName) (w : Walk) → outcome (used turns way name (with_fault f w)) answers ≡ with_fault_after f (outcome (used turns way name w) answers)
  unfolding used
  plain-apart f way name w =
      let query = under w.own (denoted (turns_at turns w) w.cursor name) in
      outcome-and_then query (used_by turns answers way name (with_fault f w)) answers
      ∙ used-by-apart f way name w (outcome query answers)
      ∙ sym (ap (with_fault_after f) (outcome-and_then query (used_by turns answers way name w) answers))

  spoken-by-apart : (f : Option Fault) (p : TextPurpose) (name : ScopedName) (w : Walk) (r : Result Found NameFault) → outcome (spoken_by turns answers p name (with_fault f w) r) answers ≡ with_fault_after f (outcome (spoken_by turns answers p name w r) answers)
  spoken-by-apart f p name w (Ok found) =
      let query = under w.own (remark p (last_at w.at name) w.text found.entity) in
      outcome-and_then query (λ s. Done (spoken_visit (with_fault f w) name found s)) answers
      ∙ sym (ap (with_fault_after f) (outcome-and_then query (λ s. Done (spoken_visit w name found s)) answers))
  spoken-by-apart f p name w (Err fault) = refl

  spoken-apart : (f : Option Fault) (p : TextPurpose) (name : ScopedName) (w : Walk) → outcome (spoken_of turns p name (with_fault f w)) answers ≡ with_fault_after f (outcome (spoken_of turns p name w) answers)
  unfolding spoken_of
  spoken-apart f p name w =
      let query = under w.own (denoted (turns_at turns w) w.cursor name) in
      outcome-and_then query (spoken_by turns answers p name (with_fault f w)) answers
      ∙ spoken-by-apart f p name w (outcome query answers)
      ∙ sym (ap (with_fault_after f) (outcome-and_then query (spoken_by turns answers p name w) answers))

  any-apart : (f : Option Fault) (way : Use) (name : ScopedName) (w : Walk) → outcome (plain_name turns way name (with_fault f w)) answers ≡ with_fault_after f (outcome (plain_name turns way name w) answers)
  any-apart f way name w = by_purpose (purpose_of way)
    where
      by_purpose : (o : Option TextPurpose) → outcome (elim o as (λ _. Lookup Visit) [ None ↦ used turns way name (with_fault f w) | Some p ↦ spoken_of turns p name (with_fault f w) ]) answers
          ≡ with_fault_after f (outcome (elim o as (λ _. Lookup Visit) [ None ↦ used turns way name w | Some p ↦ spoken_of turns p name w ]) answers)
      by_purpose (Some p) = spoken-apart f p name w
      by_purpose None = plain-apart f way name w

  pub visit-apart : (f : Option Fault) (site : Item) (w : Walk) → visited turns answers site (with_fault f w) ≡ with_fault_after f (visited turns answers site w)
  unfolding visit
  visit-apart f (item.Declares way name) w = declared-apart f way name w (first w.cursor)
  visit-apart f (item.Uses way name) w = any-apart f way name w
  visit-apart f (item.ValueEnds way e) w = value-apart f w way (outcome_at w way e)
  visit-apart f item.ScopeEnds w = end-apart f w (first w.cursor)
  visit-apart f other w = refl

  pub faults-apart : (f : Option Fault) (sites : List Item) (w : Walk) → visit_faults turns answers sites (with_fault f w) ≡ visit_faults turns answers sites w
  faults-apart f [] w = refl
  faults-apart f (site ∷ sites) w =
      ap (λ (v : Visit). v.faults ++ visit_faults turns answers sites v.after) (visit-apart f site w)
      ∙ ap (λ fs. (visited turns answers site w).faults ++ fs) (faults-apart f sites (visited turns answers site w).after)
