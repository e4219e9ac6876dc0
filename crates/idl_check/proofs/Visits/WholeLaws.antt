-- What comes of a site whole, and of the walk's visit of it.
use Rattle.std.proofs.Common.{◌≡◌, ◌∙◌, ℕ, Bool, true, false, cond, List, [], ◌∷◌, ◌++◌, Option, None, Some, refl, sym, ap}
use Rattle.idl_check.specs.walk.AllFaults.{evaluation_faults, first_token, site_faults, whole_visit}
use Rattle.idl_check.specs.tables.Declaring.{entity_of, standing}
use Rattle.idl_check.specs.walk.Sections.{is_single}
use Rattle.idl_check.specs.walk.Walk.{Visit, Walk, begin_of, declared_visit, evaluation_at, is_repeated, value_visit, visit, turns_at}
use Rattle.idl_fault.specs.declared.code.Code.TheVariants.{RepeatedLabel}
use Rattle.idl_memo.proofs.QueryLaws.{outcome-and_then}
use Rattle.idl_memo.specs.Query.{Done, outcome}
use Rattle.idl_entity.specs.Kind.{kind_eq}
use Rattle.idl_scope.specs.Lookup.{under}
use Rattle.idl_env.specs.declared.answering.answer.Answer.{Answer}
use Rattle.idl_env.specs.declared.answering.answer.Scope.{Scope}
use Rattle.idl_env.specs.declared.keys.key.Key.{Key}
use Rattle.idl_entity.specs.declared.kind.Kind.TheVariants.{Union}
use Rattle.idl_parts.specs.Item.{Item}
use Rattle.idl_parts.specs.Part.{Part as item}
use Rattle.idl_parts.specs.declared.part.Declaration.{Declaration}
use Rattle.idl_parts.specs.declared.part.Purpose.{Purpose}
use Rattle.idl_unit.specs.TokenRules.{fault_at, first}
use Rattle.idl_unit.specs.declared.fault.Fault.{Fault}
use Rattle.idl_value.specs.Evaluation.{Evaluation, Faulty, Valued, first_of}
use Rattle.idl_value.specs.declared.outcome.Outcome.TheVariants as comes
use Rattle.idl_check.proofs.Visits.SiteLaws.{declared_by, end_visit, union_visit, any-begins, visited}
use Rattle.idl_check.proofs.Faults.VisitFaults.{visit_faults}
use Rattle.idl_check.proofs.Visits.WalkLaws.{none-append}

-- ---- what a site leaves as it is

union-begins : (w : Walk) (b : Bool) → (union_visit w b).after.values.begin ≡ w.values.begin
union-begins w true = refl
union-begins w false = refl

end-begins : (w : Walk) (o : Option Scope) → (end_visit w o).after.values.begin ≡ w.values.begin
end-begins w None = refl
end-begins w (Some s) = union-begins w (kind_eq s.kind Union)

module _ (turns : ℕ) (answers : Key → Option Answer) where
  declared-begins : (way : Declaration) (name : List ℕ) (w : Walk) (o : Option Scope) → (outcome (declared_by turns answers way name w o) answers).after.values.begin ≡ w.values.begin
  declared-begins way name w None = refl
  declared-begins way name w (Some s) =
      let e = entity_of w.written way name s.path in
      let query = under w.own (standing (turns_at turns w) s e) in
      ap (λ (v : Visit). v.after.values.begin) (outcome-and_then query (λ there. Done (declared_visit w way s e there)) answers)

  -- no expression begins or ends
  pub single-begins : (site : Item) (w : Walk) → is_single site ≡ true → (visited turns answers site w).after.values.begin ≡ w.values.begin
  unfolding visit
  single-begins (item.Declares way name) w single = declared-begins way name w (first w.cursor)
  single-begins (item.Uses way name) w single = any-begins turns answers way name w
  single-begins item.ValueBegins w single = cc
  single-begins (item.ValueEnds way e) w single = cc
  single-begins item.ScopeEnds w single = end-begins w (first w.cursor)
  single-begins other w single = refl

  -- ---- it comes to the same whole, but for an expression

  pub single-same : (site : Item) (w : Walk) → is_single site ≡ true → whole_visit turns answers site w ≡ visited turns answers site w
  unfolding visit
  single-same (item.ValueEnds way e) w single = cc
  single-same other w single = refl

-- ---- without fault it is the same whole

-- each of the two has a fault, or none has one and both go on alike
abbrev IsEven : Visit → Visit → Type 0
IsEven v u = ((v.faults ≡ [] → (u.faults ≡ []) × (u.after ≡ v.after)) × (u.faults ≡ [] → (v.faults ≡ []) × (u.after ≡ v.after)))

even-same : (v u : Visit) → u ≡ v → IsEven v u
even-same v u h = (λ none. (ap (λ (x : Visit). x.faults) h ∙ none, ap (λ (x : Visit). x.after) h), λ none. (ap (λ (x : Visit). x.faults) (sym h) ∙ none, ap (λ (x : Visit). x.after) h))

repeated-even : (w : Walk) (b : Bool) (n m : ℕ) (after : Walk)
    → IsEven (record { faults = cond b (fault_at n RepeatedLabel ∷ []) []; after = after }) (record { faults = cond b (fault_at m RepeatedLabel ∷ []) []; after = after })
repeated-even w true n m after = (λ none. (cc, cc), λ none. (cc, cc))
repeated-even w false n m after = (λ none. (refl, refl), λ none. (refl, refl))

value-even : (w : Walk) (way : Purpose) (x : Evaluation) → IsEven (value_visit w way (first_of x)) (record { faults = evaluation_faults w way x; after = (value_visit w way (first_of x)).after })
value-even w way (Valued v) = repeated-even w (is_repeated w way v) (begin_of w) (first_token w) (value_visit w way (comes.Value v)).after
value-even w way (Faulty []) = (λ none. (refl, refl), λ none. (refl, refl))
value-even w way (Faulty (f ∷ fs)) = (λ none. (cc, cc), λ none. (cc, cc))

module _ (turns : ℕ) (answers : Key → Option Answer) where
  site-even : (site : Item) (w : Walk) → IsEven (visited turns answers site w) (whole_visit turns answers site w)
  unfolding visit
  site-even (item.Plain n) w = even-same (visited turns answers (item.Plain n) w) (visited turns answers (item.Plain n) w) refl
  site-even (item.Declares way name) w = even-same (visited turns answers (item.Declares way name) w) (visited turns answers (item.Declares way name) w) refl
  site-even (item.Uses way name) w = even-same (visited turns answers (item.Uses way name) w) (visited turns answers (item.Uses way name) w) refl
  site-even (item.Says purpose text) w = even-same (visited turns answers (item.Says purpose text) w) (visited turns answers (item.Says purpose text) w) refl
  site-even item.ValueBegins w = even-same (visited turns answers item.ValueBegins w) (visited turns answers item.ValueBegins w) refl
  site-even (item.ValueEnds way e) w = value-even w way (evaluation_at w way e)
  site-even (item.ScopeBegins way name) w = even-same (visited turns answers (item.ScopeBegins way name) w) (visited turns answers (item.ScopeBegins way name) w) refl
  site-even item.ScopeEnds w = even-same (visited turns answers item.ScopeEnds w) (visited turns answers item.ScopeEnds w) refl
  site-even (item.TypeEnds shape) w = even-same (visited turns answers (item.TypeEnds shape) w) (visited turns answers (item.TypeEnds shape) w) refl
  site-even item.ArrayEnds w = even-same (visited turns answers item.ArrayEnds w) (visited turns answers item.ArrayEnds w) refl
  site-even (item.Enumerates names) w = even-same (visited turns answers (item.Enumerates names) w) (visited turns answers (item.Enumerates names) w) refl
  site-even (item.Identifies text) w = even-same (visited turns answers (item.Identifies text) w) (visited turns answers (item.Identifies text) w) refl
  site-even (item.Switches discrete) w = even-same (visited turns answers (item.Switches discrete) w) (visited turns answers (item.Switches discrete) w) refl
  site-even item.Default w = even-same (visited turns answers item.Default w) (visited turns answers item.Default w) refl
  site-even item.GivesBack w = even-same (visited turns answers item.GivesBack w) (visited turns answers item.GivesBack w) refl

  both-none : (fs gs : List Fault) → fs ≡ [] → gs ≡ [] → fs ++ gs ≡ []
  both-none [] gs h k = k
  both-none (f ∷ fs) gs h k = cc

  -- no fault of the walk's own, no fault at all
  pub none-whole : (sites : List Item) (w : Walk) → visit_faults turns answers sites w ≡ [] → site_faults turns answers sites w ≡ []
  none-whole [] w h = refl
  none-whole (site ∷ sites) w h =
      let v = visited turns answers site w in
      let u = whole_visit turns answers site w in
      let parts = none-append v.faults (visit_faults turns answers sites v.after) h in
      let even = (site-even site w).0 parts.0 in
      both-none u.faults (site_faults turns answers sites u.after) even.0 (ap (site_faults turns answers sites) even.1 ∙ none-whole sites v.after parts.1)

  pub whole-none : (sites : List Item) (w : Walk) → site_faults turns answers sites w ≡ [] → visit_faults turns answers sites w ≡ []
  whole-none [] w h = refl
  whole-none (site ∷ sites) w h =
      let v = visited turns answers site w in
      let u = whole_visit turns answers site w in
      let parts = none-append u.faults (site_faults turns answers sites u.after) h in
      let even = (site-even site w).1 parts.0 in
      both-none v.faults (visit_faults turns answers sites v.after) even.0 (whole-none sites v.after (ap (site_faults turns answers sites) (sym even.1) ∙ parts.1))
