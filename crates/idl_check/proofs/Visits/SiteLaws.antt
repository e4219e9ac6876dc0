-- What comes of a site: its faults stand where it speaks, and no expression begins behind the next token.
use Rattle.std.proofs.Common.{◌≡◌, ◌∙◌, ℕ, ◌+◌, ◌<◌, ◌≤◌, min, Bool, true, false, cond, List, [], ◌∷◌, length, Option, Some, None, Result, Ok, Err, refl, sym, ap, subst, arith}
use Rattle.std.proofs.lemmas.List.Elements.{All-append, All-cons, All-nil, All-weaker}
use Rattle.std.specs.List.{list_any}
use Rattle.std.specs.Prelude.{All, drop, take}
use Rattle.idl_check.specs.tables.Codes.{Table, codes_in, faults_by}
use Rattle.idl_check.specs.tables.Declaring.{declared_table, entity_of, standing}
use Rattle.idl_check.specs.walk.Judging.{spoken_from, spoken_till, walked}
use Rattle.idl_check.specs.told.Labels.{is_idle, no_labels, with_default}
use Rattle.idl_check.specs.told.Bodies.{begun_body, with_body_label, with_text}
use Rattle.idl_tree.specs.NameParts.{last_at, part_at}
use Rattle.idl_check.specs.told.Types.{looked_through, target_in, written_as}
use Rattle.idl_check.specs.tables.Using.{name_code, used_table, values_after}
use Rattle.idl_check.specs.told.Values.{Values, begun_at, code_of, with_value}
use Rattle.idl_check.specs.walk.Walk.{turns_at, Visit, Walk, begin_of, declared_visit, ended_array, ended_scope, faulty_if, is_repeated, outcome_at, passed, quiet, token_of, unfound_visit, used, used_after, used_visit, value_visit, valued_after, visit, with_labels, with_scope, plain_name, spoken_of, spoken_visit, unspoken_visit}
use Rattle.idl_check.specs.declared.tables.standing.Standing.{Standing}
use Rattle.idl_fault.specs.declared.code.Code.{Code}
use Rattle.idl_fault.specs.declared.code.Code.TheVariants.{BadOneway, RepeatedLabel, UselessDefault, BadIdText}
use Rattle.idl_memo.specs.Query.{Done, and_then, outcome}
use Rattle.idl_memo.proofs.QueryLaws.{outcome-and_then}
use Rattle.idl_entity.specs.DataType.{plain_type}
use Rattle.idl_entity.specs.declared.data_type.Element.TheVariants.{Constants}
use Rattle.idl_env.specs.Facts.{over}
use Rattle.idl_entity.specs.Kind.{kind_eq}
use Rattle.idl_scope.specs.Lookup.{Lookup, by_result, denoted, under}
use Rattle.idl_scope.proofs.FactsLaws.{outcome-under}
use Rattle.idl_env.specs.declared.answering.answer.Answer.{Answer}
use Rattle.idl_env.specs.declared.answering.answer.Scope.{Scope}
use Rattle.idl_entity.specs.declared.entity.Entity.{Entity}
use Rattle.idl_scope.specs.declared.fault.NameFault.{NameFault}
use Rattle.idl_scope.specs.declared.fault.NameFault.TheVariants.{At, Memory}
use Rattle.idl_scope.specs.declared.found.Found.{Found}
use Rattle.idl_env.specs.declared.keys.key.Key.{Key}
use Rattle.idl_entity.specs.declared.kind.Kind.TheVariants.{Union}
use Rattle.idl_parts.specs.Item.{Item, item_length, items_length}
use Rattle.idl_parts.specs.Part.{Part as item}
use Rattle.idl_parts.specs.declared.part.Declaration.{Declaration}
use Rattle.idl_parts.specs.declared.part.Purpose.{Purpose}
use Rattle.idl_parts.specs.declared.part.Purpose.TheVariants as purpose
use Rattle.idl_parts.specs.declared.part.Use.{Use}
use Rattle.idl_parts.specs.declared.part.Use.TheVariants.{AsBase}
use Rattle.idl_tree.specs.declared.expression.Expression.{Expression}
use Rattle.idl_tree.specs.declared.name.ScopedName.{ScopedName}
use Rattle.idl_unit.specs.TokenRules.{fault_at, first}
use Rattle.idl_unit.specs.declared.fault.Fault.{Fault}
use Rattle.idl_value.specs.ConstantType.{target_of}
use Rattle.idl_value.specs.declared.outcome.Outcome.{Outcome}
use Rattle.idl_value.specs.declared.outcome.Outcome.TheVariants as comes
use Rattle.idl_value.specs.declared.value.Value.{Value}
use Rattle.idl_tree.proofs.NameLemmas.{behind_name}
use Rattle.idl_check.proofs.PartLemmas.{IsUpTo, denoted-IsUpTo}
use Rattle.idl_check.proofs.Faults.TableLaws.{all-if}
use Rattle.idl_check.proofs.Faults.FaultOrder.{all-at}
use Rattle.idl_check.proofs.Faults.VisitFaults.{visit_faults}
use Rattle.idl_parts.specs.declared.part.TextPurpose.{TextPurpose}
use Rattle.idl_check.specs.ids.Remarks.{is_bad_text, purpose_of, remark}
use Rattle.idl_check.specs.ids.About.{Said}
use Rattle.idl_value.specs.Evaluation.{joined}
use Rattle.idl_check.proofs.Visits.RemarkLaws.{IsRemark, StandsSo, remark-is}

-- ---- where an expression begins

-- the first token of an expression that has begun, before a token
abbrev pub begin_before : Option ℕ → ℕ → ℕ
begin_before o at = elim o [ None ↦ at | Some begin ↦ min begin at ]

pub begin-before : (o : Option ℕ) (at : ℕ) → begin_before o at ≤ at
begin-before None at = omega arith
begin-before (Some begin) at = omega arith

begin-later : (o : Option ℕ) (m n : ℕ) → m ≤ n → begin_before o m ≤ begin_before o n
begin-later None m n le = le
begin-later (Some begin) m n le = omega arith

-- it is not behind the next token
pub begin-at : (w : Walk) → begin_of w ≤ w.at
begin-at w = begin-before w.values.begin w.at

-- further on, inside the same expression
begin-kept : (w u : Walk) → u.values.begin ≡ w.values.begin → w.at ≤ u.at → begin_of w ≤ begin_of u
begin-kept w u same le = subst (λ o. begin_of w ≤ begin_before o u.at) (sym same) (begin-later w.values.begin w.at u.at le)

-- and behind its end
begin-over : (w u : Walk) → u.values.begin ≡ None → w.at ≤ u.at → begin_of w ≤ begin_of u
begin-over w u none le =
    subst (λ o. begin_of w ≤ begin_before o u.at) (sym none) (let here : begin_of w ≤ w.at = begin-at w in omega arith)

-- ---- what holds of the faults of a site

-- a fault at one of these tokens
abbrev pub Within : ℕ → ℕ → Fault → Type 0
Within from till f = (from ≤ f.index) × (f.index < till)

-- at this token or a later one
abbrev pub IsFrom : ℕ → Fault → Type 0
IsFrom from f = from ≤ f.index

-- what comes of a site after this walk: it passes the site's tokens, and its faults stand where the site speaks
pub record IsPlaced (site : Item) (w : Walk) (v : Visit) : Type 0 where
  pub passes : v.after.at ≡ w.at + item_length site
  pub begins : begin_of w ≤ begin_of v.after
  pub within : All (Within (spoken_from site w) (spoken_till site w)) v.faults
  pub keeps : v.after.fault ≡ w.fault

-- a site speaks of nothing before the expression around it
pub spoken-begin : (site : Item) (w : Walk) → begin_of w ≤ spoken_from site w
spoken-begin (item.ValueEnds way expression) w = omega arith
spoken-begin other w = begin-at w

-- it speaks of the next token, and of each of its own
till-next : (site : Item) (w : Walk) → w.at < spoken_till site w
till-next site w = omega arith

till-own : (site : Item) (w : Walk) (n : ℕ) → n < w.at + item_length site → n < spoken_till site w
till-own site w n lt = omega arith

-- sites of which the last has a token
abbrev pub EndsInTokens : List Item → Type 0
EndsInTokens [] = Unit {0}
EndsInTokens (site ∷ sites) = (1 ≤ items_length (site ∷ sites)) × EndsInTokens sites

-- of none behind that one does the first of them speak
till-ends : (site : Item) (sites : List Item) (w : Walk) → 1 ≤ items_length (site ∷ sites) → spoken_till site w ≤ w.at + items_length (site ∷ sites)
till-ends site sites w some = omega arith

none-within : (site : Item) (w : Walk) → All (Within (spoken_from site w) (spoken_till site w)) []
none-within site w = All-nil (Within (spoken_from site w) (spoken_till site w))

one-within : (from till n : ℕ) (c : Code) → from ≤ n → n < till → All (Within from till) (fault_at n c ∷ [])
one-within from till n c le lt = All-cons (Within from till) (fault_at n c) [] (le, lt) (All-nil (Within from till))

if-within : (b : Bool) (from till n : ℕ) (c : Code) → from ≤ n → n < till → All (Within from till) (cond b (fault_at n c ∷ []) [])
if-within b from till n c le lt = all-if (Within from till) b (fault_at n c) [] (le, lt) (All-nil (Within from till))

table-within : (from till n : ℕ) (table : Table) → from ≤ n → n < till → All (Within from till) (faults_by n table)
table-within from till n table le lt = all-at (Within from till) n (λ c. (le, lt)) (codes_in table)

-- ---- used names

pub begin-values : (way : Use) (v : Option Value) (values : Values) → (values_after way v values).begin ≡ values.begin
begin-values (AsBase is_local) v values = refl
begin-values other v values = refl

used-placed : (w : Walk) (way : Use) (name : ScopedName) (found : Found) (behind : Entity) → IsPlaced (item.Uses way name) w (used_visit w way name found behind)
used-placed w way name found behind =
    let past : last_at w.at name + 1 ≡ w.at + item_length (item.Uses way name) = behind_name w.at name in
    record {
      passes = past;
      begins = begin-kept w (used_after w way name found behind) (begin-values way found.entity.value w.values) (omega arith);
      within =
          table-within w.at (spoken_till (item.Uses way name) w) (last_at w.at name) (used_table way w.bases found.entity behind) (omega arith)
          (till-own (item.Uses way name) w (last_at w.at name) (omega (arith, past)));
      keeps = refl;
    }

unfound-placed : (w : Walk) (way : Use) (name : ScopedName) (fault : NameFault) → IsUpTo {A = Found} (length name.rest) (Err fault) → IsPlaced (item.Uses way name) w (unfound_visit w way name fault)
unfound-placed w way name (At why part) up =
    let past : last_at w.at name + 1 ≡ w.at + item_length (item.Uses way name) = behind_name w.at name in
    record {
      passes = past;
      begins = begin-kept w (unfound_visit w way name (At why part)).after (begin-values way None w.values) (omega arith);
      within = one-within w.at (spoken_till (item.Uses way name) w) (part_at w.at name part) (name_code why) (omega arith) (till-own (item.Uses way name) w (part_at w.at name part) (omega (arith, up, past)));
      keeps = refl;
    }
unfound-placed w way name Memory up = absurd up

-- names of which something is said

spoken-placed : (w : Walk) (way : Use) (name : ScopedName) (found : Found) (s : Said) → IsRemark (last_at w.at name) s → IsPlaced (item.Uses way name) w (spoken_visit w name found s)
spoken-placed w way name found s said =
    let past : last_at w.at name + 1 ≡ w.at + item_length (item.Uses way name) = behind_name w.at name in
    record {
      passes = past;
      begins = begin-kept w (spoken_visit w name found s).after refl (omega arith);
      within =
          All-weaker (StandsSo (last_at w.at name)) (Within w.at (spoken_till (item.Uses way name) w))
          (λ f h. (omega (arith, h), till-own (item.Uses way name) w f.index (omega (arith, past, h)))) s.faults said.faults;
      keeps = refl;
    }

unspoken-placed : (w : Walk) (way : Use) (name : ScopedName) (fault : NameFault) → IsUpTo {A = Found} (length name.rest) (Err fault) → IsPlaced (item.Uses way name) w (unspoken_visit w name fault)
unspoken-placed w way name (At why part) up =
    let past : last_at w.at name + 1 ≡ w.at + item_length (item.Uses way name) = behind_name w.at name in
    record {
      passes = past;
      begins = begin-kept w (unspoken_visit w name (At why part)).after refl (omega arith);
      within = one-within w.at (spoken_till (item.Uses way name) w) (part_at w.at name part) (name_code why) (omega arith) (till-own (item.Uses way name) w (part_at w.at name part) (omega (arith, up, past)));
      keeps = refl;
    }
unspoken-placed w way name Memory up = absurd up

-- ---- other sites

quiet-placed : (site : Item) (w u : Walk) → u.at ≡ w.at + item_length site → u.values.begin ≡ w.values.begin → u.fault ≡ w.fault → IsPlaced site w (quiet u)
quiet-placed site w u passes same keeps =
    record { passes = passes; begins = begin-kept w u same (omega (arith, passes)); within = none-within site w; keeps = keeps }

-- with a fault at the next token by a test
faulty-placed : (site : Item) (w u : Walk) (b : Bool) (c : Code) → spoken_from site w ≤ w.at → u.at ≡ w.at + item_length site → u.values.begin ≡ w.values.begin → u.fault ≡ w.fault
    → IsPlaced site w (faulty_if b c w u)
faulty-placed site w u b c from passes same keeps = record {
  passes = passes;
  begins = begin-kept w u same (omega (arith, passes));
  within = if-within b (spoken_from site w) (spoken_till site w) w.at c from (till-next site w);
  keeps = keeps;
}

declared-placed : (way : Declaration) (name : List ℕ) (w : Walk) (s : Scope) (e : Entity) (there : Standing) → IsPlaced (item.Declares way name) w (declared_visit w way s e there)
declared-placed way name w s e there =
    let u = (declared_visit w way s e there).after in
    record {
      passes = refl;
      begins = begin-kept w u refl (omega arith);
      within = table-within w.at (spoken_till (item.Declares way name) w) w.at (declared_table s there e) (omega arith) (till-next (item.Declares way name) w);
      keeps = refl;
    }

-- what is done at the end of the innermost of these scopes, if there is one, and of a union or not
abbrev pub union_visit : Walk → Bool → Visit
union_visit w b =
    cond b
    (faulty_if (list_any is_idle (take 1 w.unions)) UselessDefault w (record (ended_scope w) { unions = drop 1 w.unions }))
    (quiet (ended_scope w))

abbrev pub end_visit : Walk → Option Scope → Visit
end_visit w o = elim o [ None ↦ quiet w | Some s ↦ union_visit w (kind_eq s.kind Union) ]

union-placed : (w : Walk) (b : Bool) → IsPlaced item.ScopeEnds w (union_visit w b)
union-placed w true =
    faulty-placed item.ScopeEnds w (record (ended_scope w) { unions = drop 1 w.unions }) (list_any is_idle (take 1 w.unions)) UselessDefault (omega arith) (omega arith) refl refl
union-placed w false = quiet-placed item.ScopeEnds w (ended_scope w) (omega arith) refl refl

end-placed : (w : Walk) (o : Option Scope) → IsPlaced item.ScopeEnds w (end_visit w o)
end-placed w None = quiet-placed item.ScopeEnds w w (omega arith) refl refl
end-placed w (Some s) = union-placed w (kind_eq s.kind Union)

-- ---- the ends of expressions

begin-told : (way : Purpose) (v : Value) (values : Values) → (with_value way v values).begin ≡ None
begin-told purpose.Bound v values = refl
begin-told other v values = refl

valued-at : (w : Walk) (way : Purpose) (v : Value) → (valued_after w way v).at ≡ w.at
valued-at w purpose.Bound v = refl
valued-at w other v = refl

valued-keeps : (w : Walk) (way : Purpose) (v : Value) → (valued_after w way v).fault ≡ w.fault
valued-keeps w purpose.Bound v = refl
valued-keeps w other v = refl

-- a token of an expression stands in it or is the next one
token-from : (w : Walk) (n : ℕ) → begin_of w ≤ token_of w n
token-from w n = omega (arith, begin-at w)

value-placed : (w : Walk) (way : Purpose) (e : Expression) (o : Outcome) → IsPlaced (item.ValueEnds way e) w (value_visit w way o)
value-placed w way e (comes.Value v) =
    let u = (value_visit w way (comes.Value v)).after in
    record {
      passes = omega (arith, valued-at w way v);
      begins = begin-over w u (begin-told way v w.values) (omega (arith, valued-at w way v));
      within = if-within (is_repeated w way v) (begin_of w) (spoken_till (item.ValueEnds way e) w) (begin_of w) RepeatedLabel (omega arith) (omega (arith, begin-at w));
      keeps = valued-keeps w way v;
    }
value-placed w way e (comes.Fault f) =
    let u = (value_visit w way (comes.Fault f)).after in
    record {
      passes = omega arith;
      begins = begin-over w u refl (omega arith);
      within =
          one-within (begin_of w) (spoken_till (item.ValueEnds way e) w) (token_of w f.token) (code_of f.code) (token-from w f.token)
          (omega arith);
      keeps = refl;
    }
value-placed w way e comes.Told =
    let u = (value_visit w way comes.Told).after in
    record { passes = omega arith; begins = begin-over w u refl (omega arith); within = none-within (item.ValueEnds way e) w; keeps = refl }

module _ (turns : ℕ) (answers : Key → Option Answer) where
  -- what comes of a site
  abbrev pub visited : Item → Walk → Visit
  visited site w = outcome (visit turns site w) answers

  -- ---- what is asked at names

  -- what is declared in the innermost of these scopes, if there is one
  abbrev pub declared_by : Declaration → List ℕ → Walk → Option Scope → Lookup Visit
  declared_by way name w o =
      elim o [
        | None ↦ Done (quiet (passed 1 w))
        | Some s ↦ and_then (under w.own (standing (turns_at turns w) s (entity_of w.written way name s.path)))
            (λ there. Done (declared_visit w way s (entity_of w.written way name s.path) there))
      ]

  -- what is used, by what it denotes
  abbrev pub used_by : Use → ScopedName → Walk → Result Found NameFault → Lookup Visit
  used_by way name w r =
      by_result r
      (λ found. and_then (under w.own (looked_through (turns_at turns w) way found.entity)) (λ behind. Done (used_visit w way name found behind)))
      (λ fault. Done (unfound_visit w way name fault))

  -- the same of what something is said of
  abbrev pub spoken_by : TextPurpose → ScopedName → Walk → Result Found NameFault → Lookup Visit
  spoken_by p name w r =
      by_result r
      (λ found. and_then (under w.own (remark p (last_at w.at name) w.text found.entity)) (λ s. Done (spoken_visit w name found s)))
      (λ fault. Done (unspoken_visit w name fault))

  -- a name denotes what it does, or has a fault at one of its parts
  pub denoted-up : (name : ScopedName) (w : Walk) → IsUpTo (length name.rest) (outcome (under w.own (denoted (turns_at turns w) w.cursor name)) answers)
  denoted-up name w =
      subst (IsUpTo (length name.rest)) (sym (outcome-under w.own answers (denoted (turns_at turns w) w.cursor name))) (denoted-IsUpTo (turns_at turns w) (λ k. over w.own k (answers k)) w.cursor name)

  -- ---- the faults of a site are placed

  declared-by-placed : (way : Declaration) (name : List ℕ) (w : Walk) (o : Option Scope) → IsPlaced (item.Declares way name) w (outcome (declared_by way name w o) answers)
  declared-by-placed way name w None = quiet-placed (item.Declares way name) w (passed 1 w) refl refl refl
  declared-by-placed way name w (Some s) =
      let e = entity_of w.written way name s.path in
      let query = under w.own (standing (turns_at turns w) s e) in
      subst (IsPlaced (item.Declares way name) w) (sym (outcome-and_then query (λ there. Done (declared_visit w way s e there)) answers)) (declared-placed way name w s e (outcome query answers))

  used-by-placed : (way : Use) (name : ScopedName) (w : Walk) (r : Result Found NameFault) → IsUpTo (length name.rest) r → IsPlaced (item.Uses way name) w (outcome (used_by way name w r) answers)
  used-by-placed way name w (Ok found) up =
      let query = under w.own (looked_through (turns_at turns w) way found.entity) in
      subst (IsPlaced (item.Uses way name) w) (sym (outcome-and_then query (λ behind. Done (used_visit w way name found behind)) answers)) (used-placed w way name found (outcome query answers))
  used-by-placed way name w (Err fault) up = unfound-placed w way name fault up

  pub plain-placed : (way : Use) (name : ScopedName) (w : Walk) → IsPlaced (item.Uses way name) w (outcome (used turns way name w) answers)
  unfolding used
  plain-placed way name w =
      let query = under w.own (denoted (turns_at turns w) w.cursor name) in
      subst (IsPlaced (item.Uses way name) w) (sym (outcome-and_then query (used_by way name w) answers)) (used-by-placed way name w (outcome query answers) (denoted-up name w))

  -- no expression begins or ends there
  used-by-begins : (way : Use) (name : ScopedName) (w : Walk) (r : Result Found NameFault) → IsUpTo (length name.rest) r → (outcome (used_by way name w r) answers).after.values.begin ≡ w.values.begin
  used-by-begins way name w (Ok found) up =
      ap (λ (v : Visit). v.after.values.begin) (outcome-and_then (under w.own (looked_through (turns_at turns w) way found.entity)) (λ behind. Done (used_visit w way name found behind)) answers)
      ∙ begin-values way found.entity.value w.values
  used-by-begins way name w (Err (At why part)) up = begin-values way None w.values
  used-by-begins way name w (Err Memory) up = absurd up

  pub used-begins : (way : Use) (name : ScopedName) (w : Walk) → (outcome (used turns way name w) answers).after.values.begin ≡ w.values.begin
  unfolding used
  used-begins way name w =
      let query = under w.own (denoted (turns_at turns w) w.cursor name) in
      ap (λ (v : Visit). v.after.values.begin) (outcome-and_then query (used_by way name w) answers) ∙ used-by-begins way name w (outcome query answers) (denoted-up name w)

  spoken-by-placed : (way : Use) (p : TextPurpose) (name : ScopedName) (w : Walk) (r : Result Found NameFault) → IsUpTo (length name.rest) r → IsPlaced (item.Uses way name) w (outcome (spoken_by p name w r) answers)
  spoken-by-placed way p name w (Ok found) up =
      let query = under w.own (remark p (last_at w.at name) w.text found.entity) in
      subst (IsPlaced (item.Uses way name) w) (sym (outcome-and_then query (λ s. Done (spoken_visit w name found s)) answers))
      (spoken-placed w way name found (outcome query answers) (remark-is w.own answers p (last_at w.at name) w.text found.entity))
  spoken-by-placed way p name w (Err fault) up = unspoken-placed w way name fault up

  spoken-name-placed : (way : Use) (p : TextPurpose) (name : ScopedName) (w : Walk) → IsPlaced (item.Uses way name) w (outcome (spoken_of turns p name w) answers)
  unfolding spoken_of
  spoken-name-placed way p name w =
      let query = under w.own (denoted (turns_at turns w) w.cursor name) in
      subst (IsPlaced (item.Uses way name) w) (sym (outcome-and_then query (spoken_by p name w) answers)) (spoken-by-placed way p name w (outcome query answers) (denoted-up name w))

  pub any-placed : (way : Use) (name : ScopedName) (w : Walk) → IsPlaced (item.Uses way name) w (outcome (plain_name turns way name w) answers)
  any-placed way name w = by_purpose (purpose_of way)
    where
      by_purpose : (o : Option TextPurpose) → IsPlaced (item.Uses way name) w (outcome (elim o as (λ _. Lookup Visit) [ None ↦ used turns way name w | Some p ↦ spoken_of turns p name w ]) answers)
      by_purpose (Some p) = spoken-name-placed way p name w
      by_purpose None = plain-placed way name w

  spoken-begins : (p : TextPurpose) (name : ScopedName) (w : Walk) → (outcome (spoken_of turns p name w) answers).after.values.begin ≡ w.values.begin
  unfolding spoken_of
  spoken-begins p name w =
      let query = under w.own (denoted (turns_at turns w) w.cursor name) in
      ap (λ (v : Visit). v.after.values.begin) (outcome-and_then query (spoken_by p name w) answers) ∙ by_what (outcome query answers)
    where
      by_what : (r : Result Found NameFault) → (outcome (spoken_by p name w r) answers).after.values.begin ≡ w.values.begin
      by_what (Ok found) =
          ap (λ (v : Visit). v.after.values.begin) (outcome-and_then (under w.own (remark p (last_at w.at name) w.text found.entity)) (λ s. Done (spoken_visit w name found s)) answers)
      by_what (Err fault) = refl

  pub any-begins : (way : Use) (name : ScopedName) (w : Walk) → (outcome (plain_name turns way name w) answers).after.values.begin ≡ w.values.begin
  any-begins way name w = by_purpose (purpose_of way)
    where
      by_purpose : (o : Option TextPurpose) → (outcome (elim o as (λ _. Lookup Visit) [ None ↦ used turns way name w | Some p ↦ spoken_of turns p name w ]) answers).after.values.begin ≡ w.values.begin
      by_purpose (Some p) = spoken-begins p name w
      by_purpose None = used-begins way name w

  pub visit-placed : (site : Item) (w : Walk) → IsPlaced site w (visited site w)
  unfolding visit
  visit-placed (item.Plain n) w = quiet-placed (item.Plain n) w (passed n w) refl refl refl
  visit-placed (item.Declares way name) w = declared-by-placed way name w (first w.cursor)
  visit-placed (item.Uses way name) w = any-placed way name w
  visit-placed (item.Says purpose text) w =
      faulty-placed (item.Says purpose text) w (record (passed (item_length (item.Says purpose text)) w) { clauses = with_text purpose text w.clauses }) (is_bad_text purpose (joined text)) BadIdText (omega arith) refl refl refl
  visit-placed item.ValueBegins w =
      let u : Walk = record w { values = begun_at w.at w.values } in
      record { passes = omega arith; begins = omega (arith, begin-at w); within = none-within item.ValueBegins w; keeps = refl }
  visit-placed (item.ValueEnds way e) w = value-placed w way e (outcome_at w way e)
  visit-placed (item.ScopeBegins way name) w = quiet-placed (item.ScopeBegins way name) w (record w { cursor = with_scope way name w.cursor; bodies = begun_body w.last w.written.data_type ∷ w.bodies }) (omega arith) refl refl
  visit-placed item.ScopeEnds w = end-placed w (first w.cursor)
  visit-placed (item.TypeEnds shape) w =
      let t = written_as shape w.values.bound w.written.data_type in
      quiet-placed (item.TypeEnds shape) w (record w { written = record w.written { data_type = t; constants = target_in t } }) (omega arith) refl refl
  visit-placed item.ArrayEnds w = quiet-placed item.ArrayEnds w (ended_array w) (omega arith) refl refl
  visit-placed (item.Enumerates names) w =
      quiet-placed (item.Enumerates names) w (record w { written = record w.written { enumerators = names.first ∷ names.rest } }) (omega arith) refl refl
  visit-placed (item.Identifies text) w = quiet-placed (item.Identifies text) w (record w { text = joined text }) (omega arith) refl refl
  visit-placed (item.Switches discrete) w =
      quiet-placed (item.Switches discrete) w (record w { written = record w.written { data_type = Some (plain_type (Constants (target_of discrete))) }; unions = no_labels (Some (target_of discrete)) 0 ∷ w.unions }) (omega arith) refl refl
  visit-placed item.Default w =
      faulty-placed item.Default w (record w { unions = with_labels with_default w.unions; bodies = with_body_label None w.bodies }) (list_any (λ l. l.has_default) (take 1 w.unions)) RepeatedLabel (omega arith) (omega arith) refl
      refl
  visit-placed item.GivesBack w = record {
    passes = omega arith;
    begins = omega arith;
    within = one-within w.at (spoken_till item.GivesBack w) w.at BadOneway (omega arith) (till-next item.GivesBack w);
    keeps = refl;
  }

  -- its faults stand where it speaks
  pub faults-within : (site : Item) (w : Walk) → All (λ f. (spoken_from site w ≤ f.index) × (f.index < spoken_till site w)) (visited site w).faults
  faults-within site w = (visit-placed site w).within

  -- a walk over sites counts their tokens
  pub walked-at : (sites : List Item) (w : Walk) → (walked turns answers sites w).at ≡ w.at + items_length sites
  walked-at [] w = omega arith
  walked-at (site ∷ sites) w =
      let p : IsPlaced site w (visited site w) = visit-placed site w in
      omega (arith, p.passes, walked-at sites (visited site w).after)

  -- ---- all sites

  -- none stands before the expression in which a walk is
  pub faults-from : (sites : List Item) (w : Walk) → All (IsFrom (begin_of w)) (visit_faults turns answers sites w)
  faults-from [] w = All-nil (IsFrom (begin_of w))
  faults-from (site ∷ sites) w =
      let v = visited site w in
      let p : IsPlaced site w v = visit-placed site w in
      All-append (IsFrom (begin_of w)) v.faults (visit_faults turns answers sites v.after)
      (All-weaker (Within (spoken_from site w) (spoken_till site w)) (IsFrom (begin_of w)) (λ f h. omega (arith, h.0, spoken-begin site w)) v.faults p.within)
      (All-weaker (IsFrom (begin_of v.after)) (IsFrom (begin_of w)) (λ f h. omega (arith, h, p.begins)) (visit_faults turns answers sites v.after) (faults-from sites v.after))

  -- where the last of them has a token, each fault stands at a token of theirs
  pub faults-till : (sites : List Item) (w : Walk) → EndsInTokens sites → All (λ f. f.index < w.at + items_length sites) (visit_faults turns answers sites w)
  faults-till [] w ends = All-nil (λ f. f.index < w.at + 0)
  faults-till (site ∷ sites) w ends =
      let v = visited site w in
      let p : IsPlaced site w v = visit-placed site w in
      let P : Fault → Type 0 = λ f. f.index < w.at + items_length (site ∷ sites) in
      let till : spoken_till site w ≤ w.at + items_length (site ∷ sites) = till-ends site sites w ends.0 in
      All-append P v.faults (visit_faults turns answers sites v.after)
      (All-weaker (Within (spoken_from site w) (spoken_till site w)) P (λ f h. omega (arith, h.1, till)) v.faults p.within)
      (All-weaker (λ f. f.index < v.after.at + items_length sites) P (λ f h. omega (arith, h, p.passes)) (visit_faults turns answers sites v.after) (faults-till sites v.after ends.1))
