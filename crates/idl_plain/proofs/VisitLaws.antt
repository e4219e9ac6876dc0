-- What comes of a site over answers is told without a question.
use Rattle.std.proofs.Common.{◌≡◌, ◌∙◌, ◌&&◌, ◌+◌, ◌++◌, [], ◌∷◌, Bool, Err, List, None, Ok, Option, Result, Some, ap, drop, false, fold, is_some, not, refl, sym, true, ℕ}
use Rattle.std.specs.List.{list_any}
use Rattle.std.specs.Prelude.{if◌then◌else◌}
use Rattle.idl_check.specs.ids.About.{Said, unnamed_faults}
use Rattle.idl_check.specs.ids.Identifying.{id_before, ids_of}
use Rattle.idl_check.specs.ids.Remarks.{purpose_of, remark}
use Rattle.idl_check.specs.tables.Declaring.{entity_of, inherited, is_any, standing}
use Rattle.idl_check.specs.tables.Rules.{has_id, is_useless_default, may_be_ahead}
use Rattle.idl_check.specs.tables.Using.{name_code, values_after}
use Rattle.idl_check.specs.told.Bodies.{array_of, told_innermost, with_array_member, with_array_type, with_innermost}
use Rattle.idl_check.specs.told.Types.{looked_through}
use Rattle.idl_check.specs.walk.AllFaults.{evaluation_faults, whole_visit}
use Rattle.idl_check.specs.walk.Judging.{walked}
use Rattle.idl_check.specs.walk.Walk.{Visit, Walk, declared_visit, ended_array, evaluation_at, faulty_if, passed, quiet, scope_visit, spoken_of, spoken_visit, turns_at, unfound_visit, unions_without, unspoken_visit, used, used_visit, value_visit, visit, with_array}
use Rattle.idl_check.specs.declared.ids.identifying.Ids.{Ids}
use Rattle.idl_check.specs.declared.tables.standing.Standing.{Standing}
use Rattle.idl_entity.specs.DataType.{plain_type}
use Rattle.idl_entity.specs.Entity.{is_operation}
use Rattle.idl_entity.specs.Kind.{inherits, kind_eq}
use Rattle.idl_entity.specs.Path.{name_of}
use Rattle.idl_entity.specs.declared.data_type.Element.TheVariants.{Named}
use Rattle.idl_entity.specs.declared.entity.Entity.{Entity}
use Rattle.idl_entity.specs.declared.identity.Identity.{Identity}
use Rattle.idl_entity.specs.declared.kind.Kind.TheVariants.{Union}
use Rattle.idl_env.specs.Facts.{entity_in, entity_key, prefix_in, with_addition}
use Rattle.idl_env.specs.declared.additions.addition.Addition.TheVariants.{Declares}
use Rattle.idl_env.specs.declared.answering.answer.Answer.{Answer}
use Rattle.idl_env.specs.declared.answering.answer.Scope.{Scope}
use Rattle.idl_env.specs.declared.keys.key.Key.{Key}
use Rattle.idl_env.specs.declared.keys.key.Key.TheVariants.{Introduced, Prefix}
use Rattle.idl_fault.specs.declared.code.Code.TheVariants as code
use Rattle.idl_lex.specs.kinds.Keywords.{folded}
use Rattle.idl_memo.proofs.QueryLaws.{outcome-and_then}
use Rattle.idl_memo.specs.Query.{Ask, Done, and_then, outcome}
use Rattle.idl_parts.specs.Item.{Item}
use Rattle.idl_parts.specs.Part.{Part as item}
use Rattle.idl_parts.specs.declared.part.Declaration.{Declaration}
use Rattle.idl_parts.specs.declared.part.Purpose.{Purpose}
use Rattle.idl_parts.specs.declared.part.Purpose.TheVariants as purpose
use Rattle.idl_parts.specs.declared.part.TextPurpose.{TextPurpose}
use Rattle.idl_parts.specs.declared.part.Use.{Use}
use Rattle.idl_parts.specs.declared.part.Use.TheVariants.{AsDiscriminator, AsOperand}
use Rattle.idl_plain.proofs.DeclaredLaws.{visit-told}
use Rattle.idl_plain.proofs.TableLaws.{uses-told}
use Rattle.idl_plain.specs.Declared.{declared_at}
use Rattle.idl_plain.specs.Used.{used_at}
use Rattle.idl_plain.specs.Visited.{array_left, named_at, scope_left, seen_at, spoken_at, standing_at, unfound, unfound_at, valued, visited}
use Rattle.idl_scope.proofs.FactsLaws.{outcome-under}
use Rattle.idl_scope.specs.Known.{known}
use Rattle.idl_scope.specs.Lookup.{Lookup, bases_of, by_result, denoted, is_nothing, reached, under}
use Rattle.idl_scope.specs.Meaning.{bases_at, own_at}
use Rattle.idl_scope.specs.declared.fault.NameFault.{NameFault}
use Rattle.idl_scope.specs.declared.fault.NameFault.TheVariants.{At, Memory}
use Rattle.idl_scope.specs.declared.found.Found.{Found}
use Rattle.idl_tree.specs.NameParts.{last_at, part_at}
use Rattle.idl_tree.specs.declared.name.ScopedName.{ScopedName}
use Rattle.idl_unit.specs.TokenRules.{fault_at, first}
use Rattle.idl_value.specs.Evaluation.{Evaluation, Faulty, Valued, first_of}

any-is : (found : List Entity) → is_any found ≡ not (is_nothing found)
any-is [] = refl
any-is (e ∷ found) = refl

-- ---- what stands at a declared name

module _ (turns : ℕ) (bank : Key → Option Answer) (s : Scope) (e : Entity) where
  abbrev n : List ℕ
  n = folded (name_of e.path)

  abbrev there : Option Entity
  there = own_at bank n s.path

  abbrev before : Option Entity → Option Identity
  before o = elim o [
    | None ↦ None
    | Some old ↦ if may_be_ahead old.kind then outcome (known old.path) bank else None
  ]

  before-by : (b : Bool) (old : Entity) → outcome (if b then known old.path else Done None) bank ≡ (if b then outcome (known old.path) bank else None)
  before-by true old = refl
  before-by false old = refl

  before-is : (o : Option Entity) → outcome (id_before o) bank ≡ before o
  before-is None = refl
  before-is (Some old) = before-by (may_be_ahead old.kind) old

  abbrev of : Option Identity → Ids
  of d = record { prefix = prefix_in (bank Prefix); before = d }

  ids-by : (b : Bool) (o : Option Entity)
      → outcome (if b then Ask Prefix (λ answer. and_then (id_before o) (λ d. Done (Some (record { prefix = prefix_in answer; before = d })))) else Done None) bank
      ≡ (if b then Some (of (before o)) else None)
  ids-by true o = outcome-and_then (id_before o) (λ d. Done (Some (of d))) bank ∙ ap (λ (d : Option Identity). Some (of d)) (before-is o)
  ids-by false o = refl

  abbrev inherits-found : Bool → List Entity
  inherits-found b = if b then outcome (reached turns n (bases_at bank s.path)) bank else []

  found-by : (b : Bool) → outcome (if b then Ask (entity_key s.path) (λ scope. reached turns n (bases_of (entity_in scope))) else Done []) bank ≡ inherits-found b
  found-by true = refl
  found-by false = refl

  abbrev st : List Entity → Bool → Option Ids → Standing
  st found reaches ids = record {
    there = there;
    is_used = is_some (bank (Introduced n s.path s.body));
    brings_operation = list_any is_operation found;
    is_reached = reaches;
    ids = ids;
  }

  pub standing-is : outcome (standing turns s e) bank ≡ standing_at turns bank s e
  standing-is =
      outcome-and_then (inherited turns s n) (λ found. and_then (ids_of there e) (λ ids. Done (st found (is_any found) ids))) bank
      ∙ outcome-and_then (ids_of there e) (λ ids. Done (st (outcome (inherited turns s n) bank) (is_any (outcome (inherited turns s n) bank)) ids)) bank
      ∙ (λ i. st (found-by (inherits s.kind) i) (is_any (found-by (inherits s.kind) i)) (ids-by (has_id e.kind) there i))
      ∙ (λ i. st (inherits-found (inherits s.kind)) (any-is (inherits-found (inherits s.kind)) i) (if has_id e.kind then Some (of (before there)) else None))

-- ---- names

-- what becomes of a walk behind a name that denotes nothing
unfound-by : (way : Use) (at : ℕ) (w : Walk)
    → record w { at = at; unions = unions_without way w.unions; values = values_after way None w.values } ≡ unfound way (record w { at = at })
unfound-by AsOperand at w = refl
unfound-by AsDiscriminator at w = refl
unfound-by way at w = refl

pub unfound-at : (w : Walk) (way : Use) (name : ScopedName) (fault : NameFault) → unfound_visit w way name fault ≡ unfound_at w way name fault
unfound-at w way name (At why part) = λ i. record {
  faults = fault_at (part_at w.at name part) (name_code why) ∷ [];
  after = unfound-by way (last_at w.at name + 1) w i;
}
unfound-at w way name Memory = refl

module _ (w : Walk) where
  abbrev ended_by : Option Scope → Walk
  ended_by o = record w {
    cursor = drop 1 w.cursor;
    begun = w.begun ++ told_innermost w.clauses w.bodies;
    written =
        elim o [
          | None ↦ w.written
          | Some s ↦ record w.written { data_type = Some (plain_type (Named s.path)) }
        ];
    bodies = drop 1 w.bodies;
  }

  abbrev ends : Walk → Option Scope → Visit
  ends after o = elim o [
    | None ↦ quiet w
    | Some s ↦
        if kind_eq s.kind Union
        then faulty_if (is_useless_default w.unions) code.UselessDefault w
        (record after { unions = drop 1 w.unions })
        else quiet after
  ]

  abbrev ended_with : Bool → Scope → Visit
  ended_with is_union s = faulty_if (is_union && is_useless_default w.unions) code.UselessDefault w (record w {
    cursor = drop 1 w.cursor;
    begun = w.begun ++ told_innermost w.clauses w.bodies;
    written = record w.written { data_type = Some (plain_type (Named s.path)) };
    bodies = drop 1 w.bodies;
    unions = if is_union then drop 1 w.unions else w.unions;
  })

  ended-with : (is_union : Bool) (s : Scope)
      → (if is_union then faulty_if (is_useless_default w.unions) code.UselessDefault w (record (ended_by (Some s)) { unions = drop 1 w.unions }) else quiet (ended_by (Some s)))
      ≡ ended_with is_union s
  ended-with true s = refl
  ended-with false s = refl

  ends-by : (o : Option Scope) → ends (ended_by o) o ≡ elim o as (λ _. Visit) [ None ↦ quiet w | Some s ↦ ended_with (kind_eq s.kind Union) s ]
  ends-by None = refl
  ends-by (Some s) = ended-with (kind_eq s.kind Union) s

  pub scope-told : scope_visit w ≡ scope_left w
  scope-told = ends-by (first w.cursor)

  abbrev array_ended : Option Entity → Walk
  array_ended o = record w {
    own = with_array w.values.lengths o w.own;
    bodies = with_array_member w.values.lengths o w.bodies;
    values = record w.values { lengths = [] };
  }

  abbrev array_from : Option Entity → Walk
  array_from o =
      let ended = record w { values = record w.values { lengths = [] } } in
      elim o [
        | None ↦ ended
        | Some e ↦ let array = array_of w.values.lengths e in record ended {
          own = with_addition w.own (Declares array);
          bodies = with_innermost (with_array_type array) w.bodies;
        }
      ]

  array-by : (o : Option Entity) → array_ended o ≡ array_from o
  array-by None = refl
  array-by (Some e) = refl

  pub array-told : ended_array w ≡ array_left w
  array-told = array-by w.last

module _ (turns : ℕ) (answers : Key → Option Answer) where
  abbrev seen : Walk → Key → Option Answer
  seen w = seen_at turns answers w

  module _ (way : Use) (name : ScopedName) (w : Walk) where
    abbrev of_found : Found → Lookup Visit
    of_found found = and_then (under w.own (looked_through (turns_at turns w) way found.entity)) (λ behind. Done (used_visit w way name found behind))

    abbrev of_result : Result Found NameFault → Lookup Visit
    of_result r = by_result r of_found (λ fault. Done (unfound_visit w way name fault))

    abbrev named_by : Result Found NameFault → Visit
    named_by r = elim r [
      | Err fault ↦ unfound_at w way name fault
      | Ok found ↦ used_at w way name found (outcome (looked_through (turns_at turns w) way found.entity) (seen w))
    ]

    result-is : (r : Result Found NameFault) → outcome (of_result r) answers ≡ named_by r
    result-is (Ok found) =
        outcome-and_then (under w.own (looked_through (turns_at turns w) way found.entity)) (λ behind. Done (used_visit w way name found behind)) answers
        ∙ ap (λ (behind : Entity). used_visit w way name found behind) (outcome-under w.own answers (looked_through (turns_at turns w) way found.entity))
        ∙ uses-told w way name found (outcome (looked_through (turns_at turns w) way found.entity) (seen w))
    result-is (Err fault) = unfound-at w way name fault

    used-is : outcome (used turns way name w) answers ≡ named_at turns answers way name w
    unfolding used
    used-is =
        outcome-and_then (under w.own (denoted (turns_at turns w) w.cursor name)) of_result answers
        ∙ ap (λ (r : Result Found NameFault). outcome (of_result r) answers) (outcome-under w.own answers (denoted (turns_at turns w) w.cursor name))
        ∙ result-is (outcome (denoted (turns_at turns w) w.cursor name) (seen w))

  module _ (purpose : TextPurpose) (name : ScopedName) (w : Walk) where
    abbrev behind : Walk
    behind = record w { at = last_at w.at name + 1 }

    abbrev says : Found → Lookup Said
    says found = remark purpose (last_at w.at name) w.text found.entity

    abbrev spoken_result : Result Found NameFault → Lookup Visit
    spoken_result r = by_result r
        (λ found. and_then (under w.own (says found)) (λ s. Done (spoken_visit w name found s)))
        (λ fault. Done (unspoken_visit w name fault))

    abbrev spoken_by : Result Found NameFault → Visit
    spoken_by r = elim r [
      | Err fault ↦ record { faults = unnamed_faults w.at name fault; after = behind }
      | Ok found ↦ let s = outcome (says found) (seen w) in record {
        faults = s.faults;
        after = record behind {
          own = fold with_addition w.own s.additions;
          found = w.found ++ found.entity.path ∷ [];
        };
      }
    ]

    said-is : (r : Result Found NameFault) → outcome (spoken_result r) answers ≡ spoken_by r
    said-is (Ok found) =
        outcome-and_then (under w.own (says found)) (λ s. Done (spoken_visit w name found s)) answers
        ∙ ap (λ (s : Said). spoken_visit w name found s) (outcome-under w.own answers (says found))
    said-is (Err fault) = refl

    spoken-is : outcome (spoken_of turns purpose name w) answers ≡ spoken_at turns answers purpose name w
    unfolding spoken_of
    spoken-is =
        outcome-and_then (under w.own (denoted (turns_at turns w) w.cursor name)) spoken_result answers
        ∙ ap (λ (r : Result Found NameFault). outcome (spoken_result r) answers) (outcome-under w.own answers (denoted (turns_at turns w) w.cursor name))
        ∙ said-is (outcome (denoted (turns_at turns w) w.cursor name) (seen w))

  name-by : (way : Use) (name : ScopedName) (w : Walk) (o : Option TextPurpose)
      → outcome (elim o as (λ _. Lookup Visit) [ None ↦ used turns way name w | Some purpose ↦ spoken_of turns purpose name w ]) answers
      ≡ elim o as (λ _. Visit) [ None ↦ named_at turns answers way name w | Some purpose ↦ spoken_at turns answers purpose name w ]
  name-by way name w None = used-is way name w
  name-by way name w (Some purpose) = spoken-is purpose name w

  -- ---- sites

  module _ (way : Declaration) (name : List ℕ) (w : Walk) where
    abbrev declares : Option Scope → Lookup Visit
    declares o = elim o [
      | None ↦ Done (quiet (passed 1 w))
      | Some s ↦ let e = entity_of w.written way name s.path in
          and_then (under w.own (standing (turns_at turns w) s e))
          (λ there. Done (declared_visit w way s e there))
    ]

    abbrev declared_from : Option Scope → Visit
    declared_from o = elim o [
      | None ↦ quiet (passed 1 w)
      | Some s ↦ let e = entity_of w.written way name s.path in
          declared_at w way s e (standing_at (turns_at turns w) (seen w) s e)
    ]

    declared-by : (o : Option Scope) → outcome (declares o) answers ≡ declared_from o
    declared-by None = refl
    declared-by (Some s) =
        let e = entity_of w.written way name s.path in
        outcome-and_then (under w.own (standing (turns_at turns w) s e)) (λ there. Done (declared_visit w way s e there)) answers
        ∙ ap (λ (there : Standing). declared_visit w way s e there) (outcome-under w.own answers (standing (turns_at turns w) s e) ∙ standing-is (turns_at turns w) (seen w) s e)
        ∙ visit-told w way s e (standing_at (turns_at turns w) (seen w) s e)

  value-by : (way : Purpose) (w : Walk) (v : Evaluation) → (value_visit w way (first_of v)).after ≡ valued w way v
  value-by purpose.Bound w (Valued v) = refl
  value-by purpose.Constant w (Valued v) = refl
  value-by purpose.Length w (Valued v) = refl
  value-by purpose.Label w (Valued v) = refl
  value-by way w (Faulty []) = refl
  value-by way w (Faulty (f ∷ fs)) = refl

  pub whole-told : (site : Item) (w : Walk) → whole_visit turns answers site w ≡ visited turns answers site w
  unfolding visit
  whole-told (item.Declares way name) w = declared-by way name w (first w.cursor)
  whole-told (item.Uses way name) w = name-by way name w (purpose_of way)
  whole-told (item.ScopeBegins way name) w = refl
  whole-told item.ScopeEnds w = scope-told w
  whole-told item.ValueBegins w = refl
  whole-told (item.ValueEnds way e) w = λ i. record {
    faults = evaluation_faults w way (evaluation_at w way e);
    after = value-by way w (evaluation_at w way e) i;
  }
  whole-told (item.TypeEnds shape) w = refl
  whole-told item.ArrayEnds w = ap quiet (array-told w)
  whole-told (item.Enumerates names) w = refl
  whole-told (item.Identifies text) w = refl
  whole-told (item.Switches discrete) w = refl
  whole-told item.Default w = refl
  whole-told item.GivesBack w = refl
  whole-told (item.Plain count) w = refl
  whole-told (item.Says purpose text) w = refl

  after-same : (site : Item) (w : Walk) → (whole_visit turns answers site w).after ≡ (outcome (visit turns site w) answers).after
  after-same (item.ValueEnds way e) w = refl
  after-same site w = refl

  pub walked-told : (sites : List Item) (w : Walk) → walked turns answers sites w ≡ fold (λ (w : Walk) (site : Item). (visited turns answers site w).after) w sites
  walked-told [] w = refl
  walked-told (site ∷ sites) w =
      ap (λ (v : Walk). walked turns answers sites v) (sym (after-same site w) ∙ ap (λ (v : Visit). v.after) (whole-told site w))
      ∙ walked-told sites (visited turns answers site w).after
