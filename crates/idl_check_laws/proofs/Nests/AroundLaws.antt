-- A walk without fault knows what stands around each site: as many unions as are open, each with a type of labels, and the type of the next constant.
use Rattle.std.proofs.Common.{◌≡◌, ◌∙◌, ℕ, ◌≤◌, Bool, true, false, cond, List, [], ◌∷◌, drop, length, Option, None, Some, Result, Ok, Err, refl, sym, ap, subst, arith}
use Rattle.std.proofs.lemmas.List.{length-drop}
use Rattle.std.proofs.lemmas.List.Elements.{All-cons, All-drop, All-head, All-tail}
use Rattle.std.specs.Option.{IsSome}
use Rattle.std.specs.Prelude.{All}
use Rattle.idl_check.specs.tables.Codes.{Table, codes_in, faults_by}
use Rattle.idl_check.specs.tables.Declaring.{Written, entity_of, kind_of, standing}
use Rattle.idl_check.specs.told.Labels.{Labels, no_labels, with_default, with_label}
use Rattle.idl_tree.specs.NameParts.{last_at}
use Rattle.idl_check.specs.tables.Rules.{has_no_constants, is_incomplete, is_no_discriminator, suits}
use Rattle.idl_check.specs.walk.Sections.{is_single}
use Rattle.idl_check.specs.told.Types.{constants_of, looked_through, target_in, written_as}
use Rattle.idl_check.specs.tables.Using.{constants_after, suited_table, unions_after, used_table, values_after}
use Rattle.idl_check.specs.told.Values.{Values}
use Rattle.idl_check.specs.walk.Walk.{Visit, Walk, declared_visit, turns_at, used, used_visit, valued_after, visit, with_labels, with_scope, plain_name, spoken_of, spoken_visit}
use Rattle.idl_fault.specs.declared.code.Code.TheVariants as code
use Rattle.idl_memo.proofs.QueryLaws.{outcome-and_then}
use Rattle.idl_memo.specs.Query.{Done, outcome}
use Rattle.idl_entity.specs.DataType.{plain_type}
use Rattle.idl_entity.specs.Kind.{kind_eq}
use Rattle.idl_scope.specs.Lookup.{denoted, under, Lookup}
use Rattle.idl_env.specs.declared.answering.answer.Answer.{Answer}
use Rattle.idl_env.specs.declared.answering.answer.Scope.{Scope}
use Rattle.idl_entity.specs.declared.data_type.DataType.{DataType}
use Rattle.idl_entity.specs.declared.data_type.Element.TheVariants.{Named}
use Rattle.idl_entity.specs.declared.entity.Entity.{Entity}
use Rattle.idl_scope.specs.declared.fault.NameFault.{NameFault}
use Rattle.idl_scope.specs.declared.fault.NameFault.TheVariants.{At, Memory}
use Rattle.idl_scope.specs.declared.found.Found.{Found}
use Rattle.idl_env.specs.declared.keys.key.Key.{Key}
use Rattle.idl_entity.specs.declared.kind.Kind.TheVariants.{Enumeration, Union}
use Rattle.idl_parts.specs.Item.{Item}
use Rattle.idl_parts.specs.Part.{Part as item}
use Rattle.idl_parts.specs.declared.part.Declaration.{Declaration}
use Rattle.idl_parts.specs.declared.part.Declaration.TheVariants as declaration
use Rattle.idl_parts.specs.declared.part.Shape.{Shape}
use Rattle.idl_parts.specs.declared.part.Shape.TheVariants as shape
use Rattle.idl_parts.specs.declared.part.Purpose.{Purpose}
use Rattle.idl_parts.specs.declared.part.Purpose.TheVariants as purpose
use Rattle.idl_parts.specs.declared.part.Use.{Use}
use Rattle.idl_parts.specs.declared.part.Use.TheVariants.{AsBase, AsType, AsElement, AsConstantType, AsDiscriminator, AsOperand, AsIdentified, AsPrefixed}
use Rattle.idl_tree.specs.declared.declarations.data_type.BasicType.TheVariants as basic
use Rattle.idl_tree.specs.declared.name.ScopedName.{ScopedName}
use Rattle.idl_unit.specs.TokenRules.{first}
use Rattle.idl_value.specs.declared.constant_type.ConstantType.{ConstantType}
use Rattle.idl_value.specs.declared.value.Value.{Value}
use Rattle.idl_check_laws.proofs.Nests.LevelSites.{Around, around_after, has_constants, is_inside, opens_union, popped, used_around}
use Rattle.idl_check.proofs.PartLemmas.{IsUpTo}
use Rattle.idl_check.proofs.Visits.SiteLaws.{declared_by, denoted-up, end_visit, union_visit, used_by, visited, spoken_by}
use Rattle.idl_check.proofs.Faults.TableLaws.{no-codes, no-row}
use Rattle.idl_parts.specs.declared.part.TextPurpose.{TextPurpose}
use Rattle.idl_check.specs.ids.Remarks.{purpose_of, remark}

abbrev pub IsTyped : Labels → Type 0
IsTyped labels = IsSome labels.target

-- these scopes, the innermost first, are those of unions or not
abbrev AreUnions : List Scope → List Bool → Type 0
AreUnions [] bs = Unit {0}
AreUnions (s ∷ scopes) [] = Unit {0}
AreUnions (s ∷ scopes) (b ∷ bs) = (kind_eq s.kind Union ≡ b) × AreUnions scopes bs

-- what a walk has come to, where that stands around
pub record Stands (unions : List Labels) (cursor : List Scope) (constants : Option ConstantType) (a : Around) : Type 0 where
  pub count : a.unions ≤ length unions
  pub typed : All IsTyped unions
  pub scopes : AreUnions cursor a.scopes
  pub constant : a.is_typed ≡ true → IsSome constants

abbrev pub StandsIn : Walk → Around → Type 0
StandsIn w a = Stands w.unions w.cursor w.written.constants a

-- a walk behind a site, which tells no value
pub record IsKept (w : Walk) (u : Walk) (a : Around) : Type 0 where
  pub stands : StandsIn u a
  pub told : u.values.told ≡ w.values.told
  pub constant : u.values.constant ≡ w.values.constant

-- ---- tables without fault

suits-none : (b : Bool) (table : Table) → codes_in (cond b table ((true, code.WrongKind) ∷ [])) ≡ [] → (b ≡ true) × (codes_in table ≡ [])
suits-none true table h = (refl, h)
suits-none false table h = cc

-- a name that is used so, suits
pub used-none : (n : ℕ) (w : Walk) (way : Use) (e behind : Entity) → faults_by n (used_table way w.bases e behind) ≡ [] → (suits way e ≡ true) × (codes_in (suited_table way w.bases e behind) ≡ [])
used-none n w way e behind h = suits-none (suits way e) (suited_table way w.bases e behind) (no-codes n (codes_in (used_table way w.bases e behind)) h)

some-constants : (o : Option ConstantType) → has_no_constants o ≡ false → IsSome o
some-constants None h = cc
some-constants (Some t) h = refl

some-switch : (o : Option ConstantType) → is_no_discriminator o ≡ false → IsSome o
some-switch None h = cc
some-switch (Some t) h = refl

-- ---- names

used-stands : (way : Use) (found behind : Entity) (w : Walk) (a : Around) → codes_in (suited_table way w.bases found behind) ≡ [] → StandsIn w a
    → Stands (unions_after way behind w.unions) w.cursor (constants_after way behind w.written.constants) (used_around way a)
used-stands (AsBase is_local) found behind w a none k = k
used-stands AsType found behind w a none k = k
used-stands AsElement found behind w a none k = k
used-stands AsConstantType found behind w a none k = record {
  count = k.count;
  typed = k.typed;
  scopes = k.scopes;
  constant = λ h. some-constants (constants_of behind) (no-row (has_no_constants (constants_of behind)) code.NoConstantType (codes_in ((is_incomplete found, code.IncompleteType) ∷ [])) none).0;
}
used-stands AsDiscriminator found behind w a none k =
    let labels = no_labels (constants_of behind) (length behind.enumerators) in
    let some : IsSome (constants_of behind) = some-switch (constants_of behind) (no-row (is_no_discriminator (constants_of behind)) code.BadDiscriminator [] (no-row (is_incomplete found) code.IncompleteType (codes_in ((is_no_discriminator (constants_of behind), code.BadDiscriminator) ∷ [])) none).1).0 in
    record {
      count = let c = k.count in omega (arith, c);
      typed = All-cons IsTyped labels w.unions some k.typed;
      scopes = k.scopes;
      constant = k.constant;
    }
used-stands AsOperand found behind w a none k = k
used-stands other found behind w a none k = k

values-told : (way : Use) (v : Option Value) (values : Values) → ((values_after way v values).told ≡ values.told) × ((values_after way v values).constant ≡ values.constant)
values-told (AsBase is_local) v values = (refl, refl)
values-told other v values = (refl, refl)

found-kept : (w : Walk) (way : Use) (name : ScopedName) (found : Found) (behind : Entity) (a : Around) → (used_visit w way name found behind).faults ≡ [] → StandsIn w a
    → IsKept w (used_visit w way name found behind).after (used_around way a)
found-kept w way name found behind a none k = record {
  stands = used-stands way found.entity behind w a (used-none (last_at w.at name) w way found.entity behind none).1 k;
  told = (values-told way found.entity.value w.values).0;
  constant = (values-told way found.entity.value w.values).1;
}

-- where something is said of it, the same stands around
spoken-around : (way : Use) (p : TextPurpose) (a : Around) → purpose_of way ≡ Some p → a ≡ used_around way a
spoken-around (AsBase is_local) p a h = cc
spoken-around AsIdentified p a h = refl
spoken-around AsPrefixed p a h = refl
spoken-around other p a h = cc

module _ (turns : ℕ) (answers : Key → Option Answer) where
  used-by-kept : (way : Use) (name : ScopedName) (w : Walk) (a : Around) (r : Result Found NameFault) → IsUpTo {A = Found} (length name.rest) r
      → (outcome (used_by turns answers way name w r) answers).faults ≡ [] → StandsIn w a → IsKept w (outcome (used_by turns answers way name w r) answers).after (used_around way a)
  used-by-kept way name w a (Ok found) up none k =
      let query = under w.own (looked_through (turns_at turns w) way found.entity) in
      let same = outcome-and_then query (λ behind. Done (used_visit w way name found behind)) answers in
      subst (λ (v : Visit). IsKept w v.after (used_around way a)) (sym same) (found-kept w way name found (outcome query answers) a (ap (λ (v : Visit). v.faults) (sym same) ∙ none) k)
  used-by-kept way name w a (Err (At why part)) up none k = cc
  used-by-kept way name w a (Err Memory) up none k = absurd up

  pub used-kept : (way : Use) (name : ScopedName) (w : Walk) (a : Around) → (outcome (used turns way name w) answers).faults ≡ [] → StandsIn w a
      → IsKept w (outcome (used turns way name w) answers).after (used_around way a)
  unfolding used
  used-kept way name w a none k =
      let query = under w.own (denoted (turns_at turns w) w.cursor name) in
      let same = outcome-and_then query (used_by turns answers way name w) answers in
      subst (λ (v : Visit). IsKept w v.after (used_around way a)) (sym same)
      (used-by-kept way name w a (outcome query answers) (denoted-up turns answers name w) (ap (λ (v : Visit). v.faults) (sym same) ∙ none) k)

  spoken-by-kept : (p : TextPurpose) (name : ScopedName) (w : Walk) (a : Around) (r : Result Found NameFault) → StandsIn w a → IsKept w (outcome (spoken_by turns answers p name w r) answers).after a
  spoken-by-kept p name w a (Ok found) k =
      let query = under w.own (remark p (last_at w.at name) w.text found.entity) in
      subst (λ (v : Visit). IsKept w v.after a) (sym (outcome-and_then query (λ s. Done (spoken_visit w name found s)) answers)) (record { stands = k; told = refl; constant = refl })
  spoken-by-kept p name w a (Err fault) k = record { stands = k; told = refl; constant = refl }

  spoken-kept : (p : TextPurpose) (name : ScopedName) (w : Walk) (a : Around) → StandsIn w a → IsKept w (outcome (spoken_of turns p name w) answers).after a
  unfolding spoken_of
  spoken-kept p name w a k =
      let query = under w.own (denoted (turns_at turns w) w.cursor name) in
      subst (λ (v : Visit). IsKept w v.after a) (sym (outcome-and_then query (spoken_by turns answers p name w) answers)) (spoken-by-kept p name w a (outcome query answers) k)

  pub any-kept : (way : Use) (name : ScopedName) (w : Walk) (a : Around) → (outcome (plain_name turns way name w) answers).faults ≡ [] → StandsIn w a
      → IsKept w (outcome (plain_name turns way name w) answers).after (used_around way a)
  any-kept way name w a none k = by_purpose (purpose_of way) refl none
    where
      by_purpose : (o : Option TextPurpose) → purpose_of way ≡ o → (outcome (elim o as (λ _. Lookup Visit) [ None ↦ used turns way name w | Some p ↦ spoken_of turns p name w ]) answers).faults ≡ []
          → IsKept w (outcome (elim o as (λ _. Lookup Visit) [ None ↦ used turns way name w | Some p ↦ spoken_of turns p name w ]) answers).after (used_around way a)
      by_purpose (Some p) is clean = subst (IsKept w (outcome (spoken_of turns p name w) answers).after) (spoken-around way p a is) (spoken-kept p name w a k)
      by_purpose None is clean = used-kept way name w a clean k

  -- ---- declared names

  written-constants : (written : Written) (e : Entity) (b : Bool) → (cond b (record written { data_type = Some (plain_type (Named e.path)); enumeration = e.path }) written).constants ≡ written.constants
  written-constants written e true = refl
  written-constants written e false = refl

  declared-kept : (way : Declaration) (name : List ℕ) (w : Walk) (a : Around) (o : Option Scope) → StandsIn w a → IsKept w (outcome (declared_by turns answers way name w o) answers).after a
  declared-kept way name w a None k = record { stands = k; told = refl; constant = refl }
  declared-kept way name w a (Some s) k =
      let e = entity_of w.written way name s.path in
      let query = under w.own (standing (turns_at turns w) s e) in
      subst (λ (v : Visit). IsKept w v.after a) (sym (outcome-and_then query (λ there. Done (declared_visit w way s e there)) answers))
      (record {
        stands = subst (λ c. Stands w.unions w.cursor c a) (sym (written-constants w.written e (kind_eq e.kind Enumeration))) k;
        told = refl;
        constant = refl;
      })

-- ---- scopes

union-kind : (way : Declaration) → kind_eq (kind_of way) Union ≡ opens_union way
union-kind declaration.Module = refl
union-kind other = refl

begin-unions : (way : Declaration) (name : List ℕ) (cursor : List Scope) (bs : List Bool) → AreUnions cursor bs → AreUnions (with_scope way name cursor) (opens_union way ∷ bs)
begin-unions way name [] bs h = tt
begin-unions way name (s ∷ scopes) bs h = (union-kind way, h)

abbrev end_written : Written → Option Scope → Written
end_written written o = elim o [ None ↦ written | Some s ↦ record written { data_type = Some (plain_type (Named s.path)) } ]

end-constants : (written : Written) (o : Option Scope) → (end_written written o).constants ≡ written.constants
end-constants written None = refl
end-constants written (Some s) = refl

end-unions : (s : Scope) (scopes cursor : List Scope) (bs : List Bool) → s ∷ scopes ≡ cursor → AreUnions scopes bs → AreUnions (drop 1 cursor) bs
end-unions s scopes cursor bs same h = subst (λ c. AreUnions (drop 1 c) bs) same h

union-kept : (w : Walk) (a : Around) (b : Bool) (bs : List Bool) → AreUnions (drop 1 w.cursor) bs → StandsIn w a → IsKept w (union_visit w b).after (popped (b ∷ bs) a)
union-kept w a true bs rest k = record {
  stands = record {
    count = let c = k.count in let d = length-drop 1 w.unions in omega (arith, c, d);
    typed = All-drop IsTyped 1 w.unions k.typed;
    scopes = rest;
    constant = λ h. subst IsSome (sym (end-constants w.written (first w.cursor))) (k.constant h);
  };
  told = refl;
  constant = refl;
}
union-kept w a false bs rest k = record {
  stands = record {
    count = k.count;
    typed = k.typed;
    scopes = rest;
    constant = λ h. subst IsSome (sym (end-constants w.written (first w.cursor))) (k.constant h);
  };
  told = refl;
  constant = refl;
}

popped-fewer : (b : Bool) (bs : List Bool) (a : Around) (n : ℕ) → a.unions ≤ n → (popped (b ∷ bs) a).unions ≤ n
popped-fewer true bs a n h = omega (arith, h)
popped-fewer false bs a n h = h

popped-typed : (b : Bool) (bs : List Bool) (a : Around) → (popped (b ∷ bs) a).is_typed ≡ a.is_typed
popped-typed true bs a = refl
popped-typed false bs a = refl

ends-kept : (w : Walk) (a : Around) (cursor : List Scope) (bs : List Bool) → cursor ≡ w.cursor → is_inside bs ≡ true → AreUnions cursor bs → StandsIn w a
    → IsKept w (end_visit w (first cursor)).after (popped bs a)
ends-kept w a cursor [] same inside unions k = cc
ends-kept w a [] (b ∷ bs) same inside unions k = record {
  stands = record {
    count = popped-fewer b bs a (length w.unions) k.count;
    typed = k.typed;
    scopes = subst (λ c. AreUnions c (popped (b ∷ bs) a).scopes) same tt;
    constant = λ h. k.constant (sym (popped-typed b bs a) ∙ h);
  };
  told = refl;
  constant = refl;
}
ends-kept w a (s ∷ scopes) (b ∷ bs) same inside unions k =
    subst (λ x. IsKept w (union_visit w x).after (popped (b ∷ bs) a)) (sym unions.0)
    (union-kept w a b bs (end-unions s scopes w.cursor bs same unions.1) k)

-- ---- types and labels

shape-constants : (s : Shape) (bound : Option ℕ) (t : Option DataType) → has_constants s ≡ true → IsSome (target_in (written_as s bound t))
shape-constants (shape.Basic (basic.Discrete d)) bound t h = refl
shape-constants (shape.Basic basic.Float) bound t h = cc
shape-constants (shape.Basic basic.Double) bound t h = cc
shape-constants (shape.Basic basic.LongDouble) bound t h = cc
shape-constants (shape.Basic basic.Any) bound t h = cc
shape-constants (shape.Basic basic.Object) bound t h = cc
shape-constants (shape.Text is_wide is_bounded) bound t h = refl
shape-constants (shape.Sequence is_bounded) bound t h = cc

labels-count : (f : Labels → Labels) (unions : List Labels) → length (with_labels f unions) ≡ length unions
labels-count f [] = refl
labels-count f (l ∷ unions) = refl

labels-typed : (f : Labels → Labels) → ((l : Labels) → (f l).target ≡ l.target) → (unions : List Labels) → All IsTyped unions → All IsTyped (with_labels f unions)
labels-typed f same [] h = h
labels-typed f same (l ∷ unions) h =
    All-cons IsTyped (f l) unions (subst IsSome (sym (same l)) (All-head IsTyped l unions h)) (All-tail IsTyped l unions h)

labelled : (f : Labels → Labels) → ((l : Labels) → (f l).target ≡ l.target) → (w : Walk) (a : Around) → StandsIn w a → Stands (with_labels f w.unions) w.cursor w.written.constants a
labelled f same w a k = record {
  count = let c = k.count in let n = labels-count f w.unions in omega (arith, c, n);
  typed = labels-typed f same w.unions k.typed;
  scopes = k.scopes;
  constant = k.constant;
}

-- behind an expression with a value
pub valued-stands : (way : Purpose) (v : Value) (w : Walk) (a : Around) → StandsIn w a → StandsIn (valued_after w way v) a
valued-stands purpose.Label v w a k = labelled (λ l. with_label l v) (λ l. refl) w a k
valued-stands other v w a k = k

-- ---- sites

module _ (turns : ℕ) (answers : Key → Option Answer) where
  pub single-kept : (site : Item) (w : Walk) (a : Around) → is_single site ≡ true → (site ≡ item.ScopeEnds → is_inside a.scopes ≡ true)
      → (visited turns answers site w).faults ≡ [] → StandsIn w a → IsKept w (visited turns answers site w).after (around_after site a)
  unfolding visit
  single-kept (item.Plain n) w a single inside none k = record { stands = k; told = refl; constant = refl }
  single-kept (item.Declares way name) w a single inside none k = declared-kept turns answers way name w a (first w.cursor) k
  single-kept (item.Uses way name) w a single inside none k = any-kept turns answers way name w a none k
  single-kept (item.Says purpose text) w a single inside none k = record { stands = k; told = refl; constant = refl }
  single-kept item.ValueBegins w a single inside none k = cc
  single-kept (item.ValueEnds way e) w a single inside none k = cc
  single-kept (item.ScopeBegins way name) w a single inside none k = record {
    stands = record { count = k.count; typed = k.typed; scopes = begin-unions way name w.cursor a.scopes k.scopes; constant = k.constant };
    told = refl;
    constant = refl;
  }
  single-kept item.ScopeEnds w a single inside none k = ends-kept w a w.cursor a.scopes refl (inside refl) k.scopes k
  single-kept (item.TypeEnds shape) w a single inside none k = record {
    stands = record {
      count = k.count;
      typed = k.typed;
      scopes = k.scopes;
      constant = shape-constants shape w.values.bound w.written.data_type;
    };
    told = refl;
    constant = refl;
  }
  single-kept item.ArrayEnds w a single inside none k = record { stands = k; told = refl; constant = refl }
  single-kept (item.Enumerates names) w a single inside none k = record { stands = k; told = refl; constant = refl }
  single-kept (item.Identifies text) w a single inside none k = record { stands = k; told = refl; constant = refl }
  single-kept (item.Switches discrete) w a single inside none k = record {
    stands = record {
      count = let c = k.count in omega (arith, c);
      typed = All-cons IsTyped _ w.unions refl k.typed;
      scopes = k.scopes;
      constant = k.constant;
    };
    told = refl;
    constant = refl;
  }
  single-kept item.Default w a single inside none k = record { stands = labelled with_default (λ l. refl) w a k; told = refl; constant = refl }
  single-kept item.GivesBack w a single inside none k = record { stands = k; told = refl; constant = refl }
