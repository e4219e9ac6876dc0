-- Names are looked up part by part, and how far their uses go.
use Rattle.std.proofs.Common.{◌≡◌, ◌∙◌, ◌+◌, ◌++◌, ◌-◌, [], ◌∷◌, Bool, Err, List, None, Ok, Option, Result, Some, ap, arith, cond, drop, false, fold, is_some, map, min, not, refl, scan, slice_get, suc, take, true, ℕ}
use Rattle.std.specs.List.{list_any, prefix_len}
use Rattle.std.specs.Option.{option_to_list}
use Rattle.std.specs.Prelude.{if◌then◌else◌}
use Rattle.idl_check.specs.ids.About.{Said, refused_for}
use Rattle.idl_check.specs.ids.Remarks.{prefixed_at, remark, unless}
use Rattle.idl_check.specs.tables.Codes.{faults_by}
use Rattle.idl_check.specs.tables.Rules.{is_no_prefix}
use Rattle.idl_check.specs.tables.Using.{further_uses, with_uses}
use Rattle.idl_entity.specs.Kind.{is_scope, kind_eq}
use Rattle.idl_entity.specs.declared.entity.Entity.{Entity}
use Rattle.idl_entity.specs.declared.kind.Kind.TheVariants.{Module}
use Rattle.idl_env.specs.Facts.{over, typeprefix_in, with_addition}
use Rattle.idl_env.specs.declared.additions.addition.Addition.{Addition}
use Rattle.idl_env.specs.declared.additions.addition.Addition.TheVariants.{TypePrefixes, Uses, UsesFurther}
use Rattle.idl_env.specs.declared.additions.addition.Step.TheVariants.{Stays}
use Rattle.idl_env.specs.declared.answering.answer.Scope.{Scope}
use Rattle.idl_env.specs.declared.keys.key.Key.TheVariants.{Typeprefix}
use Rattle.idl_fault.specs.declared.code.Code.TheVariants.{NoScope as NoScopeCode, RepeatedTypeprefix}
use Rattle.idl_lex.specs.kinds.Keywords.{folded}
use Rattle.idl_memo.specs.Query.{Ask, Done, Tell, and_then}
use Rattle.idl_parts.specs.declared.part.TextPurpose.{TextPurpose}
use Rattle.idl_parts.specs.declared.part.TextPurpose.TheVariants as text
use Rattle.idl_plain.proofs.RuleLaws.{one}
use Rattle.idl_plain.specs.Names.{asked_in, asked_of, remark_on}
use Rattle.idl_scope.specs.Lookup.{before_module, by_result, decided, denoted, extent, found_as, further, has, judged, placed, reach_by, reach_of}
use Rattle.idl_scope.specs.Meaning.{searched, undeclared}
use Rattle.idl_scope.specs.Question.{Lookup}
use Rattle.idl_scope.specs.declared.fault.NameCode.{NameCode}
use Rattle.idl_scope.specs.declared.fault.NameCode.TheVariants.{NoScope}
use Rattle.idl_scope.specs.declared.fault.NameFault.{NameFault}
use Rattle.idl_scope.specs.declared.fault.NameFault.TheVariants.{At}
use Rattle.idl_scope.specs.declared.found.Found.{Found}
use Rattle.idl_scope.specs.declared.found.Reach.{Reach}
use Rattle.idl_tree.specs.declared.name.ScopedName.{ScopedName}
use Rattle.idl_unit.specs.TokenRules.{fault_at}
use Rattle.idl_unit.specs.declared.fault.Fault.{Fault}
use Rattle.idl_value.specs.Equal.{path_eq}
use Rattle.idl_value.specs.Spelled.{scope_of}

-- ---- parts

abbrev Denoting : Type 0
Denoting = Result Entity NameFault

afterwards : {A B C : Type 0} (query : Lookup A) (f : A → Lookup B) (g : B → Lookup C) → and_then (and_then query f) g ≡ and_then query (λ a. and_then (f a) g)
afterwards (Done a) f g = refl
afterwards (Ask k next) f g = λ i. Ask k (λ v. afterwards (next v) f g i)
afterwards (Tell x query) f g = ap (Tell x) (afterwards query f g)

module _ (turns : ℕ) where
  abbrev on_asked : ℕ → List (List ℕ) → Result Entity NameCode → Lookup Denoting
  on_asked part names j = elim j [
    | Ok f ↦ asked_in turns (part + 1) f names
    | Err code ↦ Done (Err (At code (part + 1)))
  ]

  abbrev on_result : ℕ → List (List ℕ) → Denoting → Lookup Denoting
  on_result part names r = by_result r (λ f. further turns (part + 1) f names) (λ fault. Done (Err fault))

  judged-asked : (part : ℕ) (names : List (List ℕ))
      → ((f : Entity) → further turns (part + 1) f names ≡ asked_in turns (part + 1) f names)
      → (j : Result Entity NameCode) → on_result part names (placed (part + 1) j) ≡ on_asked part names j
  judged-asked part names deeper (Ok f) = deeper f
  judged-asked part names deeper (Err code) = refl

  parts-asked : (part : ℕ) (e : Entity) (names : List (List ℕ)) → further turns part e names ≡ asked_in turns part e names
  parts-asked part e [] = refl
  parts-asked part e (name ∷ names) =
      let there = has turns e.kind e.path (folded name) in
      let deeper = judged-asked part names (λ f. parts-asked (part + 1) f names) in
      ap (λ (q : Lookup Denoting). if is_scope e.kind then q else Done (Err (At NoScope part)))
      (afterwards there (λ found. Done (placed (part + 1) (judged name found))) (on_result part names)
      ∙ (λ i. and_then there (λ found. deeper (judged name found) i)))

  module _ (cursor : List Scope) (name : ScopedName) where
    abbrev given : ℕ → Entity → Denoting → Result Found NameFault
    given inside first last = elim last [
      | Ok e ↦ Ok (record { entity = e; reach = reach_of name cursor inside first })
      | Err fault ↦ Err fault
    ]

    found-given : (inside : ℕ) (first : Entity) (last : Denoting) → found_as (reach_of name cursor inside first) last ≡ given inside first last
    found-given inside first (Ok e) = refl
    found-given inside first (Err fault) = refl

    abbrev on_first : ℕ → Result Entity NameCode → Lookup (Result Found NameFault)
    on_first inside j = elim j [
      | Ok first ↦ and_then (asked_in turns 0 first name.rest) (λ last. Done (given inside first last))
      | Err code ↦ Done (Err (At code 0))
    ]

    abbrev behind_first : Denoting × ℕ → Lookup (Result Found NameFault)
    behind_first r = by_result r.0
        (λ first. and_then (further turns 0 first name.rest) (λ last. Done (found_as (reach_of name cursor r.1 first) last)))
        (λ fault. Done (Err fault))

    first-asked : (inside : ℕ) (j : Result Entity NameCode) → behind_first (placed 0 j, inside) ≡ on_first inside j
    first-asked inside (Ok first) = λ i. and_then (parts-asked 0 first name.rest i) (λ last. Done (found-given inside first last i))
    first-asked inside (Err code) = refl

    pub name-asked : denoted turns cursor name ≡ asked_of turns cursor name
    name-asked =
        let there = decided turns 0 (searched name.is_global cursor) (folded name.first) in
        afterwards there (λ d. Done (placed 0 (judged name.first d.0), d.1)) behind_first
        ∙ (λ i. and_then there (λ d. first-asked d.1 (judged name.first d.0) i))

-- ---- how far a use goes

pub outward-told : (scopes : List Scope) → before_module scopes ≡ prefix_len (λ s. not (kind_eq s.kind Module)) scopes
outward-told [] = refl
outward-told (s ∷ scopes) = by (kind_eq s.kind Module) (outward-told scopes)
  where
    by : (b : Bool) → before_module scopes ≡ prefix_len (λ s. not (kind_eq s.kind Module)) scopes
        → (if b then 0 else suc (before_module scopes)) ≡ cond (not b) (1 + prefix_len (λ s. not (kind_eq s.kind Module)) scopes) 0
    by true rest = refl
    by false rest = omega (arith, rest)

module _ (cursor : List Scope) (inside : ℕ) (first : Entity) where
  abbrev itself : Option Scope → Bool
  itself o = list_any (λ (s : Scope). path_eq (scope_of first.path) s.path) (option_to_list o)

  abbrev at : Option Scope → Bool
  at o = elim o [ None ↦ false | Some s ↦ path_eq (scope_of first.path) s.path ]

  at-itself : (o : Option Scope) → at o ≡ itself o
  at-itself None = refl
  at-itself (Some s) = one (path_eq (scope_of first.path) s.path)

  abbrev reach_told : Bool → Bool → Reach
  reach_told is_global b =
      let certain = min (if b then inside else suc inside) (extent cursor) in
      let further = if b then 0 else extent cursor - suc inside in
      if is_global then record { certain = 0; further = 0 }
      else record { certain = certain; further = further }

  reach-by : (is_global b : Bool) → (if is_global then record { certain = 0; further = 0 } else reach_by b inside (extent cursor)) ≡ reach_told is_global b
  reach-by true b = refl
  reach-by false true = refl
  reach-by false false = refl

  pub reach-told : (name : ScopedName) → reach_of name cursor inside first ≡ reach_told name.is_global (itself (slice_get cursor inside))
  reach-told name =
      reach-by name.is_global (at (slice_get cursor inside))
      ∙ ap (reach_told name.is_global) (at-itself (slice_get cursor inside))

-- ---- uses

module _ (n : List ℕ) where
  abbrev next : List (List (List ℕ)) → Scope → List (List (List ℕ))
  next before s = before ++ s.path ∷ []

  abbrev outer : List (List (List ℕ)) → Scope → Addition
  outer before s = UsesFurther n s.path (record { body = s.body; unless = before ++ s.path ∷ [] })

  further-told : (before : List (List (List ℕ))) (scopes : List Scope) → further_uses n before scopes ≡ scan next outer before scopes
  further-told before [] = refl
  further-told before (s ∷ scopes) = ap (λ (l : List Addition). outer before s ∷ l) (further-told (next before s) scopes)

  pub uses-scanned : (r : Reach) (scopes : List Scope) (own : List Addition)
      → with_uses n r scopes own ≡ fold with_addition own (map (λ s. Uses n s.path s.body) (take r.certain scopes)
      ++ scan next outer [] (undeclared (λ k. over own k None) n (take r.further (drop r.certain scopes))))
  uses-scanned r scopes own =
      ap (λ (l : List Addition). fold with_addition own (map (λ (s : Scope). Uses n s.path s.body) (take r.certain scopes) ++ l))
      (further-told [] (undeclared (λ k. over own k None) n (take r.further (drop r.certain scopes))))

-- ---- what texts say

module _ (at : ℕ) (t : List ℕ) (e : Entity) where
  abbrev repeated_if : Bool → List Fault
  repeated_if b = if b then fault_at at RepeatedTypeprefix ∷ [] else []

  abbrev refused : Lookup Said
  refused = Done (refused_for (fault_at at NoScopeCode ∷ []))

  abbrev prefixed : Bool → Lookup Said
  prefixed is_bad = Ask (Typeprefix e.path) (λ answer. Done (record {
    faults = repeated_if (is_some (typeprefix_in answer));
    additions = if is_bad then [] else TypePrefixes e.path t ∷ [];
    step = Stays;
  }))

  repeated-told : (b : Bool) → faults_by at ((b, RepeatedTypeprefix) ∷ []) ≡ repeated_if b
  repeated-told true = refl
  repeated-told false = refl

  prefix-by : (is_there is_bad : Bool)
      → and_then (if is_there then Ask (Typeprefix e.path) (λ answer. Done (prefixed_at at t e.path answer)) else refused) (λ s. Done (unless is_bad s))
      ≡ (if is_there then prefixed is_bad else refused)
  prefix-by true true = λ i. Ask (Typeprefix e.path) (λ answer. Done (record {
    faults = repeated-told (is_some (typeprefix_in answer)) i;
    additions = [];
    step = Stays;
  }))
  prefix-by true false = λ i. Ask (Typeprefix e.path) (λ answer. Done (record {
    faults = repeated-told (is_some (typeprefix_in answer)) i;
    additions = TypePrefixes e.path t ∷ [];
    step = Stays;
  }))
  prefix-by false true = refl
  prefix-by false false = refl

  pub remark-told : (purpose : TextPurpose) → remark purpose at t e ≡ remark_on purpose at t e
  remark-told text.Context = refl
  remark-told text.Id = refl
  remark-told text.Prefix = prefix-by (is_scope e.kind) (is_no_prefix t)
