-- What a unit declares first is among its names.
use Rattle.std.proofs.Common.{◌≡◌, ◌⊎◌, ◌∙◌, ◌+◌, ℕ, Bool, true, false, cond, List, [], ◌∷◌, ◌++◌, drop, map, take, Option, None, Some, Result, Ok, Err, refl, sym, ap, subst, inl, inr}
use Rattle.std.proofs.lemmas.List.Elements.{All-head, All-tail}
use Rattle.std.specs.Prelude.{All, Contains, fold}
use Rattle.idl_check.proofs.Faults.VisitFaults.{visit_faults}
use Rattle.idl_check.proofs.Visits.RemarkLaws.{IsOfIds, remark-is}
use Rattle.idl_check.proofs.Visits.SiteLaws.{declared_by, end_visit, spoken_by, union_visit, used_by, visit-placed, visited}
use Rattle.idl_check.proofs.Visits.VerdictLaws.{faulty-is, sound-is}
use Rattle.idl_check.proofs.Visits.WalkLaws.{none-append}
use Rattle.idl_check.proofs.Visits.WholeLaws.{whole-none}
use Rattle.idl_check.specs.ids.About.{Said, about, about_entity, refused_for, said_at, unnamed_faults, with_faults}
use Rattle.idl_check.specs.ids.Identifying.{with_identity}
use Rattle.idl_check.specs.ids.Pragmas.{said, text_faults}
use Rattle.idl_check.specs.ids.Remarks.{purpose_of, remark}
use Rattle.idl_check.specs.tables.Declaring.{entity_of, finished, standing, stays, with_declared, with_finished}
use Rattle.idl_check.specs.tables.Using.{further_uses, last_after, own_after, uses_of, with_uses}
use Rattle.idl_check.specs.tables.Rules.{has_id}
use Rattle.idl_check.specs.told.Bodies.{array_of, raising}
use Rattle.idl_check.specs.told.Types.{looked_through}
use Rattle.idl_check.specs.walk.Judging.{walked}
use Rattle.idl_check.specs.walk.Names.{declared_paths, named, names_at, site_names, unit_names}
use Rattle.idl_check.specs.walk.Verdict.{verdict}
use Rattle.idl_check.specs.walk.Walk.{Visit, Walk, declared_visit, first_walk, outcome_at, plain_name, spoken_of, spoken_visit, turns_at, used, used_visit, value_visit, visit, with_array}
use Rattle.idl_check.specs.declared.ids.identifying.Ids.{Ids}
use Rattle.idl_check.specs.declared.tables.standing.Standing.{Standing}
use Rattle.idl_check.specs.declared.walk.names.NameRole.TheVariants.{Declared}
use Rattle.idl_check.specs.declared.walk.verdict.Verdict.{Verdict}
use Rattle.idl_check_laws.proofs.PragmaLaws.{faulty-pragma, spoken-pragma}
use Rattle.idl_check_laws.proofs.Visits.NameLaws.{declared-append, sound-names, sound-sites}
use Rattle.idl_entity.specs.Kind.{kind_eq}
use Rattle.idl_entity.specs.declared.entity.Entity.{Entity}
use Rattle.idl_entity.specs.declared.identity.Fixed.{Fixed}
use Rattle.idl_entity.specs.declared.identity.Fixed.TheVariants.{Version, Id}
use Rattle.idl_entity.specs.declared.identity.Identity.{Identity}
use Rattle.idl_entity.specs.declared.identity.Prefix.{Prefix}
use Rattle.idl_entity.specs.declared.kind.Kind.TheVariants.{Union}
use Rattle.idl_env.proofs.Membership.{Contains-IsIn, IsIn, IsIn-Contains, IsIn-left, IsIn-right}
use Rattle.idl_env.specs.Facts.{key_of, over, scopes_in, with_addition}
use Rattle.idl_env.specs.keys.Key.{key_eq}
use Rattle.idl_env.specs.declared.additions.addition.Addition.{Addition}
use Rattle.idl_env.specs.declared.additions.addition.Addition.TheVariants.{Appears, Declares, Identifies, TypePrefixes, Uses, UsesFurther}
use Rattle.idl_env.specs.declared.answering.answer.Answer.{Answer}
use Rattle.idl_env.specs.declared.answering.answer.Scope.{Scope}
use Rattle.idl_env.specs.declared.keys.key.Key.{Key}
use Rattle.idl_env.specs.declared.keys.key.Key.TheVariants.{Cursor}
use Rattle.idl_fault.specs.declared.code.Code.TheVariants.{NoRepositoryId}
use Rattle.idl_lex.specs.kinds.Keywords.{folded}
use Rattle.idl_lex.specs.tokens.Tokens.{Token}
use Rattle.idl_memo.proofs.QueryLaws.{outcome-and_then}
use Rattle.idl_memo.specs.Query.{Done, and_then, outcome}
use Rattle.idl_parts.specs.Item.{Item, items}
use Rattle.idl_parts.specs.Part.{Part as item}
use Rattle.idl_parts.specs.UnitParts.{unit_parts}
use Rattle.idl_parts.specs.declared.part.Declaration.{Declaration}
use Rattle.idl_parts.specs.declared.part.Purpose.{Purpose}
use Rattle.idl_parts.specs.declared.part.Purpose.TheVariants as purpose
use Rattle.idl_parts.specs.declared.part.TextPurpose.{TextPurpose}
use Rattle.idl_parts.specs.declared.part.Use.{Use}
use Rattle.idl_parts.specs.declared.part.Use.TheVariants.{AsStructBase}
use Rattle.idl_scope.specs.Known.{known}
use Rattle.idl_scope.specs.Lookup.{Lookup, by_result, denoted, under}
use Rattle.idl_scope.specs.Meaning.{undeclared}
use Rattle.idl_scope.specs.declared.fault.NameFault.{NameFault}
use Rattle.idl_scope.specs.declared.fault.NameFault.TheVariants.{At, Memory}
use Rattle.idl_scope.specs.declared.found.Found.{Found}
use Rattle.idl_scope.specs.declared.found.Reach.{Reach}
use Rattle.idl_tree.specs.NameParts.{last_at}
use Rattle.idl_tree.specs.declared.name.ScopedName.{ScopedName}
use Rattle.idl_tree.specs.declared.pragma.Pragma.{Pragma}
use Rattle.idl_tree.specs.declared.pragma.Pragma.TheVariants as pragma
use Rattle.idl_unit.specs.TokenRules.{fault_at, first as first_of}
use Rattle.idl_unit.specs.declared.fault.Fault.{Fault}
use Rattle.idl_unit.specs.declared.unit.UnitText.{UnitText}
use Rattle.idl_unit.specs.declared.unit.UnitText.TheVariants as unit
use Rattle.idl_value.specs.declared.outcome.Outcome.{Outcome}
use Rattle.idl_value.specs.declared.outcome.Outcome.TheVariants as comes

-- ---- what tells of no such name

-- it tells of no name that is declared first
abbrev NoFirst : Addition → Type 0
NoFirst (Appears path prefix) = ⊥
NoFirst other = Unit {0}

abbrev NoneFirst : List Addition → Type 0
NoneFirst [] = Unit {0}
NoneFirst (a ∷ additions) = NoFirst a × NoneFirst additions

none-first : (xs ys : List Addition) → NoneFirst xs → NoneFirst ys → NoneFirst (xs ++ ys)
none-first [] ys h g = g
none-first (x ∷ xs) ys h g = (h.0, none-first xs ys h.1 g)

certain-first : (n : List ℕ) (ss : List Scope) → NoneFirst (map (λ s. Uses n s.path s.body) ss)
certain-first n [] = tt
certain-first n (s ∷ ss) = (tt, certain-first n ss)

further-first : (n : List ℕ) (before : List (List (List ℕ))) (ss : List Scope) → NoneFirst (further_uses n before ss)
further-first n before [] = tt
further-first n before (s ∷ ss) = (tt, further-first n (before ++ s.path ∷ []) ss)

uses-first : (n : List ℕ) (r : Reach) (scopes : List Scope) (own : List Addition) → NoneFirst (uses_of n r scopes own)
uses-first n r scopes own =
    let left = undeclared (λ k. over own k None) n (take r.further (drop r.certain scopes)) in
    none-first (map (λ s. Uses n s.path s.body) (take r.certain scopes)) (further_uses n [] left) (certain-first n (take r.certain scopes)) (further-first n [] left)

ids-first : (a : Addition) → IsOfIds a → NoFirst a
ids-first (Identifies path d) h = tt
ids-first (TypePrefixes path text) h = tt
ids-first (Declares e) h = absurd h
ids-first (Uses n path body) h = absurd h
ids-first (Appears path prefix) h = absurd h
ids-first (UsesFurther n path further) h = absurd h

all-ids-first : (more : List Addition) → All IsOfIds more → NoneFirst more
all-ids-first [] all = tt
all-ids-first (a ∷ more) all = (ids-first a (All-head IsOfIds a more all), all-ids-first more (All-tail IsOfIds a more all))

pub finished-first : (finish : Entity → Entity) (es : List Entity) → NoneFirst (map (λ e. Declares (finish e)) es)
finished-first finish [] = tt
finished-first finish (e ∷ es) = (tt, finished-first finish es)

-- one that is in a list with one more was there, or is that
with-one : (a b : Addition) (own : List Addition) → IsIn a (with_addition own b) → IsIn a own ⊎ (b ≡ a)
with-one a b [] (inl e) = inr e
with-one a b [] (inr i) = absurd i
with-one a b (c ∷ own) i = by_key (with-one a b own) (key_eq (key_of b) (key_of c)) i
  where
    by_key : (IsIn a (with_addition own b) → IsIn a own ⊎ (b ≡ a)) → (t : Bool) → IsIn a (cond t (b ∷ own) (c ∷ with_addition own b)) → IsIn a (c ∷ own) ⊎ (b ≡ a)
    by_key more true (inl e) = inr e
    by_key more true (inr i) = inl (inr i)
    by_key more false (inl e) = inl (inl e)
    by_key more false (inr i) = elim (more i) as (λ _. IsIn a (c ∷ own) ⊎ (b ≡ a)) [ inl j ↦ inl (inr j) | inr e ↦ inr e ]

module _ (path : List (List ℕ)) (prefix : Prefix) where
  abbrev IsFirst : List Addition → Type 0
  IsFirst own = IsIn (Appears path prefix) own

  pub with-none : (a : Addition) (own : List Addition) → NoFirst a → IsFirst (with_addition own a) → IsFirst own
  with-none a own none i = elim (with-one (Appears path prefix) a own i) as (λ _. IsFirst own) [ inl j ↦ j | inr e ↦ absurd (subst NoFirst e none) ]

  pub fold-none : (more own : List Addition) → NoneFirst more → IsFirst (fold with_addition own more) → IsFirst own
  fold-none [] own none i = i
  fold-none (a ∷ more) own none i = with-none a own none.0 (fold-none more (with_addition own a) none.1 i)

  own-first : (way : Use) (o : Option Entity) (own : List Addition) → IsFirst (own_after way o own) → IsFirst own
  own-first AsStructBase (Some e) own i = with-none (Declares e) own tt i
  own-first other o own i = i

  pub array-first : (lengths : List ℕ) (o : Option Entity) (own : List Addition) → IsFirst (with_array lengths o own) → IsFirst own
  array-first lengths None own i = i
  array-first lengths (Some e) own i = with-none (Declares (array_of lengths e)) own tt i

  pub valued-first : (w : Walk) (way : Purpose) (o : Outcome) → (value_visit w way o).after.own ≡ w.own
  valued-first w purpose.Bound (comes.Value v) = refl
  valued-first w purpose.Constant (comes.Value v) = refl
  valued-first w purpose.Length (comes.Value v) = refl
  valued-first w purpose.Label (comes.Value v) = refl
  valued-first w way (comes.Fault f) = refl
  valued-first w way comes.Told = refl

  union-first : (w : Walk) (b : Bool) → (union_visit w b).after.own ≡ w.own
  union-first w true = refl
  union-first w false = refl

  pub end-first : (w : Walk) (o : Option Scope) → (end_visit w o).after.own ≡ w.own
  end-first w None = refl
  end-first w (Some s) = union-first w (kind_eq s.kind Union)

  -- the path at which a name appears
  abbrev path_in : Addition → List (List ℕ)
  path_in (Appears path prefix) = path
  path_in other = []

  identity-first : (there : Option Entity) (ids : Option Ids) (e : Entity) (own : List Addition) → IsFirst (with_identity there ids e own) → IsFirst own ⊎ (e.path ≡ path)
  identity-first (Some old) ids e own i = inl i
  identity-first None None e own i = inl i
  identity-first None (Some ids) e own i =
      elim (with-one (Appears path prefix) (Appears e.path ids.prefix) own i) as (λ _. IsFirst own ⊎ (e.path ≡ path)) [ inl j ↦ inl j | inr is ↦ inr (ap path_in is) ]

  declared-first : (there : Standing) (e : Entity) (own : List Addition) → IsFirst (with_declared there e own) → IsFirst own ⊎ (e.path ≡ path)
  declared-first there e own i = by_stays (stays there.there e) i
    where
      by_stays : (b : Bool) → IsFirst (cond b (with_identity there.there there.ids e own) (with_addition (with_identity there.there there.ids e own) (Declares e))) → IsFirst own ⊎ (e.path ≡ path)
      by_stays true i = identity-first there.there there.ids e own i
      by_stays false i = identity-first there.there there.ids e own (with-none (Declares e) (with_identity there.there there.ids e own) tt i)

  module _ (turns : ℕ) (answers : Key → Option Answer) where
    -- where a name appears first at a site, the site declares it
    abbrev Tells : Item → Walk → Visit → Type 0
    Tells site w v = IsFirst v.after.own → IsFirst w.own ⊎ IsIn path (declared_paths (names_at site w v.after))

    declared-tells : (way : Declaration) (name : List ℕ) (w : Walk) (o : Option Scope) → Tells (item.Declares way name) w (outcome (declared_by turns answers way name w o) answers)
    declared-tells way name w None i = inl i
    declared-tells way name w (Some s) i =
        let e = entity_of w.written way name s.path in
        let query = under w.own (standing (turns_at turns w) s e) in
        subst (Tells (item.Declares way name) w) (sym (outcome-and_then query (λ there. Done (declared_visit w way s e there)) answers)) (here s (outcome query answers)) i
      where
        here : (s : Scope) (there : Standing) → Tells (item.Declares way name) w (declared_visit w way s (entity_of w.written way name s.path) there)
        here s there i =
            elim (declared-first there (entity_of w.written way name s.path) w.own i) as (λ _. IsFirst w.own ⊎ IsIn path (declared_paths (named Declared w.at (Some (name ∷ s.path)))))
            [ inl j ↦ inl j | inr is ↦ inr (inl is) ]

    -- a used name declares nothing
    abbrev Keeps : Walk → Visit → Type 0
    Keeps w v = IsFirst v.after.own → IsFirst w.own

    used-keeps : (way : Use) (name : ScopedName) (w : Walk) (r : Result Found NameFault) → Keeps w (outcome (used_by turns answers way name w r) answers)
    used-keeps way name w (Ok found) =
        subst (Keeps w) (sym (outcome-and_then (under w.own (looked_through (turns_at turns w) way found.entity)) (λ behind. Done (used_visit w way name found behind)) answers))
        (λ i. fold-none (uses_of (folded name.first) found.reach w.cursor w.own) w.own (uses-first (folded name.first) found.reach w.cursor w.own)
        (own-first way (last_after way found.entity.path w.last) (with_uses (folded name.first) found.reach w.cursor w.own) i))
    used-keeps way name w (Err (At why part)) = λ i. i
    used-keeps way name w (Err Memory) = λ i. i

    plain-keeps : (way : Use) (name : ScopedName) (w : Walk) → Keeps w (outcome (used turns way name w) answers)
    unfolding used
    plain-keeps way name w =
        let query = under w.own (denoted (turns_at turns w) w.cursor name) in
        subst (Keeps w) (sym (outcome-and_then query (used_by turns answers way name w) answers)) (used-keeps way name w (outcome query answers))

    spoken-keeps : (p : TextPurpose) (name : ScopedName) (w : Walk) (r : Result Found NameFault) → Keeps w (outcome (spoken_by turns answers p name w r) answers)
    spoken-keeps p name w (Ok found) =
        let query = under w.own (remark p (last_at w.at name) w.text found.entity) in
        let is = remark-is w.own answers p (last_at w.at name) w.text found.entity in
        subst (Keeps w) (sym (outcome-and_then query (λ s. Done (spoken_visit w name found s)) answers))
        (λ i. fold-none (outcome query answers).additions w.own (all-ids-first (outcome query answers).additions is.adds) i)
    spoken-keeps p name w (Err fault) = λ i. i

    said-keeps : (p : TextPurpose) (name : ScopedName) (w : Walk) → Keeps w (outcome (spoken_of turns p name w) answers)
    unfolding spoken_of
    said-keeps p name w =
        let query = under w.own (denoted (turns_at turns w) w.cursor name) in
        subst (Keeps w) (sym (outcome-and_then query (spoken_by turns answers p name w) answers)) (spoken-keeps p name w (outcome query answers))

    pub any-keeps : (way : Use) (name : ScopedName) (w : Walk) → Keeps w (outcome (plain_name turns way name w) answers)
    any-keeps way name w = by_purpose (purpose_of way)
      where
        by_purpose : (o : Option TextPurpose) → Keeps w (outcome (elim o as (λ _. Lookup Visit) [ None ↦ used turns way name w | Some p ↦ spoken_of turns p name w ]) answers)
        by_purpose (Some p) = said-keeps p name w
        by_purpose None = plain-keeps way name w

    at-first : (site : Item) (w : Walk) → Tells site w (visited turns answers site w)
    unfolding visit
    at-first (item.Declares way name) w i = declared-tells way name w (first_of w.cursor) i
    at-first (item.Uses way name) w i = inl (any-keeps way name w i)
    at-first (item.ValueEnds way e) w i = inl (subst IsFirst (valued-first w way (outcome_at w way e)) i)
    at-first item.ScopeEnds w i = inl (subst IsFirst (end-first w (first_of w.cursor)) i)
    at-first item.ArrayEnds w i = inl (array-first w.values.lengths w.last w.own i)
    at-first other w i = inl i

    -- the same of many sites
    abbrev TellAll : List Item → Walk → Type 0
    TellAll sites w = IsFirst w.own ⊎ IsIn path (declared_paths (site_names turns answers sites w))

    pub walked-first : (sites : List Item) (w : Walk) → w.fault ≡ None → visit_faults turns answers sites w ≡ [] → IsFirst (walked turns answers sites w).own → TellAll sites w
    walked-first [] w none h i = inl i
    walked-first (site ∷ sites) w none h i =
        let v = visited turns answers site w in
        let parts = none-append v.faults (visit_faults turns answers sites v.after) h in
        let here = names_at site w v.after in
        let rest = site_names turns answers sites v.after in
        let whole : declared_paths (site_names turns answers (site ∷ sites) w) ≡ declared_paths here ++ declared_paths rest = ap declared_paths (sound-names turns answers site sites w none parts.0) ∙ declared-append here rest in
        elim (walked-first sites v.after ((visit-placed turns answers site w).keeps ∙ none) parts.1 i) as (λ _. TellAll (site ∷ sites) w) [
          | inl j ↦ elim (at-first site w j) as (λ _. TellAll (site ∷ sites) w) [
            | inl k ↦ inl k
            | inr k ↦ inr (subst (IsIn path) (sym whole) (IsIn-left path (declared_paths here) (declared_paths rest) k))
          ]
          | inr j ↦ inr (subst (IsIn path) (sym whole) (IsIn-right path (declared_paths here) (declared_paths rest) j))
        ]

-- ---- units

-- a list without any has none
none-in : (path : List (List ℕ)) (prefix : Prefix) (more : List Addition) → NoneFirst more → IsIn (Appears path prefix) more → ⊥
none-in path prefix [] none i = i
none-in path prefix (a ∷ more) none (inl e) = subst NoFirst e none.0
none-in path prefix (a ∷ more) none (inr i) = none-in path prefix more none.1 i

module _ (turns : ℕ) (answers : Key → Option Answer) where
  module _ (path : List (List ℕ)) (prefix : Prefix) where
    sound-first : (tokens : List Token) → (outcome (verdict turns (unit.Tokens tokens)) answers).fault ≡ None
        → IsIn (Appears path prefix) (outcome (verdict turns (unit.Tokens tokens)) answers).writes.additions → IsIn path (declared_paths (unit_names turns answers (unit.Tokens tokens)))
    sound-first tokens none i =
        let scopes = scopes_in (answers Cursor) in
        let v = outcome (verdict turns (unit.Tokens tokens)) answers in
        let s = sound-is turns answers tokens none in
        let sites = items (unit_parts s.tree) in
        let w = walked turns answers sites (first_walk scopes) in
        let finish = finished w.bases.paths w.values.constant w.clauses in
        let es = w.begun ++ raising w.last w.clauses in
        let there : IsIn (Appears path prefix) (with_finished finish w.own es) = subst (λ (v : Verdict). IsIn (Appears path prefix) v.writes.additions) s.is i in
        let own = fold-none path prefix (map (λ e. Declares (finish e)) es) w.own (finished-first finish es) there in
        let told = walked-first path prefix turns answers sites (first_walk scopes) refl (whole-none turns answers sites (first_walk scopes) s.named) own in
        let names = sym (sound-sites turns answers tokens scopes v s) in
        elim told as (λ _. IsIn path (declared_paths (unit_names turns answers (unit.Tokens tokens)))) [ inl j ↦ absurd j | inr j ↦ subst (λ ns. IsIn path (declared_paths ns)) names j ]

    tokens-first : (tokens : List Token) → IsIn (Appears path prefix) (outcome (verdict turns (unit.Tokens tokens)) answers).writes.additions
        → IsIn path (declared_paths (unit_names turns answers (unit.Tokens tokens)))
    tokens-first tokens i = by_fault (outcome (verdict turns (unit.Tokens tokens)) answers).fault refl
      where
        by_fault : (o : Option Fault) → (outcome (verdict turns (unit.Tokens tokens)) answers).fault ≡ o → IsIn path (declared_paths (unit_names turns answers (unit.Tokens tokens)))
        by_fault None is = sound-first tokens is i
        by_fault (Some fault) is = absurd (subst (λ (v : Verdict). IsIn (Appears path prefix) v.writes.additions) (faulty-is turns answers tokens fault is) i)

    -- a pragma tells of none
    entity-none : (at : ℕ) (change : Fixed) (e : Entity) → NoneFirst (outcome (about_entity at change e) answers).additions
    entity-none at change e = by_kind (has_id e.kind)
      where
        by_id : (o : Option Identity) → NoneFirst (elim o as (λ _. Said) [ None ↦ refused_for [] | Some d ↦ said_at at change e.path d ]).additions
        by_id None = tt
        by_id (Some d) = (tt, tt)

        by_kind : (b : Bool) → NoneFirst (outcome (cond b (and_then (known e.path) (λ d. Done (elim d as (λ _. Said) [ None ↦ refused_for [] | Some d ↦ said_at at change e.path d ]))) (Done (refused_for (fault_at at NoRepositoryId ∷ [])))) answers).additions
        by_kind true =
            subst (λ (s : Said). NoneFirst s.additions) (sym (outcome-and_then (known e.path) (λ d. Done (elim d as (λ _. Said) [ None ↦ refused_for [] | Some d ↦ said_at at change e.path d ])) answers))
            (by_id (outcome (known e.path) answers))
        by_kind false = tt

    about-none : (scopes : List Scope) (name : ScopedName) (change : Fixed) → NoneFirst (outcome (about 2 turns scopes name change) answers).additions
    about-none scopes name change =
        let query = denoted turns scopes name in
        subst (λ (s : Said). NoneFirst s.additions)
        (sym (outcome-and_then query (λ r. by_result r (λ found. about_entity (last_at 2 name) change found.entity) (λ fault. Done (refused_for (unnamed_faults 2 name fault)))) answers))
        (by_found (outcome query answers))
      where
        by_found : (r : Result Found NameFault) → NoneFirst (outcome (by_result r (λ found. about_entity (last_at 2 name) change found.entity) (λ fault. Done (refused_for (unnamed_faults 2 name fault)))) answers).additions
        by_found (Ok found) = entity-none (last_at 2 name) change found.entity
        by_found (Err fault) = tt

    said-none : (scopes : List Scope) (p : Pragma) → NoneFirst (outcome (said turns scopes p) answers).additions
    said-none scopes (pragma.Prefix text) = tt
    said-none scopes (pragma.Id name text) =
        subst (λ (s : Said). NoneFirst s.additions) (sym (outcome-and_then (about 2 turns scopes name (Id text)) (λ s. Done (with_faults (text_faults (last_at 2 name + 1) text) s)) answers)) (about-none scopes name (Id text))
    said-none scopes (pragma.Version name major minor) = about-none scopes name (Version major minor)

    pub pragma-first : (tokens : List Token) (inside : Bool) → IsIn (Appears path prefix) (outcome (verdict turns (unit.Pragma tokens inside)) answers).writes.additions → ⊥
    pragma-first tokens inside i = by_fault (outcome (verdict turns (unit.Pragma tokens inside)) answers).fault refl
      where
        by_fault : (o : Option Fault) → (outcome (verdict turns (unit.Pragma tokens inside)) answers).fault ≡ o → ⊥
        by_fault (Some fault) is = subst (λ (v : Verdict). IsIn (Appears path prefix) v.writes.additions) (faulty-pragma turns tokens inside answers fault is) i
        by_fault None is =
            let s = spoken-pragma turns tokens inside answers is in
            let scopes = scopes_in (answers Cursor) in
            none-in path prefix (outcome (said turns scopes s.pragma) answers).additions (said-none scopes s.pragma) (subst (λ (v : Verdict). IsIn (Appears path prefix) v.writes.additions) s.is i)

    pub unit-first : (text : UnitText) → Contains (outcome (verdict turns text) answers).writes.additions (Appears path prefix) → Contains (declared_paths (unit_names turns answers text)) path
    unit-first (unit.Tokens tokens) has =
        Contains-IsIn path (declared_paths (unit_names turns answers (unit.Tokens tokens)))
        (tokens-first tokens (IsIn-Contains (Appears path prefix) (outcome (verdict turns (unit.Tokens tokens)) answers).writes.additions has))
    unit-first (unit.Pragma tokens inside) has =
        absurd (pragma-first tokens inside (IsIn-Contains (Appears path prefix) (outcome (verdict turns (unit.Pragma tokens inside)) answers).writes.additions has))
