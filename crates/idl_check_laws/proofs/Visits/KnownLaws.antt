-- What a unit declares is known behind it, and what appears by it was not declared before.
use Rattle.std.proofs.Common.{◌≡◌, ◌⊎◌, ◌∙◌, ℕ, Bool, true, false, cond, List, [], ◌∷◌, ◌++◌, is_some, length, map, slice_get, Option, None, Some, Result, Ok, Err, refl, sym, ap, subst, inl, inr}
use Rattle.std.specs.Option.{IsSome, option_map}
use Rattle.std.specs.Prelude.{fold}
use Rattle.idl_check.proofs.Faults.VisitFaults.{visit_faults}
use Rattle.idl_check.proofs.Visits.NamesLemmas.{names-end}
use Rattle.idl_check.proofs.Visits.SiteLaws.{declared_by, end_visit, spoken_by, union_visit, used_by, visit-placed, visited}
use Rattle.idl_check.proofs.Visits.VerdictLaws.{faulty-is, sound-is}
use Rattle.idl_check.proofs.Visits.WalkLaws.{none-append}
use Rattle.idl_check.proofs.Visits.WholeLaws.{whole-none}
use Rattle.idl_check.specs.ids.Identifying.{with_identity}
use Rattle.idl_check.specs.ids.Remarks.{purpose_of, remark}
use Rattle.idl_check.specs.tables.Declaring.{entity_of, finished, standing, stays, with_declared}
use Rattle.idl_check.specs.tables.Using.{last_after, own_after, uses_of, with_uses}
use Rattle.idl_check.specs.told.Bodies.{array_of, raising}
use Rattle.idl_check.specs.told.Types.{looked_through}
use Rattle.idl_check.specs.walk.Judging.{walked}
use Rattle.idl_check.specs.walk.Names.{declared_paths, named, names_at, site_names, unit_names}
use Rattle.idl_check.specs.walk.Verdict.{verdict}
use Rattle.idl_check.specs.walk.Walk.{Visit, Walk, declared_visit, first_walk, outcome_at, plain_name, spoken_of, spoken_visit, turns_at, used, used_visit, value_visit, visit, with_array}
use Rattle.idl_check.specs.declared.ids.identifying.Ids.{Ids}
use Rattle.idl_check.specs.declared.tables.standing.Standing.{Standing}
use Rattle.idl_check.specs.declared.walk.names.NameRole.TheVariants.{Declared as IsDeclared, Used as IsUsed}
use Rattle.idl_check.specs.declared.walk.verdict.Verdict.{Verdict}
use Rattle.idl_check_laws.proofs.Fits.WalkingLaws.{standing-there}
use Rattle.idl_check_laws.proofs.Visits.FirstLaws.{any-keeps, array-first, end-first, finished-first, fold-none, pragma-first, valued-first, with-none}
use Rattle.idl_check_laws.proofs.Visits.NameLaws.{declared-append, sound-names, sound-sites}
use Rattle.idl_entity.specs.Kind.{kind_eq}
use Rattle.idl_entity.specs.declared.entity.Entity.{Entity}
use Rattle.idl_entity.specs.declared.identity.Prefix.{Prefix}
use Rattle.idl_entity.specs.declared.kind.Kind.TheVariants.{Union}
use Rattle.idl_env.proofs.FirstLemmas.{addition_at-with_addition}
use Rattle.idl_env.proofs.Membership.{IsIn, IsIn-split}
use Rattle.idl_env.specs.Facts.{addition_at, answer_of, entity_in, entity_key, key_of, over, scopes_in, with_addition}
use Rattle.idl_env.specs.SameKey.{same_key}
use Rattle.idl_env.specs.keys.Digested.{key_equiv}
use Rattle.idl_env.specs.keys.Key.{key_eq}
use Rattle.idl_env.specs.declared.additions.addition.Addition.{Addition}
use Rattle.idl_env.specs.declared.additions.addition.Addition.TheVariants.{Appears, Declares, Identifies, TypePrefixes, Uses, UsesFurther}
use Rattle.idl_env.specs.declared.answering.answer.Answer.{Answer}
use Rattle.idl_env.specs.declared.answering.answer.Answer.TheVariants.{Known}
use Rattle.idl_env.specs.declared.answering.answer.Scope.{Scope}
use Rattle.idl_env.specs.declared.keys.key.Key.{Key}
use Rattle.idl_env.specs.declared.keys.key.Key.TheVariants.{Cursor}
use Rattle.idl_lex.specs.kinds.Keywords.{folded}
use Rattle.idl_lex.specs.tokens.Tokens.{Token}
use Rattle.idl_memo.proofs.QueryLaws.{outcome-and_then}
use Rattle.idl_memo.specs.Query.{Done, outcome}
use Rattle.idl_parts.specs.Item.{Item, items}
use Rattle.idl_parts.specs.Part.{Part as item}
use Rattle.idl_parts.specs.UnitParts.{unit_parts}
use Rattle.idl_parts.specs.declared.part.Declaration.{Declaration}
use Rattle.idl_parts.specs.declared.part.Purpose.{Purpose}
use Rattle.idl_parts.specs.declared.part.Purpose.TheVariants as purpose
use Rattle.idl_parts.specs.declared.part.TextPurpose.{TextPurpose}
use Rattle.idl_parts.specs.declared.part.Use.{Use}
use Rattle.idl_parts.specs.declared.part.Use.TheVariants.{AsStructBase}
use Rattle.idl_scope.proofs.FactsLaws.{outcome-under}
use Rattle.idl_scope.specs.Lookup.{Lookup, denoted, under}
use Rattle.idl_scope.specs.declared.fault.NameFault.{NameFault}
use Rattle.idl_scope.specs.declared.fault.NameFault.TheVariants.{At, Memory}
use Rattle.idl_scope.specs.declared.found.Found.{Found}
use Rattle.idl_tree.specs.NameParts.{last_at}
use Rattle.idl_tree.specs.declared.name.ScopedName.{ScopedName}
use Rattle.idl_unit.specs.TokenRules.{first as first_of}
use Rattle.idl_unit.specs.declared.fault.Fault.{Fault}
use Rattle.idl_unit.specs.declared.unit.UnitText.{UnitText}
use Rattle.idl_unit.specs.declared.unit.UnitText.TheVariants as unit
use Rattle.idl_value.specs.declared.outcome.Outcome.{Outcome}
use Rattle.idl_value.specs.declared.outcome.Outcome.TheVariants as comes

-- ---- what is there at a path, over what a unit's tokens add

module _ (answers : Key → Option Answer) where
  abbrev pub there_at : List Addition → List (List ℕ) → Option Entity
  there_at own path = entity_in (over own (entity_key path) (answers (entity_key path)))

  abbrev pub IsThere : List Addition → List (List ℕ) → Type 0
  IsThere own path = IsSome (there_at own path)

  over-with : (own : List Addition) (a : Addition) (k : Key) (before : Option Answer) → over (with_addition own a) k before ≡ cond (key_eq k (key_of a)) (Some (answer_of a)) (over own k before)
  over-with own a k before = ap (λ o. elim o [ None ↦ before | Some b ↦ Some (answer_of b) ]) (addition_at-with_addition own a k) ∙ by (key_eq k (key_of a))
    where
      by : (b : Bool) → elim (cond b (Some a) (addition_at own k)) [ None ↦ before | Some b ↦ Some (answer_of b) ] ≡ cond b (Some (answer_of a)) (over own k before)
      by true = refl
      by false = refl

  -- it is there still with one more, and with many
  with-there : (own : List Addition) (a : Addition) (path : List (List ℕ)) → IsThere own path → IsThere (with_addition own a) path
  with-there own a path h =
      subst (λ (o : Option Answer). IsSome (entity_in o)) (sym (over-with own a (entity_key path) (answers (entity_key path)))) (by (key_eq (entity_key path) (key_of a)) refl)
    where
      at_key : (b : Addition) → entity_key path ≡ key_of b → IsSome (entity_in (Some (answer_of b)))
      at_key (Declares e) is = refl
      at_key (Uses n q body) is = cc
      at_key (UsesFurther n q further) is = cc
      at_key (Appears q prefix) is = cc
      at_key (Identifies q fixed) is = cc
      at_key (TypePrefixes q text) is = cc

      by : (t : Bool) → key_eq (entity_key path) (key_of a) ≡ t → IsSome (entity_in (cond t (Some (answer_of a)) (over own (entity_key path) (answers (entity_key path)))))
      by true is = at_key a (same_key (entity_key path) (key_of a) is)
      by false is = h

  fold-there : (more own : List Addition) (path : List (List ℕ)) → IsThere own path → IsThere (fold with_addition own more) path
  fold-there [] own path h = h
  fold-there (a ∷ more) own path h = fold-there more (with_addition own a) path (with-there own a path h)

  declares-there : (own : List Addition) (e : Entity) → IsThere (with_addition own (Declares e)) e.path
  declares-there own e =
      subst (λ (o : Option Answer). IsSome (entity_in o)) (sym (over-with own (Declares e) (entity_key e.path) (answers (entity_key e.path))))
      (subst (λ b. IsSome (entity_in (cond b (Some (Known e)) (over own (entity_key e.path) (answers (entity_key e.path)))))) (sym (key_equiv.refl (entity_key e.path))) refl)

  -- ---- declared names

  identity-there : (o : Option Entity) (ids : Option Ids) (e : Entity) (own : List Addition) (path : List (List ℕ)) → IsThere own path → IsThere (with_identity o ids e own) path
  identity-there (Some old) ids e own path h = h
  identity-there None None e own path h = h
  identity-there None (Some ids) e own path h = with-there own (Appears e.path ids.prefix) path h

  declared-there : (there : Standing) (e : Entity) (own : List Addition) (path : List (List ℕ)) → IsThere own path → IsThere (with_declared there e own) path
  declared-there there e own path h = by (stays there.there e)
    where
      by : (b : Bool) → IsThere (cond b (with_identity there.there there.ids e own) (with_addition (with_identity there.there there.ids e own) (Declares e))) path
      by true = identity-there there.there there.ids e own path h
      by false = with-there (with_identity there.there there.ids e own) (Declares e) path (identity-there there.there there.ids e own path h)

  stays-some : (o : Option Entity) (e : Entity) → stays o e ≡ true → IsSome o
  stays-some None e h = cc
  stays-some (Some old) e h = refl

  here-there : (there : Standing) (e : Entity) (own : List Addition) → there.there ≡ there_at own e.path → IsThere (with_declared there e own) e.path
  here-there there e own is = by (stays there.there e) refl
    where
      by : (b : Bool) → stays there.there e ≡ b → IsThere (cond b (with_identity there.there there.ids e own) (with_addition (with_identity there.there there.ids e own) (Declares e))) e.path
      by true h = identity-there there.there there.ids e own e.path (subst IsSome is (stays-some there.there e h))
      by false h = declares-there (with_identity there.there there.ids e own) e

  -- ---- a site

  -- what was declared last is there
  abbrev LastIs : List Addition → Option Entity → Type 0
  LastIs own None = Unit {0}
  LastIs own (Some e) = IsThere own e.path

  abbrev Keep : List Addition → List Addition → Type 0
  Keep own more = (path : List (List ℕ)) → IsThere own path → IsThere more path

  last-on : (own more : List Addition) (o : Option Entity) → Keep own more → LastIs own o → LastIs more o
  last-on own more None keep h = tt
  last-on own more (Some e) keep h = keep e.path h

  -- what was there is, and so is what was declared last
  abbrev pub Goes : Walk → Visit → Type 0
  Goes w v = Keep w.own v.after.own × (LastIs w.own w.last → LastIs v.after.own v.after.last)

  base-there : (way : Use) (o : Option Entity) (own : List Addition) → Keep own (own_after way o own)
  base-there AsStructBase (Some e) own path h = with-there own (Declares e) path h
  base-there other o own path h = h

  base-last : (way : Use) (path : List (List ℕ)) (o : Option Entity) (own : List Addition) → LastIs own o → LastIs own (last_after way path o)
  base-last AsStructBase path (Some e) own h = h
  base-last other path o own h = h

  array-goes : (w : Walk) (lengths : List ℕ) (o : Option Entity) → Keep w.own (with_array lengths o w.own)
  array-goes w lengths None path h = h
  array-goes w lengths (Some e) path h = with-there w.own (Declares (array_of lengths e)) path h

  value-goes : (w : Walk) (way : Purpose) (o : Outcome) → Goes w (value_visit w way o)
  value-goes w purpose.Bound (comes.Value v) = (λ path h. h, λ h. h)
  value-goes w purpose.Constant (comes.Value v) = (λ path h. h, λ h. h)
  value-goes w purpose.Length (comes.Value v) = (λ path h. h, λ h. h)
  value-goes w purpose.Label (comes.Value v) = (λ path h. h, λ h. h)
  value-goes w way (comes.Fault f) = (λ path h. h, λ h. h)
  value-goes w way comes.Told = (λ path h. h, λ h. h)

  union-goes : (w : Walk) (b : Bool) → Goes w (union_visit w b)
  union-goes w true = (λ path h. h, λ h. h)
  union-goes w false = (λ path h. h, λ h. h)

  end-goes : (w : Walk) (o : Option Scope) → Goes w (end_visit w o)
  end-goes w None = (λ path h. h, λ h. h)
  end-goes w (Some s) = union-goes w (kind_eq s.kind Union)

  module _ (turns : ℕ) where
    -- what stands under a declared name is what is there
    pub standing-is : (w : Walk) (s : Scope) (way : Declaration) (name : List ℕ)
        → (outcome (under w.own (standing (turns_at turns w) s (entity_of w.written way name s.path))) answers).there ≡ there_at w.own (name ∷ s.path)
    standing-is w s way name =
        let e = entity_of w.written way name s.path in
        ap (λ (x : Standing). x.there) (outcome-under w.own answers (standing (turns_at turns w) s e))
        ∙ standing-there (turns_at turns w) (λ k. over w.own k (answers k)) s e

    declared-goes : (way : Declaration) (name : List ℕ) (w : Walk) (o : Option Scope) → Goes w (outcome (declared_by turns answers way name w o) answers)
    declared-goes way name w None = (λ path h. h, λ h. h)
    declared-goes way name w (Some s) =
        let e = entity_of w.written way name s.path in
        let query = under w.own (standing (turns_at turns w) s e) in
        let st = outcome query answers in
        subst (Goes w) (sym (outcome-and_then query (λ there. Done (declared_visit w way s e there)) answers))
        (declared-there st e w.own, λ h. here-there st e w.own (standing-is w s way name))

    used-goes : (way : Use) (name : ScopedName) (w : Walk) (r : Result Found NameFault) → Goes w (outcome (used_by turns answers way name w r) answers)
    used-goes way name w (Ok found) =
        let last = last_after way found.entity.path w.last in
        let used = with_uses (folded name.first) found.reach w.cursor w.own in
        let keep : Keep w.own (own_after way last used) = λ path h.
        base-there way last used path (fold-there (uses_of (folded name.first) found.reach w.cursor w.own) w.own path h) in
        subst (Goes w) (sym (outcome-and_then (under w.own (looked_through (turns_at turns w) way found.entity)) (λ behind. Done (used_visit w way name found behind)) answers))
        (keep, λ h. base-last way found.entity.path w.last (own_after way last used) (last-on w.own (own_after way last used) w.last keep h))
    used-goes way name w (Err (At why part)) = (λ path h. h, λ h. h)
    used-goes way name w (Err Memory) = (λ path h. h, λ h. h)

    plain-goes : (way : Use) (name : ScopedName) (w : Walk) → Goes w (outcome (used turns way name w) answers)
    unfolding used
    plain-goes way name w =
        let query = under w.own (denoted (turns_at turns w) w.cursor name) in
        subst (Goes w) (sym (outcome-and_then query (used_by turns answers way name w) answers)) (used-goes way name w (outcome query answers))

    spoken-goes : (p : TextPurpose) (name : ScopedName) (w : Walk) (r : Result Found NameFault) → Goes w (outcome (spoken_by turns answers p name w r) answers)
    spoken-goes p name w (Ok found) =
        let query = under w.own (remark p (last_at w.at name) w.text found.entity) in
        let more = (outcome query answers).additions in
        subst (Goes w) (sym (outcome-and_then query (λ s. Done (spoken_visit w name found s)) answers))
        (fold-there more w.own, last-on w.own (fold with_addition w.own more) w.last (fold-there more w.own))
    spoken-goes p name w (Err fault) = (λ path h. h, λ h. h)

    said-goes : (p : TextPurpose) (name : ScopedName) (w : Walk) → Goes w (outcome (spoken_of turns p name w) answers)
    unfolding spoken_of
    said-goes p name w =
        let query = under w.own (denoted (turns_at turns w) w.cursor name) in
        subst (Goes w) (sym (outcome-and_then query (spoken_by turns answers p name w) answers)) (spoken-goes p name w (outcome query answers))

    any-goes : (way : Use) (name : ScopedName) (w : Walk) → Goes w (outcome (plain_name turns way name w) answers)
    any-goes way name w = by_purpose (purpose_of way)
      where
        by_purpose : (o : Option TextPurpose) → Goes w (outcome (elim o as (λ _. Lookup Visit) [ None ↦ used turns way name w | Some p ↦ spoken_of turns p name w ]) answers)
        by_purpose (Some p) = said-goes p name w
        by_purpose None = plain-goes way name w

    site-goes : (site : Item) (w : Walk) → Goes w (visited turns answers site w)
    unfolding visit
    site-goes (item.Declares way name) w = declared-goes way name w (first_of w.cursor)
    site-goes (item.Uses way name) w = any-goes way name w
    site-goes (item.ValueEnds way e) w = value-goes w way (outcome_at w way e)
    site-goes item.ScopeEnds w = end-goes w (first_of w.cursor)
    site-goes item.ArrayEnds w =
        let keep = array-goes w w.values.lengths w.last in
        (keep, last-on w.own (with_array w.values.lengths w.last w.own) w.last keep)
    site-goes other w = (λ path h. h, λ h. h)

    -- ---- declared names are there

    used-undeclared : (n : ℕ) (o : Option (List (List ℕ))) (path : List (List ℕ)) → IsIn path (declared_paths (named IsUsed n o)) → ⊥
    used-undeclared n None path i = i
    used-undeclared n (Some used) path i = i

    last-named : (n : ℕ) (own : List Addition) (o : Option Entity) (path : List (List ℕ)) → LastIs own o → IsIn path (declared_paths (named IsDeclared n (option_map (λ e. e.path) o))) → IsThere own path
    last-named n own None path h i = absurd i
    last-named n own (Some e) path h (inl is) = subst (IsThere own) is h
    last-named n own (Some e) path h (inr i) = absurd i

    at-named : (site : Item) (w after : Walk) (path : List (List ℕ)) → LastIs after.own after.last → IsIn path (declared_paths (names_at site w after)) → IsThere after.own path
    at-named (item.Declares way name) w after path h i = last-named w.at after.own after.last path h i
    at-named (item.Uses way name) w after path h i = absurd (used-undeclared (last_at w.at name) (slice_get after.found (length w.found)) path i)
    at-named other w after path h i = absurd i

    walked-keeps : (sites : List Item) (w : Walk) → Keep w.own (walked turns answers sites w).own
    walked-keeps [] w path h = h
    walked-keeps (site ∷ sites) w path h = walked-keeps sites (visited turns answers site w).after path ((site-goes site w).0 path h)

    pub walked-named : (sites : List Item) (w : Walk) → w.fault ≡ None → visit_faults turns answers sites w ≡ [] → LastIs w.own w.last → (path : List (List ℕ))
        → IsIn path (declared_paths (site_names turns answers sites w)) → IsThere (walked turns answers sites w).own path
    walked-named [] w none h last path i = absurd (subst (λ ns. IsIn path (declared_paths ns)) (names-end turns answers w) i)
    walked-named (site ∷ sites) w none h last path i =
        let v = visited turns answers site w in
        let parts = none-append v.faults (visit_faults turns answers sites v.after) h in
        let here = names_at site w v.after in
        let rest = site_names turns answers sites v.after in
        let next = (site-goes site w).1 last in
        let whole : declared_paths (site_names turns answers (site ∷ sites) w) ≡ declared_paths here ++ declared_paths rest = ap declared_paths (sound-names turns answers site sites w none parts.0) ∙ declared-append here rest in
        elim (IsIn-split path (declared_paths here) (declared_paths rest) (subst (IsIn path) whole i)) as (λ _. IsThere (walked turns answers (site ∷ sites) w).own path) [
          | inl j ↦ walked-keeps sites v.after path (at-named site w v.after path next j)
          | inr j ↦ walked-named sites v.after ((visit-placed turns answers site w).keeps ∙ none) parts.1 next path j
        ]

    -- ---- what appears was not there

    module _ (path : List (List ℕ)) (prefix : Prefix) where
      abbrev IsFirst : List Addition → Type 0
      IsFirst own = IsIn (Appears path prefix) own

      -- one that is in a list with one more was there, or is that
      with-first : (b : Addition) (own : List Addition) → IsFirst (with_addition own b) → IsFirst own ⊎ (b ≡ Appears path prefix)
      with-first b [] (inl e) = inr e
      with-first b [] (inr i) = absurd i
      with-first b (c ∷ own) i = by (with-first b own) (key_eq (key_of b) (key_of c)) i
        where
          by : (IsFirst (with_addition own b) → IsFirst own ⊎ (b ≡ Appears path prefix)) → (t : Bool) → IsFirst (cond t (b ∷ own) (c ∷ with_addition own b)) → IsFirst (c ∷ own) ⊎ (b ≡ Appears path prefix)
          by more true (inl e) = inr e
          by more true (inr i) = inl (inr i)
          by more false (inl e) = inl (inl e)
          by more false (inr i) = elim (more i) as (λ _. IsFirst (c ∷ own) ⊎ (b ≡ Appears path prefix)) [ inl j ↦ inl (inr j) | inr e ↦ inr e ]

      -- it was there, or nothing was, and it is that
      abbrev IsNew : Option Entity → Entity → List Addition → Type 0
      IsNew o e own = IsFirst own ⊎ ((o ≡ None) × (e.path ≡ path))

      identity-fresh : (o : Option Entity) (ids : Option Ids) (e : Entity) (own : List Addition) → IsFirst (with_identity o ids e own) → IsNew o e own
      identity-fresh (Some old) ids e own i = inl i
      identity-fresh None None e own i = inl i
      identity-fresh None (Some ids) e own i =
          elim (with-first (Appears e.path ids.prefix) own i) as (λ _. IsNew None e own) [ inl j ↦ inl j | inr is ↦ inr (refl, cc) ]

      declared-fresh : (there : Standing) (e : Entity) (own : List Addition) → IsFirst (with_declared there e own) → IsNew there.there e own
      declared-fresh there e own i = by (stays there.there e) i
        where
          by : (b : Bool) → IsFirst (cond b (with_identity there.there there.ids e own) (with_addition (with_identity there.there there.ids e own) (Declares e))) → IsNew there.there e own
          by true i = identity-fresh there.there there.ids e own i
          by false i = identity-fresh there.there there.ids e own (with-none path prefix (Declares e) (with_identity there.there there.ids e own) tt i)

      abbrev Fresh : Walk → Visit → Type 0
      Fresh w v = IsFirst v.after.own → IsFirst w.own ⊎ (there_at w.own path ≡ None)

      declares-fresh : (way : Declaration) (name : List ℕ) (w : Walk) (o : Option Scope) → Fresh w (outcome (declared_by turns answers way name w o) answers)
      declares-fresh way name w None i = inl i
      declares-fresh way name w (Some s) i =
          let e = entity_of w.written way name s.path in
          let query = under w.own (standing (turns_at turns w) s e) in
          let st = outcome query answers in
          let there = standing-is w s way name in
          let v = outcome-and_then query (λ there. Done (declared_visit w way s e there)) answers in
          elim (declared-fresh st e w.own (subst (λ (v : Visit). IsFirst v.after.own) v i)) as (λ _. IsFirst w.own ⊎ (there_at w.own path ≡ None))
          [ inl j ↦ inl j | inr is ↦ inr (ap (there_at w.own) (sym is.1) ∙ sym there ∙ is.0) ]

      at-fresh : (site : Item) (w : Walk) → Fresh w (visited turns answers site w)
      unfolding visit
      at-fresh (item.Declares way name) w i = declares-fresh way name w (first_of w.cursor) i
      at-fresh (item.Uses way name) w i = inl (any-keeps path prefix turns answers way name w i)
      at-fresh (item.ValueEnds way e) w i = inl (subst IsFirst (valued-first path prefix w way (outcome_at w way e)) i)
      at-fresh item.ScopeEnds w i = inl (subst IsFirst (end-first path prefix w (first_of w.cursor)) i)
      at-fresh item.ArrayEnds w i = inl (array-first path prefix w.values.lengths w.last w.own i)
      at-fresh other w i = inl i

      -- nothing is there behind what was not before
      not-before : (own more : List Addition) → Keep own more → there_at more path ≡ None → there_at own path ≡ None
      not-before own more keep none = by (there_at own path) refl
        where
          by : (o : Option Entity) → there_at own path ≡ o → o ≡ None
          by None is = refl
          by (Some e) is =
              let some : IsSome (there_at own path) = ap is_some is in
              let later : IsSome (there_at more path) = keep path some in
              let no : false ≡ true = sym (ap is_some none) ∙ later in
              cc

      pub walked-fresh : (sites : List Item) (w : Walk) → IsFirst (walked turns answers sites w).own → IsFirst w.own ⊎ (there_at w.own path ≡ None)
      walked-fresh [] w i = inl i
      walked-fresh (site ∷ sites) w i =
          let v = visited turns answers site w in
          elim (walked-fresh sites v.after i) as (λ _. IsFirst w.own ⊎ (there_at w.own path ≡ None)) [
            | inl j ↦ at-fresh site w j
            | inr none ↦ inr (not-before w.own v.after.own (site-goes site w).0 none)
          ]

-- ---- units

module _ (turns : ℕ) (answers : Key → Option Answer) where
  abbrev told : List Token → Verdict
  told tokens = outcome (verdict turns (unit.Tokens tokens)) answers

  pub unit-known : (text : UnitText) (path : List (List ℕ)) → (outcome (verdict turns text) answers).fault ≡ None → IsIn path (declared_paths (unit_names turns answers text))
      → IsThere answers (outcome (verdict turns text) answers).writes.additions path
  unit-known (unit.Tokens tokens) path none i =
      let scopes = scopes_in (answers Cursor) in
      let s = sound-is turns answers tokens none in
      let sites = items (unit_parts s.tree) in
      let w = walked turns answers sites (first_walk scopes) in
      let es = w.begun ++ raising w.last w.clauses in
      let names = sound-sites turns answers tokens scopes (told tokens) s in
      let own = walked-named answers turns sites (first_walk scopes) refl (whole-none turns answers sites (first_walk scopes) s.named) tt path (subst (λ ns. IsIn path (declared_paths ns)) names i) in
      subst (λ (v : Verdict). IsThere answers v.writes.additions path) (sym s.is)
      (fold-there answers (map (λ e. Declares (finished w.bases.paths w.values.constant w.clauses e)) es) w.own path own)
  unit-known (unit.Pragma tokens inside) path none i = absurd i

  module _ (path : List (List ℕ)) (prefix : Prefix) where
    tokens-fresh : (tokens : List Token) (o : Option Fault) → (told tokens).fault ≡ o → IsIn (Appears path prefix) (told tokens).writes.additions → entity_in (answers (entity_key path)) ≡ None
    tokens-fresh tokens (Some fault) is i = absurd (subst (λ (v : Verdict). IsIn (Appears path prefix) v.writes.additions) (faulty-is turns answers tokens fault is) i)
    tokens-fresh tokens None none i =
        let scopes = scopes_in (answers Cursor) in
        let s = sound-is turns answers tokens none in
        let sites = items (unit_parts s.tree) in
        let w = walked turns answers sites (first_walk scopes) in
        let finish = finished w.bases.paths w.values.constant w.clauses in
        let es = w.begun ++ raising w.last w.clauses in
        let own = fold-none path prefix (map (λ e. Declares (finish e)) es) w.own (finished-first finish es) (subst (λ (v : Verdict). IsIn (Appears path prefix) v.writes.additions) s.is i) in
        elim (walked-fresh answers turns path prefix sites (first_walk scopes) own) as (λ _. entity_in (answers (entity_key path)) ≡ None) [ inl j ↦ absurd j | inr is ↦ is ]

    pub unit-fresh : (text : UnitText) → IsIn (Appears path prefix) (outcome (verdict turns text) answers).writes.additions → entity_in (answers (entity_key path)) ≡ None
    unit-fresh (unit.Tokens tokens) i = tokens-fresh tokens (told tokens).fault refl i
    unit-fresh (unit.Pragma tokens inside) i = absurd (pragma-first turns answers path prefix tokens inside i)
