-- What a site of a unit asks, whatever is wrong before it.
use Rattle.std.proofs.Common.{◌≡◌, ◌⊎◌, ℕ, ◌≤◌, Bool, true, false, cond, List, [], ◌∷◌, ◌++◌, length, Option, Some, None, Result, refl, ap, ◌∙◌, sym, inl, inr, subst, is_some}
use Rattle.std.specs.Prelude.{◌↔◌}
use Rattle.std.specs.List.{list_any}
use Rattle.idl_asked.proofs.FactLaws.{enough, places, seen-grounded}
use Rattle.idl_asked.proofs.IdLaws.{known-asks}
use Rattle.idl_asked.proofs.NameLaws.{asks-end}
use Rattle.idl_asked.proofs.NamedLaws.{NameAsks, behind-asks, then-asks}
use Rattle.idl_asked.proofs.ThroughLaws.{reached-asks}
use Rattle.idl_asked.specs.Ids.{AsksId}
use Rattle.idl_asked.specs.Names.{AsksThrough}
use Rattle.idl_asked.specs.Units.{AsksAt, AsksDeclared, AsksUsed, counted_at, part_token}
use Rattle.idl_check_laws.proofs.IdlCheck.Visits.VisitLemmas.{turns-here}
use Rattle.idl_check_laws.specs.idl_check.ids.About.{Said, about_entity, refused_for, said_at}
use Rattle.idl_check_laws.specs.idl_check.ids.Identifying.{id_before, ids_of}
use Rattle.idl_check_laws.specs.idl_check.ids.Remarks.{about_scope, is_bad_text, prefixed_at, purpose_of, remark, said_by_text, unless}
use Rattle.idl_check_laws.specs.idl_check.declared.ids.identifying.Ids.{Ids}
use Rattle.idl_check_laws.specs.idl_check.declared.tables.standing.Standing.{Standing}
use Rattle.idl_check_laws.specs.idl_check.tables.Declaring.{entity_of, inherited, is_any, standing}
use Rattle.idl_check_laws.specs.idl_check.tables.Rules.{has_id, may_be_ahead}
use Rattle.idl_check_laws.specs.idl_check.told.Types.{looked_through}
use Rattle.idl_check_laws.specs.idl_check.walk.Walk.{Visit, Walk, declared_visit, passed, plain_name, quiet, spoken_of, spoken_visit, turns_at, unfound_visit, unspoken_visit, used, used_visit, visit}
use Rattle.idl_entity.specs.Entity.{is_operation}
use Rattle.idl_entity.specs.Kind.{inherits, is_scope}
use Rattle.idl_entity.specs.Path.{name_of}
use Rattle.idl_entity.specs.declared.entity.Entity.{Entity}
use Rattle.idl_entity.specs.declared.identity.Fixed.{Fixed}
use Rattle.idl_entity.specs.declared.identity.Fixed.TheVariants.{Id}
use Rattle.idl_entity.specs.declared.identity.Identity.{Identity}
use Rattle.idl_entity.specs.idl_tree.declared.name.ScopedName.{ScopedName}
use Rattle.idl_env.proofs.Membership.{IsIn, IsIn-left, IsIn-right, IsIn-split}
use Rattle.idl_env.specs.Facts.{UnitFacts, answers, entity_in, entity_key, prefix_in}
use Rattle.idl_env.specs.Turns.{HasTurnsFor, turns_for}
use Rattle.idl_env.specs.declared.answering.answer.Answer.{Answer}
use Rattle.idl_env.specs.declared.answering.answer.Scope.{Scope}
use Rattle.idl_env.specs.declared.keys.key.Key.{Key}
use Rattle.idl_env.specs.declared.keys.key.Key.TheVariants.{Introduced, Typeprefix}
use Rattle.idl_env.specs.declared.keys.key.Key.TheVariants as key
use Rattle.idl_fault.specs.declared.code.Code.TheVariants.{NoRepositoryId, NoScope}
use Rattle.idl_lex.specs.kinds.Keywords.{folded}
use Rattle.idl_memo.proofs.QueryLaws.{asked-and_then}
use Rattle.idl_memo.specs.Query.{Ask, Done, and_then, asked, outcome}
use Rattle.idl_parts.specs.Item.{Item}
use Rattle.idl_parts.specs.Part.{Part as item}
use Rattle.idl_parts.specs.declared.part.Declaration.{Declaration}
use Rattle.idl_parts.specs.declared.part.TextPurpose.{TextPurpose}
use Rattle.idl_parts.specs.declared.part.TextPurpose.TheVariants as text
use Rattle.idl_parts.specs.declared.part.Use.{Use}
use Rattle.idl_parts.specs.declared.part.Use.TheVariants.{AsBase, AsConstantType, AsDiscriminator, AsIdentified, AsPrefixed}
use Rattle.idl_scope.proofs.FactsLaws.{asked-under, outcome-under}
use Rattle.idl_scope.specs.Known.{known}
use Rattle.idl_scope.specs.Lookup.{Lookup, bases_of, denoted, reached, under}
use Rattle.idl_scope.specs.Meaning.{bases_at, own_at, seen}
use Rattle.idl_scope.specs.declared.fault.NameFault.{NameFault}
use Rattle.idl_scope.specs.declared.found.Found.{Found}
use Rattle.idl_tree.specs.NameParts.{last_at}
use Rattle.idl_unit.specs.TokenRules.{fault_at, first}

-- a fact of two that are one, from one to the other
pub both-by : {ks ls : List Key} (k : Key) {Asks : Type 0} → ks ≡ ls → IsIn k ls ↔ Asks → IsIn k ks ↔ Asks
both-by k same all = (λ i. all.0 (subst (IsIn k) same i), λ a. subst (IsIn k) (sym same) (all.1 a))

-- ---- what is said of an id or a scope

module _ (bank : Key → Option Answer) (e : Entity) (k : Key) where
  abbrev identify : ℕ → Fixed → Option Identity → Said
  identify at change o = elim o as (λ _. Said) [ None ↦ refused_for [] | Some d ↦ said_at at change e.path d ]

  pub about-asks : (at : ℕ) (change : Fixed) → IsIn k (asked (about_entity at change e) bank) ↔ ((has_id e.kind ≡ true) × AsksId bank e.path k)
  about-asks at change = (by_kind (has_id e.kind) refl, λ a. of_kind (has_id e.kind) a.0 a.1)
    where
      known_so : IsIn k (asked (and_then (known e.path) (λ d. Done (identify at change d))) bank) ↔ AsksId bank e.path k
      known_so = both-by k (asks-end (known e.path) (identify at change) bank) (known-asks bank e.path k)

      by_kind : (b : Bool) → has_id e.kind ≡ b
          → IsIn k (asked (cond b (and_then (known e.path) (λ d. Done (identify at change d))) (Done (refused_for (fault_at at NoRepositoryId ∷ [])))) bank) → (has_id e.kind ≡ true) × AsksId bank e.path k
      by_kind true is i = (is, known_so.0 i)
      by_kind false is i = absurd i

      of_kind : (b : Bool) → b ≡ true → AsksId bank e.path k
          → IsIn k (asked (cond b (and_then (known e.path) (λ d. Done (identify at change d))) (Done (refused_for (fault_at at NoRepositoryId ∷ [])))) bank)
      of_kind true is a = known_so.1 a
      of_kind false is a = absurd (let no : false ≡ true = is in cc)

  abbrev scoped : ℕ → List ℕ → Bool → Lookup Said
  scoped at prefix b = cond b (Ask (Typeprefix e.path) (λ answer. Done (prefixed_at at prefix e.path answer))) (Done (refused_for (fault_at at NoScope ∷ [])))

  scope-asks : (at : ℕ) (prefix : List ℕ) → IsIn k (asked (about_scope at prefix e) bank) ↔ ((is_scope e.kind ≡ true) × (k ≡ Typeprefix e.path))
  scope-asks at prefix = (by_kind (is_scope e.kind) refl, λ a. of_kind (is_scope e.kind) a.0 a.1)
    where
      by_kind : (b : Bool) → is_scope e.kind ≡ b
          → IsIn k (asked (scoped at prefix b) bank) → (is_scope e.kind ≡ true) × (k ≡ Typeprefix e.path)
      by_kind true is (inl same) = (is, sym same)
      by_kind true is (inr f) = absurd f
      by_kind false is i = absurd i

      of_kind : (b : Bool) → b ≡ true → k ≡ Typeprefix e.path
          → IsIn k (asked (scoped at prefix b) bank)
      of_kind true is a = inl (sym a)
      of_kind false is a = absurd (let no : false ≡ true = is in cc)

  remark-id : (at : ℕ) (t : List ℕ) → IsIn k (asked (remark text.Id at t e) bank) ↔ AsksUsed bank AsIdentified e k
  remark-id at t = both-by k (asks-end (said_by_text text.Id at t e) (λ s. unless (is_bad_text text.Id t) s) bank) (about-asks at (Id t))

  remark-prefix : (at : ℕ) (t : List ℕ) → IsIn k (asked (remark text.Prefix at t e) bank) ↔ AsksUsed bank AsPrefixed e k
  remark-prefix at t = both-by k (asks-end (said_by_text text.Prefix at t e) (λ s. unless (is_bad_text text.Prefix t) s) bank) (scope-asks at t)

-- ---- what stands under a declared name

module _ (facts : List UnitFacts) (w : Walk) (turns : ℕ) (h : HasTurnsFor facts w.own turns) (s : Scope) (e : Entity) (k : Key) where
  abbrev bank : Key → Option Answer
  bank = seen w.own facts

  abbrev n : List ℕ
  n = folded (name_of e.path)

  -- of bases
  abbrev Inherited : Type 0
  Inherited = (inherits s.kind ≡ true) × ((k ≡ entity_key s.path) ⊎ AsksThrough bank n (bases_at bank s.path) k)

  abbrev inherited_by : Bool → Lookup (List Entity)
  inherited_by b = cond b (Ask (entity_key s.path) (λ scope. reached turns n (bases_of (entity_in scope)))) (Done [])

  through : IsIn k (asked (reached turns n (bases_at bank s.path)) bank) ↔ AsksThrough bank n (bases_at bank s.path) k
  through = reached-asks (places facts w.own) bank (seen-grounded facts w.own) turns (enough facts w.own turns h) n s.path k

  inherited-asks : IsIn k (asked (inherited turns s n) bank) ↔ Inherited
  inherited-asks = (by_kind (inherits s.kind) refl, λ a. of_kind (inherits s.kind) a.0 a.1)
    where
      by_kind : (b : Bool) → inherits s.kind ≡ b → IsIn k (asked (inherited_by b) bank) → Inherited
      by_kind true is (inl same) = (is, inl (sym same))
      by_kind true is (inr i) = (is, inr (through.0 i))
      by_kind false is i = absurd i

      of_kind : (b : Bool) → b ≡ true → (k ≡ entity_key s.path) ⊎ AsksThrough bank n (bases_at bank s.path) k → IsIn k (asked (inherited_by b) bank)
      of_kind true is (inl same) = inl (sym same)
      of_kind true is (inr a) = inr (through.1 a)
      of_kind false is a = absurd (let no : false ≡ true = is in cc)

  -- of the id of what was declared before
  abbrev Before : Option Entity → Type 0
  Before there = (old : Entity) × (there ≡ Some old) × (may_be_ahead old.kind ≡ true) × AsksId bank old.path k

  before-asks : (there : Option Entity) → IsIn k (asked (id_before there) bank) ↔ Before there
  before-asks None = (λ i. absurd i, λ a. absurd (let no : None ≡ Some a.0 = a.1 in cc))
  before-asks (Some old) = (by_kind (may_be_ahead old.kind) refl, λ a. of_same a.0 a.1 a.2 a.3)
    where
      by_kind : (b : Bool) → may_be_ahead old.kind ≡ b → IsIn k (asked (cond b (known old.path) (Done None)) bank) → Before (Some old)
      by_kind true is i = (old, refl, is, (known-asks bank old.path k).0 i)
      by_kind false is i = absurd i

      of_kind : (b : Bool) → b ≡ true → AsksId bank old.path k → IsIn k (asked (cond b (known old.path) (Done None)) bank)
      of_kind true is a = (known-asks bank old.path k).1 a
      of_kind false is a = absurd (let no : false ≡ true = is in cc)

      some_same : (x y : Entity) → Some x ≡ Some y → x ≡ y
      some_same x y same = cc

      of_same : (x : Entity) → Some old ≡ Some x → may_be_ahead x.kind ≡ true → AsksId bank x.path k → IsIn k (asked (cond (may_be_ahead old.kind) (known old.path) (Done None)) bank)
      of_same x same is a =
          let one : x ≡ old = sym (some_same old x same) in
          of_kind (may_be_ahead old.kind) (subst (λ (y : Entity). may_be_ahead y.kind ≡ true) one is) (subst (λ (y : Entity). AsksId bank y.path k) one a)

  abbrev Ided : Option Entity → Type 0
  Ided there = (has_id e.kind ≡ true) × ((k ≡ key.Prefix) ⊎ Before there)

  abbrev ids_by : Option Entity → Bool → Lookup (Option Ids)
  ids_by there b = cond b
      (Ask key.Prefix (λ answer. and_then (id_before there) (λ before. Done (Some (record { prefix = prefix_in answer; before = before })))))
      (Done None)

  abbrev told_ids : Option Identity → Option Ids
  told_ids before = Some (record { prefix = prefix_in (bank key.Prefix); before = before })

  ids-asks : (there : Option Entity) → IsIn k (asked (ids_of there e) bank) ↔ Ided there
  ids-asks there = (by_kind (has_id e.kind) refl, λ a. of_kind (has_id e.kind) a.0 a.1)
    where
      same_end : asked (and_then (id_before there) (λ before. Done (told_ids before))) bank ≡ asked (id_before there) bank
      same_end = asks-end (id_before there) told_ids bank

      by_kind : (b : Bool) → has_id e.kind ≡ b → IsIn k (asked (ids_by there b) bank) → Ided there
      by_kind true is (inl same) = (is, inl (sym same))
      by_kind true is (inr i) = (is, inr ((before-asks there).0 (subst (IsIn k) same_end i)))
      by_kind false is i = absurd i

      of_kind : (b : Bool) → b ≡ true → (k ≡ key.Prefix) ⊎ Before there → IsIn k (asked (ids_by there b) bank)
      of_kind true is (inl same) = inl (sym same)
      of_kind true is (inr a) = inr (subst (IsIn k) (sym same_end) ((before-asks there).1 a))
      of_kind false is a = absurd (let no : false ≡ true = is in cc)

  abbrev there_at : Option Entity
  there_at = own_at bank n s.path

  -- what stands there, by what is found and told
  abbrev stood : List Entity → Option Ids → Standing
  stood found ids = record {
    there = there_at;
    is_used = is_some (bank (Introduced n s.path s.body));
    brings_operation = list_any is_operation found;
    is_reached = is_any found;
    ids = ids;
  }

  rest_is : asked (and_then (inherited turns s n) (λ found. and_then (ids_of there_at e) (λ ids. Done (stood found ids)))) bank
      ≡ asked (inherited turns s n) bank ++ asked (ids_of there_at e) bank
  rest_is =
      asked-and_then (inherited turns s n) (λ found. and_then (ids_of there_at e) (λ ids. Done (stood found ids))) bank
      ∙ ap (λ ks. asked (inherited turns s n) bank ++ ks) (asks-end (ids_of there_at e) (stood (outcome (inherited turns s n) bank)) bank)

  pub standing-asks : IsIn k (asked (standing turns s e) bank) ↔ AsksDeclared bank s e k
  standing-asks = (there, back)
    where
      by_rest : IsIn k (asked (inherited turns s n) bank) ⊎ IsIn k (asked (ids_of there_at e) bank) → AsksDeclared bank s e k
      by_rest (inl i) = inr (inl (inherited-asks.0 i))
      by_rest (inr i) = inr (inr ((ids-asks there_at).0 i))

      there : IsIn k (asked (standing turns s e) bank) → AsksDeclared bank s e k
      there (inl same) = inl (inl (sym same))
      there (inr (inl same)) = inl (inr (sym same))
      there (inr (inr i)) = by_rest (IsIn-split k (asked (inherited turns s n) bank) (asked (ids_of there_at e) bank) (subst (IsIn k) rest_is i))

      back : AsksDeclared bank s e k → IsIn k (asked (standing turns s e) bank)
      back (inl (inl same)) = inl (sym same)
      back (inl (inr same)) = inr (inl (sym same))
      back (inr (inl a)) = inr (inr (subst (IsIn k) (sym rest_is) (IsIn-left k (asked (inherited turns s n) bank) (asked (ids_of there_at e) bank) (inherited-asks.1 a))))
      back (inr (inr a)) = inr (inr (subst (IsIn k) (sym rest_is) (IsIn-right k (asked (inherited turns s n) bank) (asked (ids_of there_at e) bank) ((ids-asks there_at).1 a))))

-- ---- sites

module _ (facts : List UnitFacts) (turns : ℕ) (enough_for : turns_for facts ≤ turns) where
  -- over the answers at a walk, a name in its scopes
  abbrev pub NameAt : Walk → Use → ScopedName → Key → Type 0
  NameAt w way name k = NameAsks (seen w.own facts) w.cursor name (λ e j. AsksUsed (seen w.own facts) way e j) k

  abbrev looking : Walk → ScopedName → Lookup (Result Found NameFault)
  looking w name = under w.own (denoted (turns_at turns w) w.cursor name)

  pub turns_here : (w : Walk) → HasTurnsFor facts w.own (turns_at turns w)
  turns_here w = turns-here facts w.own turns enough_for

  through-asks : (w : Walk) (way : Use) → purpose_of way ≡ None → (e : Entity) (k : Key) → IsIn k (asked (under w.own (looked_through (turns_at turns w) way e)) (answers facts)) ↔ AsksUsed (seen w.own facts) way e k
  unfolding looked_through
  through-asks w AsConstantType none e k = behind-asks facts w.own (turns_at turns w) (turns_here w) e k
  through-asks w AsDiscriminator none e k = behind-asks facts w.own (turns_at turns w) (turns_here w) e k
  through-asks w AsIdentified none e k = absurd (let no : Some text.Id ≡ None = none in cc)
  through-asks w AsPrefixed none e k = absurd (let no : Some text.Prefix ≡ None = none in cc)
  through-asks w (AsBase is_local) none e k = (λ i. absurd i, λ a. absurd a)
  through-asks w other none e k = (λ i. absurd i, λ a. absurd a)

  pub used-asks : (w : Walk) (way : Use) (name : ScopedName) → purpose_of way ≡ None → (k : Key) → IsIn k (asked (used turns way name w) (answers facts)) ↔ NameAt w way name k
  unfolding used
  used-asks w way name none k =
      then-asks facts w.own (turns_at turns w) (turns_here w) w.cursor name (looking w name)
      (asked-under w.own (answers facts) (denoted (turns_at turns w) w.cursor name)) (outcome-under w.own (answers facts) (denoted (turns_at turns w) w.cursor name))
      (λ e j. AsksUsed (seen w.own facts) way e j)
      (λ found. and_then (under w.own (looked_through (turns_at turns w) way found.entity)) (λ behind. Done (used_visit w way name found behind)))
      (λ fault. Done (unfound_visit w way name fault))
      (λ found j. both-by j (asks-end (under w.own (looked_through (turns_at turns w) way found.entity)) (λ behind. used_visit w way name found behind) (answers facts)) (through-asks w way none found.entity j))
      (λ fault j i. i) k

  spoken-asks : (w : Walk) (way : Use) (p : TextPurpose) (name : ScopedName)
      → ((at : ℕ) (t : List ℕ) (e : Entity) (k : Key) → IsIn k (asked (remark p at t e) (seen w.own facts)) ↔ AsksUsed (seen w.own facts) way e k)
      → (k : Key) → IsIn k (asked (spoken_of turns p name w) (answers facts)) ↔ NameAt w way name k
  unfolding spoken_of
  spoken-asks w way p name said k =
      then-asks facts w.own (turns_at turns w) (turns_here w) w.cursor name (looking w name)
      (asked-under w.own (answers facts) (denoted (turns_at turns w) w.cursor name)) (outcome-under w.own (answers facts) (denoted (turns_at turns w) w.cursor name))
      (λ e j. AsksUsed (seen w.own facts) way e j)
      (λ found. and_then (under w.own (remark p (last_at w.at name) w.text found.entity)) (λ s. Done (spoken_visit w name found s)))
      (λ fault. Done (unspoken_visit w name fault))
      (λ found j. both-by j
      (asks-end (under w.own (remark p (last_at w.at name) w.text found.entity)) (λ s. spoken_visit w name found s) (answers facts)
      ∙ asked-under w.own (answers facts) (remark p (last_at w.at name) w.text found.entity))
      (said (last_at w.at name) w.text found.entity j))
      (λ fault j i. i) k

  pub named-asks : (w : Walk) (way : Use) (name : ScopedName) (k : Key) → IsIn k (asked (plain_name turns way name w) (answers facts)) ↔ NameAt w way name k
  named-asks w AsIdentified name k = spoken-asks w AsIdentified text.Id name (λ at t e j. remark-id (seen w.own facts) e j at t) k
  named-asks w AsPrefixed name k = spoken-asks w AsPrefixed text.Prefix name (λ at t e j. remark-prefix (seen w.own facts) e j at t) k
  named-asks w (AsBase is_local) name k = used-asks w (AsBase is_local) name refl k
  named-asks w other name k = used-asks w other name refl k

  -- ---- each with a token

  abbrev pub SiteAsks : Item → Walk → Key → Type 0
  SiteAsks site w k = (token : ℕ) × AsksAt (seen w.own facts) site w token k

  pub name-tokens : (w : Walk) (way : Use) (name : ScopedName) (k : Key) → NameAt w way name k → SiteAsks (item.Uses way name) w k
  name-tokens w way name k (inl a) = (part_token w way name a.0, inl (a.0, a.1, refl))
  name-tokens w way name k (inr a) = (part_token w way name (length name.rest), inr (a.0, a.1, a.2, refl))

  pub token-names : (w : Walk) (way : Use) (name : ScopedName) (k : Key) (token : ℕ) → AsksAt (seen w.own facts) (item.Uses way name) w token k → NameAt w way name k
  token-names w way name k token (inl a) = inl (a.0, a.1)
  token-names w way name k token (inr a) = inr (a.0, a.1, a.2)

  abbrev declared_by : Declaration → List ℕ → Walk → Option Scope → Lookup Visit
  declared_by way name w o = elim o as (λ _. Lookup Visit) [
    | None ↦ Done (quiet (passed 1 w))
    | Some s ↦ and_then (under w.own (standing (turns_at turns w) s (entity_of w.written way name s.path)))
        (λ there. Done (declared_visit w way s (entity_of w.written way name s.path) there))
  ]

  declared-asks : (w : Walk) (way : Declaration) (name : List ℕ) (k : Key) (o : Option Scope) → first w.cursor ≡ o → IsIn k (asked (declared_by way name w o) (answers facts)) → SiteAsks (item.Declares way name) w k
  declared-asks w way name k None is i = absurd i
  declared-asks w way name k (Some s) is i =
      let e = entity_of w.written way name s.path in
      let same : asked (declared_by way name w (Some s)) (answers facts) ≡ asked (standing (turns_at turns w) s e) (seen w.own facts) =
      asks-end (under w.own (standing (turns_at turns w) s e)) (λ there. declared_visit w way s e there) (answers facts) ∙ asked-under w.own (answers facts) (standing (turns_at turns w) s e) in
      (counted_at w w.at, (s, is, (standing-asks facts w (turns_at turns w) (turns_here w) s e k).0 (subst (IsIn k) same i), refl))

  asks-declared : (w : Walk) (way : Declaration) (name : List ℕ) (k : Key) (s : Scope) → first w.cursor ≡ Some s → AsksDeclared (seen w.own facts) s (entity_of w.written way name s.path) k
      → IsIn k (asked (declared_by way name w (first w.cursor)) (answers facts))
  asks-declared w way name k s is a =
      let e = entity_of w.written way name s.path in
      let same : asked (declared_by way name w (Some s)) (answers facts) ≡ asked (standing (turns_at turns w) s e) (seen w.own facts) =
      asks-end (under w.own (standing (turns_at turns w) s e)) (λ there. declared_visit w way s e there) (answers facts) ∙ asked-under w.own (answers facts) (standing (turns_at turns w) s e) in
      subst (λ o. IsIn k (asked (declared_by way name w o) (answers facts))) (sym is)
      (subst (IsIn k) (sym same) ((standing-asks facts w (turns_at turns w) (turns_here w) s e k).1 a))

  pub visit-asks : (site : Item) (w : Walk) (k : Key) → IsIn k (asked (visit turns site w) (answers facts)) ↔ SiteAsks site w k
  unfolding visit
  visit-asks (item.Declares way name) w k = (λ i. declared-asks w way name k (first w.cursor) refl i, λ a. asks-declared w way name k a.1.0 a.1.1 a.1.2)
  visit-asks (item.Uses way name) w k = (λ i. name-tokens w way name k ((named-asks w way name k).0 i), λ a. (named-asks w way name k).1 (token-names w way name k a.0 a.1))
  visit-asks other w k = (λ i. absurd i, λ a. absurd a.1)
