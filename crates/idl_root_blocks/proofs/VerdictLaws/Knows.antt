-- What a unit adds so far was asked: of each name that it declares, and of its bases.
use Rattle.std.proofs.Common.{◌≡◌, ◌⊎◌, ℕ, Bool, true, false, cond, ◌&&◌, List, [], ◌∷◌, ◌++◌, Option, Some, None, refl, sym, ap, ◌∙◌, subst, inl, inr}
use Rattle.std.specs.Prelude.{All, Contains, fold}
use Rattle.std.specs.List.{list_any}
use Rattle.std.proofs.lemmas.List.Elements.{All-append, All-cons, All-head, All-nil, All-tail}
use Rattle.idl_check_laws.proofs.IdlCheck.UseLemmas.{DeclareNone, uses-none}
use Rattle.idl_check_laws.specs.idl_check.ids.Identifying.{with_identity}
use Rattle.idl_check_laws.specs.idl_check.tables.Declaring.{finished, stays, with_declared, with_finished}
use Rattle.idl_check_laws.specs.idl_check.told.Bodies.{Body, Clauses, array_of, is_member, member_of, raises, raising, signature_of, told_body, told_innermost, with_array_member, with_array_type, with_body_label, with_innermost, with_last_type, with_member, with_name, with_next_label}
use Rattle.idl_check_laws.specs.idl_check.tables.Using.{Bases, bases_after, last_after, own_after, uses_of, with_uses}
use Rattle.idl_check_laws.specs.idl_check.declared.ids.identifying.Ids.{Ids}
use Rattle.idl_check_laws.specs.idl_check.declared.tables.standing.Standing.{Standing}
use Rattle.idl_check_laws.specs.idl_check.walk.Walk.{Walk, with_array}
use Rattle.idl_entity.specs.Kind.{kind_eq}
use Rattle.idl_entity.specs.Path.{name_of, path_eq, scope_of}
use Rattle.idl_entity.specs.declared.entity.Entity.{Entity}
use Rattle.idl_entity.specs.declared.kind.Kind.TheVariants.{Attribute, Interface, Member as MemberKind}
use Rattle.idl_entity.specs.declared.kind.Stage.TheVariants.{Complete, Open}
use Rattle.idl_env.proofs.Membership.{IsIn, IsIn-split}
use Rattle.idl_env.specs.Facts.{addition_at, answer_of, entity_in, entity_key, joined, key_of, over, with_addition}
use Rattle.idl_env.specs.declared.additions.addition.Addition.{Addition}
use Rattle.idl_env.specs.declared.additions.addition.Addition.TheVariants.{Declares, Uses, UsesFurther, Appears, Identifies, TypePrefixes}
use Rattle.idl_env.specs.declared.answering.answer.Answer.{Answer}
use Rattle.idl_env.specs.declared.answering.answer.Scope.{Scope}
use Rattle.idl_env.specs.declared.keys.key.Key.{Key}
use Rattle.idl_env.specs.declared.keys.key.Key.TheVariants.{Declared}
use Rattle.idl_env.specs.keys.Digested.{key_equiv}
use Rattle.idl_env.specs.keys.Key.{key_eq}
use Rattle.idl_block.proofs.FactLaws.StandingLaws.{found-is}
use Rattle.idl_lex.specs.kinds.Keywords.{folded}
use Rattle.idl_parts.specs.declared.part.Declaration.{Declaration}
use Rattle.idl_parts.specs.declared.part.Use.{Use}
use Rattle.idl_parts.specs.declared.part.Use.TheVariants.{AsBase, AsStructBase}
use Rattle.idl_scope.specs.declared.found.Reach.{Reach}
use Rattle.idl_value.specs.declared.value.Value.{Value}
use Rattle.idl_root_blocks.specs.verdicts.Owned.{AreOwned}

-- ---- additions

-- one more addition is the new one, or was there
in-with : (own : List Addition) (a x : Addition) → IsIn x (with_addition own a) → IsIn x own ⊎ (a ≡ x)
in-with [] a x (inl e) = inr e
in-with [] a x (inr i) = absurd i
in-with (b ∷ own) a x i = by (in-with own a x) (key_eq (key_of a) (key_of b)) i
  where
    by : (IsIn x (with_addition own a) → IsIn x own ⊎ (a ≡ x)) → (t : Bool) → IsIn x (cond t (a ∷ own) (b ∷ with_addition own a)) → IsIn x (b ∷ own) ⊎ (a ≡ x)
    by rest true (inl e) = inr e
    by rest true (inr i) = inl (inr i)
    by rest false (inl e) = inl (inl e)
    by rest false (inr i) = on (rest i)
      where
        on : IsIn x own ⊎ (a ≡ x) → IsIn x (b ∷ own) ⊎ (a ≡ x)
        on (inl i) = inl (inr i)
        on (inr e) = inr e

-- what is declared stands at its own key with these too
pub owned-over : (own : List Addition) (bank : Key → Option Answer) → AreOwned bank → AreOwned (λ k. over own k (bank k))
owned-over own bank owned n path e is = by (addition_at own (Declared n path)) refl is
  where
    by : (o : Option Addition) → addition_at own (Declared n path) ≡ o
        → entity_in (elim o as (λ _. Option Answer) [ None ↦ bank (Declared n path) | Some a ↦ Some (answer_of a) ]) ≡ Some e → entity_key e.path ≡ Declared n path
    by None at is = owned n path e is
    by (Some (Declares x)) at is =
        let same : x ≡ e = cc in
        ap (λ (y : Entity). entity_key y.path) (sym same) ∙ sym (found-is own (Declared n path) (Declares x) at).0
    by (Some (Uses m q b)) at is = cc
    by (Some (UsesFurther m q further)) at is = cc
    by (Some (Appears q prefix)) at is = cc
    by (Some (Identifies q fixed)) at is = cc
    by (Some (TypePrefixes q text)) at is = cc

module _ (keys : List Key) where
  -- it was asked what its name is declared as, and so of its bases
  abbrev pub IsKnown : Entity → Type 0
  IsKnown e = Contains keys (entity_key e.path) × All (λ b. Contains keys (entity_key b)) e.bases

  abbrev pub AreKnown : List Addition → Type 0
  AreKnown own = (e : Entity) → IsIn (Declares e) own → IsKnown e

  known-with : (own : List Addition) (a : Addition) → AreKnown own → ((e : Entity) → a ≡ Declares e → IsKnown e) → AreKnown (with_addition own a)
  known-with own a known new e i = by (in-with own a (Declares e) i)
    where
      by : IsIn (Declares e) own ⊎ (a ≡ Declares e) → IsKnown e
      by (inl i) = known e i
      by (inr is) = new e is

  known-declares : (own : List Addition) (x : Entity) → AreKnown own → IsKnown x → AreKnown (with_addition own (Declares x))
  known-declares own x known here = known-with own (Declares x) known (λ e is. (let same : x ≡ e = cc in subst IsKnown same here))

  -- what declares nothing
  declares-nothing : (a : Addition) (e : Entity) → ((m : List ℕ) (q : List (List ℕ)) → key_eq (Declared m q) (key_of a) ≡ false) → a ≡ Declares e → IsKnown e
  declares-nothing a e none is =
      let same : key_eq (entity_key e.path) (key_of a) ≡ true = ap (λ (x : Addition). key_eq (entity_key e.path) (key_of x)) is ∙ key_equiv.refl (entity_key e.path) in
      let never : true ≡ false = sym same ∙ none (folded (name_of e.path)) (scope_of e.path) in cc

  pub known-fold : (own more : List Addition) → AreKnown own → DeclareNone more → AreKnown (fold with_addition own more)
  known-fold own [] known none = known
  known-fold own (a ∷ more) known none = known-fold (with_addition own a) more (known-with own a known (λ e is. declares-nothing a e none.0 is)) none.1

  pub known-uses : (n : List ℕ) (r : Reach) (scopes : List Scope) (own : List Addition) → AreKnown own → AreKnown (with_uses n r scopes own)
  known-uses n r scopes own known = known-fold own (uses_of n r scopes own) known (uses-none n r scopes own)

  known-identity : (there : Option Entity) (ids : Option Ids) (e : Entity) (own : List Addition) → AreKnown own → AreKnown (with_identity there ids e own)
  known-identity (Some old) ids e own known = known
  known-identity None None e own known = known
  known-identity None (Some ids) e own known = known-with own (Appears e.path ids.prefix) known (λ x is. cc)

  pub known-declared : (st : Standing) (e : Entity) (own : List Addition) → AreKnown own → IsKnown e → AreKnown (with_declared st e own)
  known-declared st e own known here = by (stays st.there e)
    where
      identified : AreKnown (with_identity st.there st.ids e own)
      identified = known-identity st.there st.ids e own known

      by : (b : Bool) → AreKnown (cond b (with_identity st.there st.ids e own) (with_addition (with_identity st.there st.ids e own) (Declares e)))
      by true = identified
      by false = known-declares (with_identity st.there st.ids e own) e identified here

  -- ---- bases

  joined-known : (P : List (List ℕ) → Type 0) (found paths : List (List (List ℕ))) → All P found → All P paths → All P (joined found paths)
  joined-known P found [] all more = all
  joined-known P found (p ∷ paths) all more = joined-known P (cond (list_any (path_eq p) found) found (found ++ p ∷ [])) paths (by (list_any (path_eq p) found)) (All-tail P p paths more)
    where
      by : (b : Bool) → All P (cond b found (found ++ p ∷ []))
      by true = all
      by false = All-append P found (p ∷ []) all (All-cons P p [] (All-head P p paths more) (All-nil P))

  pub bases-known : (way : Use) (e : Entity) (bases : Bases) → Contains keys (entity_key e.path) → All (λ b. Contains keys (entity_key b)) bases.paths → All (λ b. Contains keys (entity_key b)) (bases_after way e bases).paths
  bases-known (AsBase is_local) e bases here all =
      let P : List (List ℕ) → Type 0 = λ b. Contains keys (entity_key b) in
      joined-known P bases.paths (e.path ∷ []) all (All-cons P e.path [] here (All-nil P))
  bases-known other e bases here all = all

  -- ---- what was declared last

  abbrev pub LastKnown : Option Entity → Type 0
  LastKnown last = (e : Entity) → last ≡ Some e → IsKnown e

  pub last-known : (way : Use) (path : List (List ℕ)) (last : Option Entity) → Contains keys (entity_key path) → LastKnown last → LastKnown (last_after way path last)
  last-known AsStructBase path (Some x) here known e is =
      let one = known x refl in
      let P : List (List ℕ) → Type 0 = λ b. Contains keys (entity_key b) in
      let same : record x { stage = Open; bases = path ∷ [] } ≡ e = cc in
      subst IsKnown same (one.0, All-cons P path [] here (All-nil P))
  last-known AsStructBase path None here known e is = cc
  last-known other path last here known e is = known e is

  pub own-known : (way : Use) (last : Option Entity) (own : List Addition) → LastKnown last → AreKnown own → AreKnown (own_after way last own)
  own-known AsStructBase (Some e) own last known = known-declares own e known (last e refl)
  own-known AsStructBase None own last known = known
  own-known other last own last_known known = known

  pub array-known : (lengths : List ℕ) (last : Option Entity) (own : List Addition) → LastKnown last → AreKnown own → AreKnown (with_array lengths last own)
  array-known lengths None own last known = known
  array-known lengths (Some e) own last known = known-declares own (array_of lengths e) known (last e refl)

  -- ---- bodies

  abbrev pub BodiesKnown : List Body → Type 0
  BodiesKnown bodies = (b : Body) → IsIn b bodies → LastKnown b.entity

  innermost-known : (f : Body → Body) (bodies : List Body) → ((b : Body) → (f b).entity ≡ b.entity) → BodiesKnown bodies → BodiesKnown (with_innermost f bodies)
  innermost-known f [] same known c i e has = absurd i
  innermost-known f (b ∷ bodies) same known c (inl is) e has = known b (inl refl) e (sym (same b) ∙ ap (λ (x : Body). x.entity) is ∙ has)
  innermost-known f (b ∷ bodies) same known c (inr i) e has = known c (inr i) e has

  pub member-known : (way : Declaration) (e : Entity) (bodies : List Body) → BodiesKnown bodies → BodiesKnown (with_member way e bodies)
  member-known way e bodies known = innermost-known (with_name way e) bodies same known
    where
      same : (b : Body) → (with_name way e b).entity ≡ b.entity
      same b = by (is_member e.kind)
        where
          by : (t : Bool) → (cond t (record b { members = b.members ++ member_of way e b.labels ∷ []; labels = [] }) b).entity ≡ b.entity
          by true = refl
          by false = refl

  pub label-known : (label : Option Value) (bodies : List Body) → BodiesKnown bodies → BodiesKnown (with_body_label label bodies)
  label-known label bodies known = innermost-known (with_next_label label) bodies (λ b. refl) known

  pub array_bodies-known : (lengths : List ℕ) (last : Option Entity) (bodies : List Body) → BodiesKnown bodies → BodiesKnown (with_array_member lengths last bodies)
  array_bodies-known lengths None bodies known = known
  array_bodies-known lengths (Some e) bodies known = innermost-known (with_array_type (array_of lengths e)) bodies same known
    where
      same : (b : Body) → (with_array_type (array_of lengths e) b).entity ≡ b.entity
      same b = by (kind_eq e.kind MemberKind)
        where
          by : (t : Bool) → (cond t (record b { members = with_last_type (array_of lengths e).data_type b.members }) b).entity ≡ b.entity
          by true = refl
          by false = refl

  abbrev pub BegunKnown : List Entity → Type 0
  BegunKnown begun = (e : Entity) → IsIn e begun → IsKnown e

  pub begun-more : (begun more : List Entity) → BegunKnown begun → BegunKnown more → BegunKnown (begun ++ more)
  begun-more begun more known new e i = by (IsIn-split e begun more i)
    where
      by : IsIn e begun ⊎ IsIn e more → IsKnown e
      by (inl i) = known e i
      by (inr i) = new e i

  pub innermost-told : (clauses : Clauses) (bodies : List Body) → BodiesKnown bodies → BegunKnown (told_innermost clauses bodies)
  innermost-told clauses [] known e i = absurd i
  innermost-told clauses (b ∷ bodies) known e i = by b.entity (known b (inl refl)) i
    where
      told : Option Entity → List Entity
      told o = told_body clauses (record b { entity = o })

      by : (o : Option Entity) → LastKnown o → IsIn e (told_body clauses (record b { entity = o })) → IsKnown e
      by None last i = absurd i
      by (Some x) last (inl is) = let one = last x refl in subst IsKnown is one
      by (Some x) last (inr i) = absurd i

  pub raising-known : (last : Option Entity) (clauses : Clauses) → LastKnown last → BegunKnown (raising last clauses)
  raising-known None clauses last e i = absurd i
  raising-known (Some x) clauses last e i = by (kind_eq x.kind Attribute && raises clauses) i
    where
      by : (b : Bool) → IsIn e (cond b (x ∷ []) []) → IsKnown e
      by true (inl is) = subst IsKnown is (last x refl)
      by true (inr i) = absurd i
      by false i = absurd i

  -- ---- the end of a unit

  finish-known : (bases : List (List (List ℕ))) (v : Option Value) (clauses : Clauses) (e : Entity) → All (λ b. Contains keys (entity_key b)) bases → IsKnown e → IsKnown (finished bases v clauses e)
  finish-known bases v clauses e all known = by (kind_eq e.kind Interface) (kind_eq e.kind Attribute)
    where
      by : (b c : Bool) → IsKnown (cond b (record e { stage = Open; bases = bases }) (cond c (record e { signature = Some (signature_of [] clauses) }) (record e { stage = Complete; value = v })))
      by true c = (known.0, all)
      by false true = known
      by false false = known

  pub finished-known : (bases : List (List (List ℕ))) (v : Option Value) (clauses : Clauses) (own : List Addition) (begun : List Entity) → All (λ b. Contains keys (entity_key b)) bases
      → AreKnown own → BegunKnown begun → AreKnown (with_finished (finished bases v clauses) own begun)
  finished-known bases v clauses own [] all known new = known
  finished-known bases v clauses own (e ∷ begun) all known new =
      finished-known bases v clauses (with_addition own (Declares (finished bases v clauses e))) begun all
      (known-declares own (finished bases v clauses e) known (finish-known bases v clauses e all (new e (inl refl)))) (λ x i. new x (inr i))

  -- ---- a walk

  -- what a walk has come to was asked, and these are among what has begun
  pub record Knows (init : List Entity) (w : Walk) : Type 0 where
    pub own : AreKnown w.own
    pub begun : BegunKnown w.begun
    pub last : LastKnown w.last
    pub bases : All (λ b. Contains keys (entity_key b)) w.bases.paths
    pub bodies : BodiesKnown w.bodies
    pub kept : (e : Entity) → IsIn e init → IsIn e w.begun
