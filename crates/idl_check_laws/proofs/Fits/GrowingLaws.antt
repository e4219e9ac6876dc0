-- What a unit's tokens add, one after another, fits the facts before it.
use Rattle.std.proofs.Common.{◌≡◌, ◌⊎◌, ◌∙◌, ℕ, ◌≤◌, Bool, true, false, cond, List, [], ◌∷◌, length, Option, Some, None, refl, sym, ap, subst, inl, inr}
use Rattle.std.specs.Prelude.{◌≢◌}
use Rattle.idl_check_laws.proofs.Fits.ReachedLaws.{Names, Place, own, only, there}
use Rattle.idl_check_laws.proofs.Fits.SettledLaws.{AreAdded, IsAdded, IsFound, IsNamed, IsNameless, IsOpen, IsPlace, Once, over}
use Rattle.idl_lex.specs.kinds.Keywords.{folded}
use Rattle.idl_env.proofs.FirstLemmas.{addition_at-with_addition}
use Rattle.idl_env.specs.keys.Digested.{key_equiv}
use Rattle.idl_entity.specs.Entity.{is_operation}
use Rattle.idl_env.specs.Facts.{addition_at, answer_of, entity_in, entity_key, key_of, path_around, with_addition}
use Rattle.idl_env.specs.keys.Key.{key_eq}
use Rattle.idl_env.specs.SameKey.{same_key}
use Rattle.idl_scope.specs.Meaning.{Through, bases_of}
use Rattle.idl_entity.specs.Path.{name_of, scope_of}
use Rattle.idl_env.specs.declared.additions.addition.Addition.{Addition}
use Rattle.idl_env.specs.declared.additions.addition.Addition.TheVariants.{Declares}
use Rattle.idl_env.specs.declared.answering.answer.Answer.{Answer}
use Rattle.idl_env.specs.declared.answering.answer.Scope.{Scope}
use Rattle.idl_entity.specs.declared.entity.Entity.{Entity}
use Rattle.idl_env.specs.declared.keys.key.Key.{Key}
use Rattle.idl_env.specs.declared.keys.key.Key.TheVariants.{Declared}
use Rattle.idl_entity.specs.declared.kind.Kind.TheVariants.{Interface}
use Rattle.idl_entity.specs.declared.kind.Stage.TheVariants.{Ahead}

-- ---- one more addition

pub once-with : (additions : List Addition) (a : Addition) → Once additions → Once (with_addition additions a)
once-with [] a once = (refl, tt)
once-with (b ∷ additions) a once = by_place (once-with additions a once.1) (key_eq (key_of a) (key_of b)) refl
  where
    by_place : Once (with_addition additions a) → (t : Bool) → key_eq (key_of a) (key_of b) ≡ t → Once (cond t (a ∷ additions) (b ∷ with_addition additions a))
    by_place later true same = (ap (addition_at additions) (same_key (key_of a) (key_of b) same) ∙ once.0, once.1)
    by_place later false other = (
      addition_at-with_addition additions a (key_of b) ∙ ap (λ t. cond t (Some a) (addition_at additions (key_of b))) (key_equiv.symm (key_of b) (key_of a) ∙ other) ∙ once.0,
      later,
    )

pub declares-one : (x y : Entity) → Some (Declares x) ≡ Some (Declares y) → x ≡ y
declares-one x y h = cc

-- ---- what tokens have added to names, in scopes

module _ (D : Names) (scopes : List Scope) where
  -- it was declared by one of the tokens
  abbrev pub IsMine : List Addition → Entity → Type 0
  IsMine additions e = IsOpen e × ((x : Entity) × IsFound additions x × (x.path ≡ e.path) × (x.kind ≡ e.kind))

  pub record IsGrown (additions : List Addition) : Type 0 where
    pub once : Once additions
    pub added : AreAdded D scopes additions
    pub other : (x : Entity) → IsFound additions x → IsOpen x

  -- more is added
  pub record Grows (additions more : List Addition) : Type 0 where
    pub grown : IsGrown more
    pub places : (q : Place) → IsPlace (over additions D) q → IsPlace (over more D) q
    pub mine : (e : Entity) → IsMine additions e → IsMine more e

  pub grows-none : (additions : List Addition) → IsGrown additions → Grows additions additions
  grows-none additions g = record { grown = g; places = λ q h. h; mine = λ e h. h }

  pub grows-on : (xs ys zs : List Addition) → Grows xs ys → Grows ys zs → Grows xs zs
  grows-on xs ys zs g h = record { grown = h.grown; places = λ q p. h.places q (g.places q p); mine = λ e m. h.mine e (g.mine e m) }

  -- what is known of a name before it is added
  pub record IsNew (names : Names) (z : Entity) : Type 0 where
    pub other : IsOpen z
    pub named : IsNamed z.path
    pub fresh : (y : Entity) → there D z.path ≡ Some y → (y.stage ≡ Ahead) × (is_operation y ≡ false)
    pub place : IsPlace names (scope_of z.path)
    pub inner : length (path_around scopes) ≤ length (scope_of z.path)
    pub level : is_operation z ≡ true → scope_of z.path ≡ path_around scopes
    pub beside : IsNameless (scope_of z.path) → scope_of z.path ≡ path_around scopes
    pub apart : scope_of z.path ≡ path_around scopes → (e y : Entity) → there D (path_around scopes) ≡ Some e → e.path ≡ path_around scopes → e.kind ≡ Interface
        → Through (only D) (folded (name_of z.path)) (bases_of (Some e)) y → is_operation y ≡ true → ⊥
    -- what it replaces is declared ahead, or is the same name
    pub replaces : (y : Entity) → there names z.path ≡ Some y → y.stage ≢ Ahead → (y.path ≡ z.path) × (y.kind ≡ z.kind)

  module _ (additions : List Addition) (z : Entity) (g : IsGrown additions) (new : IsNew (over additions D) z) where
    abbrev more : List Addition
    more = with_addition additions (Declares z)

    told : (n : List ℕ) (q : Place) → Option Addition → Option Entity
    told n q o = entity_in (elim o as (λ _. Option Answer) [ None ↦ D n q | Some a ↦ Some (answer_of a) ])

    -- under a name: the new one, or what was there
    at_name : (n : List ℕ) (q : Place) → ((Declared n q ≡ entity_key z.path) × (own (over more D) n q ≡ Some z)) ⊎ (own (over more D) n q ≡ own (over additions D) n q)
    unfolding told
    at_name n q = by_test (key_eq (Declared n q) (entity_key z.path)) refl
      where
        here : own (over more D) n q ≡ told n q (cond (key_eq (Declared n q) (entity_key z.path)) (Some (Declares z)) (addition_at additions (Declared n q)))
        here = ap (told n q) (addition_at-with_addition additions (Declares z) (Declared n q))

        by_test : (t : Bool) → key_eq (Declared n q) (entity_key z.path) ≡ t → ((Declared n q ≡ entity_key z.path) × (own (over more D) n q ≡ Some z)) ⊎ (own (over more D) n q ≡ own (over additions D) n q)
        by_test true same = inl (same_key (Declared n q) (entity_key z.path) same, here ∙ ap (λ t. told n q (cond t (Some (Declares z)) (addition_at additions (Declared n q)))) same)
        by_test false other = inr (here ∙ ap (λ t. told n q (cond t (Some (Declares z)) (addition_at additions (Declared n q)))) other)

    at_key : (n m : List ℕ) (p q : Place) → Declared n p ≡ Declared m q → own (over additions D) n p ≡ own (over additions D) m q
    at_key n m p q h = ap (λ (k : Key). own_of k) h
      where
        own_of : Key → Option Entity
        own_of (Declared a b) = own (over additions D) a b
        own_of other = None

    places-with : (q : Place) → IsPlace (over additions D) q → IsPlace (over more D) q
    places-with q (inl global) = inl global
    places-with q (inr (inl nameless)) = inr (inl nameless)
    places-with q (inr (inr y)) = by_name (at_name (folded (name_of q)) (scope_of q))
      where
        by_name : ((entity_key q ≡ entity_key z.path) × (there (over more D) q ≡ Some z)) ⊎ (there (over more D) q ≡ there (over additions D) q) → IsPlace (over more D) q
        by_name (inr same) = inr (inr (y.0, same ∙ y.1, y.2, y.3))
        by_name (inl h) =
            let there_z : there (over additions D) z.path ≡ Some y.0 = sym (at_key (folded (name_of q)) (folded (name_of z.path)) (scope_of q) (scope_of z.path) h.0) ∙ y.1 in
            let r = new.replaces y.0 there_z y.3.0 in
            inr (inr (z, h.1, sym r.0 ∙ y.2, new.other))

    -- what is found is the new one, or was found
    found-with : (x : Entity) → IsFound more x → (z ≡ x) ⊎ IsFound additions x
    found-with x h = by_test (key_eq (entity_key x.path) (entity_key z.path)) (sym (addition_at-with_addition additions (Declares z) (entity_key x.path)) ∙ h)
      where
        by_test : (t : Bool) → cond t (Some (Declares z)) (addition_at additions (entity_key x.path)) ≡ Some (Declares x) → (z ≡ x) ⊎ IsFound additions x
        by_test true e = inl (declares-one z x e)
        by_test false e = inr e

    added-with : AreAdded D scopes more
    added-with x h = by_found (found-with x h)
      where
        by_found : (z ≡ x) ⊎ IsFound additions x → IsAdded D scopes more x
        by_found (inl same) = subst (IsAdded D scopes more) same (record {
          named = new.named;
          fresh = new.fresh;
          unclosed = new.other.1;
          module_there = λ m. new.other.0;
          place = places-with (scope_of z.path) new.place;
          inner = new.inner;
          level = new.level;
          beside = new.beside;
          apart = new.apart;
        })
        by_found (inr old) = let a = g.added x old in record {
          named = a.named;
          fresh = a.fresh;
          unclosed = a.unclosed;
          module_there = a.module_there;
          place = places-with (scope_of x.path) a.place;
          inner = a.inner;
          level = a.level;
          beside = a.beside;
          apart = a.apart;
        }

    other-with : (x : Entity) → IsFound more x → IsOpen x
    other-with x h = elim (found-with x h) as (λ _. IsOpen x) [ inl same ↦ subst IsOpen same new.other | inr old ↦ g.other x old ]

    pub found-new : IsFound more z
    found-new = addition_at-with_addition additions (Declares z) (entity_key z.path) ∙ ap (λ t. cond t (Some (Declares z)) (addition_at additions (entity_key z.path))) (key_equiv.refl (entity_key z.path))

    mine-with : (e : Entity) → IsMine additions e → IsMine more e
    mine-with e m = by_test (key_eq (entity_key m.1.0.path) (entity_key z.path)) refl
      where
        by_test : (t : Bool) → key_eq (entity_key m.1.0.path) (entity_key z.path) ≡ t → IsMine more e
        by_test true same =
            let key = same_key (entity_key m.1.0.path) (entity_key z.path) same in
            let stands : there (over additions D) m.1.0.path ≡ Some m.1.0 = ap (λ o. entity_in (elim o as (λ _. Option Answer) [ None ↦ D (folded (name_of m.1.0.path)) (scope_of m.1.0.path) | Some a ↦ Some (answer_of a) ])) m.1.1 in
            let there_z : there (over additions D) z.path ≡ Some m.1.0 = sym (at_key (folded (name_of m.1.0.path)) (folded (name_of z.path)) (scope_of m.1.0.path) (scope_of z.path) key) ∙ stands in
            let r = new.replaces m.1.0 there_z (g.other m.1.0 m.1.1).0 in
            (m.0, (z, found-new, sym r.0 ∙ m.1.2, sym r.1 ∙ m.1.3))
        by_test false other =
            (m.0, (m.1.0, addition_at-with_addition additions (Declares z) (entity_key m.1.0.path) ∙ ap (λ t. cond t (Some (Declares z)) (addition_at additions (entity_key m.1.0.path))) other ∙ m.1.1, m.1.2, m.1.3))

    -- a new name, or one that takes the place of its own, lets it grow
    pub grows-with : Grows additions more
    grows-with = record {
      grown = record { once = once-with additions (Declares z) g.once; added = added-with; other = other-with };
      places = places-with;
      mine = mine-with;
    }

  -- ---- what declares nothing

  module _ (additions : List Addition) (a : Addition) (g : IsGrown additions) (apart : (n : List ℕ) (q : Place) → key_eq (Declared n q) (key_of a) ≡ false) where
    abbrev with_it : List Addition
    with_it = with_addition additions a

    same-found : (n : List ℕ) (q : Place) → addition_at with_it (Declared n q) ≡ addition_at additions (Declared n q)
    same-found n q = addition_at-with_addition additions a (Declared n q) ∙ ap (λ t. cond t (Some a) (addition_at additions (Declared n q))) (apart n q)

    pub same-names : over additions D ≡ over with_it D
    same-names = λ i n q. elim (sym (same-found n q) i) as (λ _. Option Answer) [ None ↦ D n q | Some b ↦ Some (answer_of b) ]

    pub grows-beside : Grows additions with_it
    grows-beside = record {
      grown = record {
        once = once-with additions a g.once;
        added = λ x h. let b = g.added x (sym (same-found (folded (name_of x.path)) (scope_of x.path)) ∙ h) in record {
          named = b.named;
          fresh = b.fresh;
          unclosed = b.unclosed;
          module_there = b.module_there;
          place = subst (λ names. IsPlace names (scope_of x.path)) same-names b.place;
          inner = b.inner;
          level = b.level;
          beside = b.beside;
          apart = b.apart;
        };
        other = λ x h. g.other x (sym (same-found (folded (name_of x.path)) (scope_of x.path)) ∙ h);
      };
      places = λ q p. subst (λ names. IsPlace names q) same-names p;
      mine = λ e m. (m.0, (m.1.0, same-found (folded (name_of m.1.0.path)) (scope_of m.1.0.path) ∙ m.1.1, m.1.2, m.1.3));
    }
