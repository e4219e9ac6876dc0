-- Into which scopes the use of a name introduces it.
use Rattle.std.proofs.Common.{◌≡◌, ◌⊎◌, ℕ, zero, suc, ◌-◌, min, Bool, true, false, cond, List, [], ◌∷◌, ◌++◌, drop, take, Option, Some, None, refl, ap, ◌∙◌, sym, inl, inr, subst, arith}
use Rattle.std.specs.Prelude.{◌≢◌, is_some, slice_get}
use Rattle.std.specs.Cmp.Lexicographic.{bytes_decides, pointwise_decides}
use Rattle.std.proofs.lemmas.Bool.{false≢true}
use Rattle.std.proofs.lemmas.Option.{same_Some}
use Rattle.idl_entity.specs.Kind.{kind_eq, same_kind}
use Rattle.idl_scope.specs.Lookup.{before_module, declares_at, extent, reach, reach_by}
use Rattle.idl_scope.specs.Meaning.{own_at, Through, Own, Up, Has, Introduces, NoneDeclaresTo, NoModuleTo, reached_by, undeclared}
use Rattle.idl_entity.specs.Path.{path_eq, same_path, scope_of}
use Rattle.idl_env.specs.declared.answering.answer.Answer.{Answer}
use Rattle.idl_env.specs.declared.answering.answer.Scope.{Scope}
use Rattle.idl_entity.specs.declared.entity.Entity.{Entity}
use Rattle.idl_env.specs.declared.keys.key.Key.{Key}
use Rattle.idl_entity.specs.declared.kind.Kind.{Kind}
use Rattle.idl_entity.specs.declared.kind.Kind.TheVariants.{Module}
use Rattle.idl_scope.proofs.Constructors.{none_some}
use Rattle.idl_env.proofs.Membership.{IsIn, either}

is_module : (k : Kind) → k ≡ Module → kind_eq k Module ≡ true
is_module k h = subst (λ q. kind_eq q Module ≡ true) (sym h) refl

no_module : (k : Kind) → k ≢ Module → kind_eq k Module ≡ false
no_module k other = elim (either (kind_eq k Module)) [ inl p ↦ absurd (other (same_kind k Module p)) | inr p ↦ p ]

other_kind : (k : Kind) → kind_eq k Module ≡ false → k ≢ Module
other_kind k p same = false≢true (sym p ∙ is_module k same)

-- so many of the scopes have nothing under a name, and the next one has this
abbrev pub Decides : (Key → Option Answer) → List ℕ → List Scope → ℕ → Entity → Type 0
Decides bank n [] k e = ⊥
Decides bank n (s ∷ scopes) zero e = Has bank s.kind s.path n e
Decides bank n (s ∷ scopes) (suc k) e = ((x : Entity) → Has bank s.kind s.path n x → ⊥) × Decides bank n scopes k e

module _ (bank : Key → Option Answer) (n : List ℕ) where
  -- ---- the rules, scope by scope

  -- from a scope outward, to this one
  abbrev Outward : List Scope → Scope → Type 0
  Outward [] t = ⊥
  Outward (s ∷ scopes) t = (s.kind ≢ Module) × (own_at bank n s.path ≡ None) × ((s ≡ t) ⊎ Outward scopes t)

  -- from the scope of the use
  abbrev From : List Scope → Scope → Type 0
  From [] t = ⊥
  From (s ∷ scopes) t = (own_at bank n s.path ≡ None) × ((s ≡ t) ⊎ ((s.kind ≢ Module) × Outward scopes t))

  outward_both : (scopes : List Scope) (t : Scope) → Outward scopes t → NoneDeclaresTo bank scopes n t × NoModuleTo scopes t
  outward_both [] t o = absurd o
  outward_both (s ∷ scopes) t o = elim o.2 as (λ _. NoneDeclaresTo bank (s ∷ scopes) n t × NoModuleTo (s ∷ scopes) t) [
    | inl q ↦ ((o.1, inl q), (o.0, inl q))
    | inr m ↦ (let r = outward_both scopes t m in ((o.1, inr r.0), (o.0, inr r.1)))
  ]

  both_outward : (scopes : List Scope) (t : Scope) → NoneDeclaresTo bank scopes n t → NoModuleTo scopes t → Outward scopes t
  both_outward [] t d m = absurd d
  both_outward (s ∷ scopes) t (none, inl q) m = (m.0, none, inl q)
  both_outward (s ∷ scopes) t (none, inr d) (kind, inl q) = (kind, none, inl q)
  both_outward (s ∷ scopes) t (none, inr d) (kind, inr m) = (kind, none, inr (both_outward scopes t d m))

  from_Introduces : (scopes : List Scope) (t : Scope) → From scopes t → Introduces bank scopes n t
  from_Introduces [] t h = absurd h
  from_Introduces (s ∷ scopes) t (none, inl q) = ((none, inl q), inl q)
  from_Introduces (s ∷ scopes) t (none, inr o) = let r = outward_both scopes t o.1 in ((none, inr r.0), inr (o.0, inr r.1))

  Introduces_from : (scopes : List Scope) (t : Scope) → Introduces bank scopes n t → From scopes t
  Introduces_from [] t h = absurd h.0
  Introduces_from (s ∷ scopes) t ((none, d), inl q) = (none, inl q)
  Introduces_from (s ∷ scopes) t ((none, inl q), inr m) = (none, inl q)
  Introduces_from (s ∷ scopes) t ((none, inr d), inr (kind, inl q)) = (none, inl q)
  Introduces_from (s ∷ scopes) t ((none, inr d), inr (kind, inr m)) = (none, inr (kind, both_outward scopes t d m))

  -- ---- those into which a use may go, up to the first that declares the name

  -- behind a scope that declares nothing under it
  past : (s : Scope) (scopes : List Scope) → own_at bank n s.path ≡ None → undeclared bank n (s ∷ scopes) ≡ s ∷ undeclared bank n scopes
  past s scopes h = ap (λ o. cond (is_some o) [] (s ∷ undeclared bank n scopes)) h

  -- none from a scope on that declares something
  stop : (s : Scope) (scopes : List Scope) → is_some (own_at bank n s.path) ≡ true → undeclared bank n (s ∷ scopes) ≡ []
  stop s scopes h = ap (λ b. cond b [] (s ∷ undeclared bank n scopes)) h

  -- one is there only where it declares nothing
  there : (s : Scope) (scopes : List Scope) (t : Scope) → IsIn t (undeclared bank n (s ∷ scopes)) → (own_at bank n s.path ≡ None) × ((s ≡ t) ⊎ IsIn t (undeclared bank n scopes))
  there s scopes t i = by (own_at bank n s.path) refl i
    where
      by : (o : Option Entity) → own_at bank n s.path ≡ o → IsIn t (cond (is_some o) [] (s ∷ undeclared bank n scopes)) → (own_at bank n s.path ≡ None) × ((s ≡ t) ⊎ IsIn t (undeclared bank n scopes))
      by None h j = (h, j)
      by (Some e) h j = absurd j

  outward_in : (scopes : List Scope) (t : Scope) → Outward scopes t → IsIn t (undeclared bank n (take (before_module scopes) scopes))
  outward_in [] t o = absurd o
  outward_in (s ∷ scopes) t o =
      let rest = take (before_module scopes) scopes in
      let here : IsIn t (s ∷ undeclared bank n rest) = elim o.2 as (λ _. IsIn t (s ∷ undeclared bank n rest)) [ inl q ↦ inl q | inr m ↦ inr (outward_in scopes t m) ] in
      subst (λ b. IsIn t (undeclared bank n (take (cond b 0 (suc (before_module scopes))) (s ∷ scopes)))) (sym (no_module s.kind o.0))
      (subst (IsIn t) (sym (past s rest o.1)) here)

  from_in : (scopes : List Scope) (t : Scope) → From scopes t → IsIn t (undeclared bank n (take (extent scopes) scopes))
  from_in [] t h = absurd h
  from_in (s ∷ scopes) t (none, inl q) =
      subst (IsIn t) (sym (past s (take (cond (kind_eq s.kind Module) 0 (before_module scopes)) scopes) none)) (inl q)
  from_in (s ∷ scopes) t (none, inr o) =
      subst (λ b. IsIn t (undeclared bank n (s ∷ take (cond b 0 (before_module scopes)) scopes))) (sym (no_module s.kind o.0))
      (subst (IsIn t) (sym (past s (take (before_module scopes) scopes) none)) (inr (outward_in scopes t o.1)))

  in_outward : (scopes : List Scope) (t : Scope) → IsIn t (undeclared bank n (take (before_module scopes) scopes)) → Outward scopes t
  in_outward [] t i = absurd i
  in_outward (s ∷ scopes) t i = by (kind_eq s.kind Module) refl (λ j. in_outward scopes t j) i
    where
      by : (b : Bool) → kind_eq s.kind Module ≡ b → (IsIn t (undeclared bank n (take (before_module scopes) scopes)) → Outward scopes t)
          → IsIn t (undeclared bank n (take (cond b 0 (suc (before_module scopes))) (s ∷ scopes))) → Outward (s ∷ scopes) t
      by true k more j = absurd j
      by false k more j =
          let r = there s (take (before_module scopes) scopes) t j in
          (other_kind s.kind k, r.0, elim r.1 as (λ _. (s ≡ t) ⊎ Outward scopes t) [ inl q ↦ inl q | inr m ↦ inr (more m) ])

  in_from : (scopes : List Scope) (t : Scope) → IsIn t (undeclared bank n (take (extent scopes) scopes)) → From scopes t
  in_from [] t i = absurd i
  in_from (s ∷ scopes) t i =
      let r = there s (take (cond (kind_eq s.kind Module) 0 (before_module scopes)) scopes) t i in
      (r.0, elim r.1 as (λ _. (s ≡ t) ⊎ ((s.kind ≢ Module) × Outward scopes t)) [ inl q ↦ inl q | inr m ↦ by (kind_eq s.kind Module) refl m ])
    where
      by : (b : Bool) → kind_eq s.kind Module ≡ b → IsIn t (undeclared bank n (take (cond b 0 (before_module scopes)) scopes)) → (s ≡ t) ⊎ ((s.kind ≢ Module) × Outward scopes t)
      by true k j = absurd j
      by false k j = inr (other_kind s.kind k, in_outward scopes t j)

  -- ---- what the reach tells

  -- so many scopes declare nothing under the name
  abbrev NoneDeclares : ℕ → List Scope → Type 0
  NoneDeclares zero scopes = Unit {0}
  NoneDeclares (suc q) [] = ⊥
  NoneDeclares (suc q) (s ∷ scopes) = (own_at bank n s.path ≡ None) × NoneDeclares q scopes

  -- those and then the others
  parted : (q m c : ℕ) (scopes : List Scope) → c ≡ min q m → NoneDeclares q scopes → undeclared bank n (take m scopes) ≡ take c scopes ++ undeclared bank n (take (m - q) (drop c scopes))
  parted zero m zero scopes is h = (let same : m ≡ m - 0 = omega arith in ap (λ k. undeclared bank n (take k scopes)) same)
  parted zero m (suc c) scopes is h = absurd (omega (arith, is))
  parted (suc q) m c [] is h = absurd h
  parted (suc q) zero zero (s ∷ scopes) is h = (let same : 0 ≡ 0 - suc q = omega arith in ap (λ k. undeclared bank n (take k (s ∷ scopes))) same)
  parted (suc q) zero (suc c) (s ∷ scopes) is h = absurd (omega (arith, is))
  parted (suc q) (suc m) zero (s ∷ scopes) is h = absurd (omega (arith, is))
  parted (suc q) (suc m) (suc c) (s ∷ scopes) is h =
      past s (take m scopes) h.0
      ∙ ap (λ more. s ∷ more) (parted q m c scopes (omega (arith, is)) h.1)
      ∙ (let same : m - q ≡ suc m - suc q = omega arith in ap (λ k. s ∷ (take c scopes ++ undeclared bank n (take k (drop c scopes)))) same)

  -- and of the others none, where the first of them declares something
  ended : (k m c : ℕ) (scopes : List Scope) (s : Scope) → c ≡ min k m → slice_get scopes k ≡ Some s → is_some (own_at bank n s.path) ≡ true → undeclared bank n (take (m - k) (drop c scopes)) ≡ []
  ended k m c [] s is h d = absurd (none_some h)
  ended zero zero zero (t ∷ scopes) s is h d = (let same : 0 - 0 ≡ 0 = omega arith in ap (λ j. undeclared bank n (take j (t ∷ scopes))) same)
  ended zero (suc m) zero (t ∷ scopes) s is h d =
      (let same : suc m - 0 ≡ suc m = omega arith in ap (λ j. undeclared bank n (take j (t ∷ scopes))) same)
      ∙ stop t (take m scopes) (subst (λ (x : Scope). is_some (own_at bank n x.path) ≡ true) (sym (same_Some t s h)) d)
  ended zero m (suc c) (t ∷ scopes) s is h d = absurd (omega (arith, is))
  ended (suc k) zero zero (t ∷ scopes) s is h d = (let same : 0 - suc k ≡ 0 = omega arith in ap (λ j. undeclared bank n (take j (t ∷ scopes))) same)
  ended (suc k) zero (suc c) (t ∷ scopes) s is h d = absurd (omega (arith, is))
  ended (suc k) (suc m) zero (t ∷ scopes) s is h d = absurd (omega (arith, is))
  ended (suc k) (suc m) (suc c) (t ∷ scopes) s is h d =
      (let same : suc m - suc k ≡ m - k = omega arith in ap (λ j. undeclared bank n (take j (drop c scopes))) same) ∙ ended k m c scopes s (omega (arith, is)) h d

  one_more : (k : ℕ) (scopes : List Scope) (s : Scope) → NoneDeclares k scopes → slice_get scopes k ≡ Some s → own_at bank n s.path ≡ None → NoneDeclares (suc k) scopes
  one_more k [] s h at none = absurd (none_some at)
  one_more zero (t ∷ scopes) s h at none = (subst (λ (x : Scope). own_at bank n x.path ≡ None) (sym (same_Some t s at)) none, tt)
  one_more (suc k) (t ∷ scopes) s h at none = (h.0, one_more k scopes s h.1 at none)

  nothing_own : (s : Scope) → ((x : Entity) → Has bank s.kind s.path n x → ⊥) → own_at bank n s.path ≡ None
  nothing_own s h = by (own_at bank n s.path) refl
    where
      by : (o : Option Entity) → own_at bank n s.path ≡ o → own_at bank n s.path ≡ None
      by None q = q
      by (Some x) q = absurd (h x (inl q))

  decides-none : (scopes : List Scope) (k : ℕ) (e : Entity) → Decides bank n scopes k e → NoneDeclares k scopes
  decides-none [] k e d = absurd d
  decides-none (s ∷ scopes) zero e d = tt
  decides-none (s ∷ scopes) (suc k) e d = (nothing_own s d.0, decides-none scopes k e d.1)

  decides-at : (scopes : List Scope) (k : ℕ) (e : Entity) → Decides bank n scopes k e → (s : Scope) × (slice_get scopes k ≡ Some s) × Has bank s.kind s.path n e
  decides-at [] k e d = absurd d
  decides-at (s ∷ scopes) zero e d = (s, refl, d)
  decides-at (s ∷ scopes) (suc k) e d = decides-at scopes k e d.1

  module _ (at_home : (b : List (List ℕ)) (e : Entity) → own_at bank n b ≡ Some e → scope_of e.path ≡ b) where
    -- where the entity is declared that is found
    declared_there : (b : List (List ℕ)) (e : Entity) → own_at bank n b ≡ Some e → own_at bank n (scope_of e.path) ≡ Some e
    declared_there b e o = subst (λ p. own_at bank n p ≡ Some e) (sym (at_home b e o)) o

    through-home : {bases : List (List (List ℕ))} {e : Entity} → Through bank n bases e → own_at bank n (scope_of e.path) ≡ Some e
    through-home {e = e} (Own b i o) = declared_there b e o
    through-home (Up b i o t) = through-home t

    has-home : (k : Kind) (path : List (List ℕ)) (e : Entity) → Has bank k path n e → own_at bank n (scope_of e.path) ≡ Some e
    has-home k path e (inl o) = declared_there path e o
    has-home k path e (inr t) = through-home t.1.1

    -- the scope that has it itself declares something just where it declares this
    declares : (s : Scope) (e : Entity) → Has bank s.kind s.path n e → path_eq (scope_of e.path) s.path ≡ true → is_some (own_at bank n s.path) ≡ true
    declares s e h same =
        let own : own_at bank n s.path ≡ Some e = subst (λ p. own_at bank n p ≡ Some e) (same_path (scope_of e.path) s.path same) (has-home s.kind s.path e h) in
        ap is_some own

    reaches_on : (s : Scope) (e : Entity) → Has bank s.kind s.path n e → path_eq (scope_of e.path) s.path ≡ false → own_at bank n s.path ≡ None
    reaches_on s e (inl o) other = absurd (false≢true (sym other ∙ (pointwise_decides bytes_decides (scope_of e.path) s.path).1 (at_home s.path e o)))
    reaches_on s e (inr t) other = t.0

    -- a use comes to the scopes into which it may go, up to the first that declares the name
    reached-by : (scopes : List Scope) (k : ℕ) (e : Entity) (s : Scope) → NoneDeclares k scopes → slice_get scopes k ≡ Some s → Has bank s.kind s.path n e
        → (b : Bool) → path_eq (scope_of e.path) s.path ≡ b → reached_by bank n scopes (reach_by b k (extent scopes)) ≡ undeclared bank n (take (extent scopes) scopes)
    reached-by scopes k e s none at h true same =
        let m = extent scopes in
        let end = ended k m (min k m) scopes s refl at (declares s e h same) in
        sym (parted k m (min k m) scopes refl none ∙ ap (λ more. take (min k m) scopes ++ more) end)
    reached-by scopes k e s none at h false other =
        let m = extent scopes in
        sym (parted (suc k) m (min (suc k) m) scopes refl (one_more k scopes s none at (reaches_on s e h other)))

    pub reached : (scopes : List Scope) (k : ℕ) (e : Entity) → Decides bank n scopes k e → reached_by bank n scopes (reach scopes k e) ≡ undeclared bank n (take (extent scopes) scopes)
    reached scopes k e d =
        let at = decides-at scopes k e d in
        let is : declares_at scopes k e ≡ path_eq (scope_of e.path) at.0.path = ap (λ o. elim o [ None ↦ false | Some s ↦ path_eq (scope_of e.path) s.path ]) at.1 in
        ap (λ b. reached_by bank n scopes (reach_by b k (extent scopes))) is
        ∙ reached-by scopes k e at.0 (decides-none scopes k e d) at.1 at.2 (path_eq (scope_of e.path) at.0.path) refl

    -- all scopes that the rules tell are those to which it comes, and no others
    pub Introduces_in : (scopes : List Scope) (k : ℕ) (e : Entity) → Decides bank n scopes k e → (t : Scope) → Introduces bank scopes n t → IsIn t (reached_by bank n scopes (reach scopes k e))
    Introduces_in scopes k e d t h = subst (IsIn t) (sym (reached scopes k e d)) (from_in scopes t (Introduces_from scopes t h))

    pub in_Introduces : (scopes : List Scope) (k : ℕ) (e : Entity) → Decides bank n scopes k e → (t : Scope) → IsIn t (reached_by bank n scopes (reach scopes k e)) → Introduces bank scopes n t
    in_Introduces scopes k e d t i = from_Introduces scopes t (in_from scopes t (subst (IsIn t) (reached scopes k e d) i))
