-- The keys at which facts look, and their digests.
use Rattle.std.proofs.Common.{◌≡◌, ℕ, List, [], ◌∷◌, ◌++◌, map, Some, refl, sym, ap, ◌∙◌, subst, Bool, true, false, cond, Option, None, inl}
use Rattle.std.specs.Prelude.{All, Contains}
use Rattle.std.proofs.lemmas.List.Elements.{All-append, All-contains_itself, All-weaker, Contains-append_left, Contains-append_right}
use Rattle.std.proofs.lemmas.Option.{same_Some}
use Rattle.idl_entity.specs.idl_lex.kinds.Keywords.{folded}
use Rattle.idl_entity.specs.Digest.{path_digest, under}
use Rattle.idl_env.specs.Facts.{UnitFacts, World, entity_key, scopes_in, with_additions, entity_in}
use Rattle.idl_env.specs.Held.{closable}
use Rattle.idl_env.specs.keys.Key.{key_digest}
use Rattle.idl_entity.specs.Kind.{kind_eq}
use Rattle.idl_env.specs.Outside.{gathered_at, looked_at}
use Rattle.idl_entity.specs.Path.{name_of, scope_of}
use Rattle.idl_env.specs.declared.additions.addition.Step.TheVariants.{Closes}
use Rattle.idl_env.specs.declared.answering.answer.Answer.{Answer}
use Rattle.idl_env.specs.declared.answering.answer.Scope.{Scope}
use Rattle.idl_env.specs.declared.keys.key.Key.{Key}
use Rattle.idl_env.specs.declared.keys.key.Key.TheVariants.{Cursor, Declared}
use Rattle.idl_env.proofs.Membership.{Contains-IsIn, IsIn-Contains, IsIn-map, IsIn}
use Rattle.idl_entity.specs.declared.kind.Kind.TheVariants.{Interface}

-- what is gathered is told from either of two worlds, since it is looked at itself
module _ (w v : World) where
  pub gathered_at-same : (scopes : List Scope) → ((k : Key) → IsIn k (gathered_at v scopes) → v.answers k ≡ w.answers k) → gathered_at w scopes ≡ gathered_at v scopes
  gathered_at-same [] h = refl
  gathered_at-same (s ∷ []) h = refl
  gathered_at-same (s ∷ t ∷ outer) h = by (kind_eq s.kind Interface) h
    where
      at : Option Answer → List Key
      at o = entity_key s.path ∷ elim (entity_in o) [ None ↦ [] | Some e ↦ map entity_key e.bases ]

      by : (b : Bool) → ((k : Key) → IsIn k (cond b (at (v.answers (entity_key s.path))) []) → v.answers k ≡ w.answers k)
          → cond b (at (w.answers (entity_key s.path))) [] ≡ cond b (at (v.answers (entity_key s.path))) []
      by true g = ap at (sym (g (entity_key s.path) (inl refl)))
      by false g = refl

-- the digest of each key is among theirs
pub digests-told : (keys looked : List Key) (digests : List ℕ) → looked ≡ keys → digests ≡ map key_digest keys → All (λ k. Contains digests (key_digest k)) looked
digests-told keys looked digests same told =
    let digest_in : (k : Key) → Contains keys k → Contains (map key_digest keys) (key_digest k) = λ k c.
    Contains-IsIn (key_digest k) (map key_digest keys) (IsIn-map key_digest k keys (IsIn-Contains k keys c)) in
    let here : All (λ k. Contains digests (key_digest k)) keys = All-weaker (Contains keys) (λ k. Contains digests (key_digest k)) (λ k c. subst (λ (ds : List ℕ). Contains ds (key_digest k)) (sym told) (digest_in k c)) keys (All-contains_itself keys) in
    subst (λ (ks : List Key). All (λ k. Contains digests (key_digest k)) ks) (sym same) here

-- the digest of the key of what stands at a path
pub entity_digest-is : (path : List (List ℕ)) → under (path_digest (scope_of path)) (folded (name_of path)) ≡ key_digest (entity_key path)
unfolding key_digest
entity_digest-is path = refl

-- and that of the key of a name in a scope
pub declared_digest-is : (n : List ℕ) (path : List (List ℕ)) → under (path_digest path) n ≡ key_digest (Declared n path)
unfolding key_digest
declared_digest-is n path = refl

-- those of more keys behind them
pub digests-both : (stops looked : List Key) (first all : List ℕ) → All (λ k. Contains first (key_digest k)) looked → all ≡ first ++ map key_digest stops
    → All (λ k. Contains all (key_digest k)) (stops ++ looked)
digests-both stops looked first all told is =
    let P : Key → Type 0 = λ k. Contains (first ++ map key_digest stops) (key_digest k) in
    let own : (k : Key) → Contains stops k → P k = λ k c.
    Contains-append_right first (map key_digest stops) (key_digest k) (Contains-IsIn (key_digest k) (map key_digest stops) (IsIn-map key_digest k stops (IsIn-Contains k stops c))) in
    subst (λ (ds : List ℕ). All (λ k. Contains ds (key_digest k)) (stops ++ looked)) (sym is)
    (All-append P stops looked (All-weaker (Contains stops) P own stops (All-contains_itself stops))
    (All-weaker (λ k. Contains first (key_digest k)) P (λ k c. Contains-append_left first (map key_digest stops) (key_digest k) c) looked told))

-- the keys at which the closing of a scope looks, without additions
pub looked_at-closing : (w : World) (f : UnitFacts) → f.step ≡ Closes → f.additions ≡ [] → looked_at (with_additions f.additions w) f.step ≡ Cursor ∷ gathered_at w (scopes_in (w.answers Cursor))
looked_at-closing w f step none =
    (λ i. looked_at (with_additions (none i) w) (step i))
    ∙ ap (λ ks. Cursor ∷ ks) (gathered_at-same (with_additions [] w) w (scopes_in (w.answers Cursor)) (λ k i. refl))

-- of the scopes of which one can be closed it is the innermost, and another is around it
pub closable-innermost : (scopes : List Scope) (s : Scope) (outer : List Scope) → closable scopes ≡ Some (s, outer) → (t : Scope) × (more : List Scope) × (scopes ≡ s ∷ t ∷ more)
closable-innermost [] s outer h = cc
closable-innermost (x ∷ []) s outer h = cc
closable-innermost (x ∷ t ∷ more) s outer h = (t, more, ap (λ p. p.0 ∷ t ∷ more) (same_Some (x, t ∷ more) (s, outer) h))
