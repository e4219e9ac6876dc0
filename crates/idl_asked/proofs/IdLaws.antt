-- What is asked for ids and entries is what the table tells.
use Rattle.std.proofs.Common.{◌≡◌, ℕ, List, [], ◌∷◌, ◌++◌, Option, Some, None, refl, ap, sym, flat_map, inl, inr, subst}
use Rattle.std.specs.Prelude.{◌↔◌, Contains}
use Rattle.idl_asked.proofs.NameLaws.{asks-end}
use Rattle.idl_asked.specs.Entries.{AsksEntry}
use Rattle.idl_asked.specs.Ids.{AsksId, AsksTypeprefix}
use Rattle.idl_entity.specs.declared.entity.Entity.{Entity}
use Rattle.idl_env.proofs.Membership.{Contains-IsIn, IsIn, IsIn-Contains, IsIn-left, IsIn-right, IsIn-split}
use Rattle.idl_env.specs.Facts.{entity_in, entity_key, identity_in, typeprefix_in}
use Rattle.idl_env.specs.declared.answering.answer.Answer.{Answer}
use Rattle.idl_env.specs.declared.keys.key.Key.{Key}
use Rattle.idl_env.specs.declared.keys.key.Key.TheVariants.{Typeprefix}
use Rattle.idl_env.specs.declared.keys.key.Key.TheVariants as key
use Rattle.idl_memo.specs.Query.{Done, asked}
use Rattle.idl_repo.proofs.EntryLaws.{declared-ids}
use Rattle.idl_repo.specs.Entry.{entry, entry_in}
use Rattle.idl_repo.specs.Pieces.{asked_of}
use Rattle.idl_repo.specs.Referred.{referred}
use Rattle.idl_scope.specs.Known.{known, told_of, typeprefix_around}
use Rattle.idl_scope.specs.Lookup.{Lookup}

module _ (bank : Key → Option Answer) where
  -- ---- ids

  abbrev around_by : List (List ℕ) → Option (List ℕ) → Lookup (Option (List ℕ))
  around_by scope o = elim o as (λ _. Lookup (Option (List ℕ))) [ None ↦ typeprefix_around scope | Some text ↦ Done (Some text) ]

  pub typeprefix-asks : (path : List (List ℕ)) (k : Key) → IsIn k (asked (typeprefix_around path) bank) ↔ AsksTypeprefix bank path k
  typeprefix-asks [] k = (λ i. i, λ a. a)
  typeprefix-asks (name ∷ scope) k = (there (typeprefix-asks scope k), back (typeprefix-asks scope k))
    where
      by_text : IsIn k (asked (typeprefix_around scope) bank) ↔ AsksTypeprefix bank scope k → (o : Option (List ℕ)) → typeprefix_in (bank (Typeprefix (name ∷ scope))) ≡ o → IsIn k (asked (around_by scope o) bank) → AsksTypeprefix bank (name ∷ scope) k
      by_text more None is i = inr (is, more.0 i)
      by_text more (Some text) is i = absurd i

      there : IsIn k (asked (typeprefix_around scope) bank) ↔ AsksTypeprefix bank scope k → IsIn k (asked (typeprefix_around (name ∷ scope)) bank) → AsksTypeprefix bank (name ∷ scope) k
      there more (inl e) = inl (sym e)
      there more (inr i) = by_text more (typeprefix_in (bank (Typeprefix (name ∷ scope)))) refl i

      back : IsIn k (asked (typeprefix_around scope) bank) ↔ AsksTypeprefix bank scope k → AsksTypeprefix bank (name ∷ scope) k → IsIn k (asked (typeprefix_around (name ∷ scope)) bank)
      back more (inl e) = inl (sym e)
      back more (inr a) = inr (subst (λ o. IsIn k (asked (around_by scope o) bank)) (sym a.0) (more.1 a.1))

  pub known-asks : (path : List (List ℕ)) (k : Key) → IsIn k (asked (known path) bank) ↔ AsksId bank path k
  known-asks path k = (there, back)
    where
      same : asked (known path) bank ≡ key.IdOf path ∷ asked (typeprefix_around path) bank
      same = ap (λ ks. key.IdOf path ∷ ks) (asks-end (typeprefix_around path) (λ typeprefix. identity_in typeprefix (bank (key.IdOf path))) bank)

      by_key : IsIn k (key.IdOf path ∷ asked (typeprefix_around path) bank) → AsksId bank path k
      by_key (inl e) = inl (sym e)
      by_key (inr i) = inr ((typeprefix-asks path k).0 i)

      of_key : AsksId bank path k → IsIn k (key.IdOf path ∷ asked (typeprefix_around path) bank)
      of_key (inl e) = inl (sym e)
      of_key (inr a) = inr ((typeprefix-asks path k).1 a)

      there : IsIn k (asked (known path) bank) → AsksId bank path k
      there i = by_key (subst (IsIn k) same i)

      back : AsksId bank path k → IsIn k (asked (known path) bank)
      back a = subst (IsIn k) (sym same) (of_key a)

  id-asks : (path : List (List ℕ)) → asked_of bank path ≡ asked (known path) bank
  id-asks path = asks-end (known path) (λ d. told_of path d) bank

  -- ---- entries

  -- of paths: what is asked for the id of one of them
  abbrev Telling : List (List (List ℕ)) → Key → Type 0
  Telling paths k = (p : List (List ℕ)) × Contains paths p × AsksId bank p k

  each-asks : (paths : List (List (List ℕ))) (k : Key) → IsIn k (flat_map (asked_of bank) paths) ↔ Telling paths k
  each-asks [] k = (λ i. absurd i, λ t. IsIn-Contains t.0 [] t.1)
  each-asks (path ∷ paths) k = (there (each-asks paths k), λ t. back (each-asks paths k) t.0 (IsIn-Contains t.0 (path ∷ paths) t.1) t.2)
    where
      others : List Key
      others = flat_map (asked_of bank) paths

      there : IsIn k others ↔ Telling paths k → IsIn k (asked_of bank path ++ others) → Telling (path ∷ paths) k
      there rest i = elim (IsIn-split k (asked_of bank path) others i) [
        | inl j ↦ (path, Contains-IsIn path (path ∷ paths) (inl refl), (known-asks path k).0 (subst (IsIn k) (id-asks path) j))
        | inr j ↦ let t = rest.0 j in (t.0, Contains-IsIn t.0 (path ∷ paths) (inr (IsIn-Contains t.0 paths t.1)), t.2)
      ]

      back : IsIn k others ↔ Telling paths k → (p : List (List ℕ)) → IsIn p (path ∷ paths) → AsksId bank p k → IsIn k (asked_of bank path ++ others)
      back rest p (inl e) a = IsIn-left k (asked_of bank path) others (subst (IsIn k) (sym (id-asks path)) ((known-asks path k).1 (subst (λ q. AsksId bank q k) (sym e) a)))
      back rest p (inr i) a = IsIn-right k (asked_of bank path) others (rest.1 (p, Contains-IsIn p paths i, a))

  pub entry-asks : (path : List (List ℕ)) (k : Key) → IsIn k (asked (entry path) bank) ↔ AsksEntry bank path k
  unfolding entry
  entry-asks path k = (there, back)
    where
      by_answer : (o : Option Entity) → entity_in (bank (entity_key path)) ≡ o → IsIn k (asked (entry_in o) bank) → AsksEntry bank path k
      by_answer None is i = absurd i
      by_answer (Some e) is i = let t = (each-asks (e.path ∷ referred e.kind e) k).0 (subst (IsIn k) (declared-ids e bank) i) in inr (e, is, t.0, t.1, t.2)

      there : IsIn k (entity_key path ∷ asked (entry_in (entity_in (bank (entity_key path)))) bank) → AsksEntry bank path k
      there (inl e) = inl (sym e)
      there (inr i) = by_answer (entity_in (bank (entity_key path))) refl i

      back : AsksEntry bank path k → IsIn k (entity_key path ∷ asked (entry_in (entity_in (bank (entity_key path)))) bank)
      back (inl e) = inl (sym e)
      back (inr a) =
          inr (subst (λ o. IsIn k (asked (entry_in o) bank)) (sym a.1)
          (subst (IsIn k) (sym (declared-ids a.0 bank)) ((each-asks (a.0.path ∷ referred a.0.kind a.0) k).1 (a.2, a.3, a.4))))
