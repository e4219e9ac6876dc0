-- The uses that count of those that are added are into the scopes to which the use of a name comes.
use Rattle.std.proofs.Common.{◌≡◌, ℕ, Bool, true, false, List, [], ◌∷◌, ◌++◌, map, drop, take, Option, None, Some, refl, sym, ap, ◌∙◌}
use Rattle.std.proofs.lemmas.List.{map-append}
use Rattle.std.specs.Prelude.{◌||◌, cond, is_some, not}
use Rattle.std.specs.List.{list_any}
use Rattle.std.proofs.lemmas.List.Elements.{filter-append}
use Rattle.std.proofs.lemmas.List.Folds.{list_any-append}
use Rattle.idl_check.specs.tables.Using.{further_uses, uses_of}
use Rattle.idl_env.proofs.StoppedLemmas.{unstopped-cons}
use Rattle.idl_env.specs.Facts.{UnitFacts, addition_at, answer_of, answers, entity_in, is_stopped, key_of, over, unstopped}
use Rattle.idl_env.specs.declared.additions.addition.Addition.{Addition}
use Rattle.idl_env.specs.declared.additions.addition.Addition.TheVariants.{Declares, Uses, UsesFurther, Appears, Identifies, TypePrefixes}
use Rattle.idl_env.specs.declared.answering.answer.Answer.{Answer}
use Rattle.idl_env.specs.declared.answering.answer.Scope.{Scope}
use Rattle.idl_entity.specs.declared.entity.Entity.{Entity}
use Rattle.idl_env.specs.declared.keys.key.Key.{Key}
use Rattle.idl_env.specs.declared.keys.key.Key.TheVariants.{Declared, Introduced}
use Rattle.idl_scope.proofs.Worlds.{addition_at-Some}
use Rattle.idl_scope.specs.Meaning.{own_at, reached_by, seen, undeclared}
use Rattle.idl_scope.specs.declared.found.Reach.{Reach}

module _ (bank : Key → Option Answer) (n : List ℕ) where
  -- a name is declared at a key
  abbrev is_there : Key → Bool
  is_there k = is_some (entity_in (bank k))

  -- one of these scopes declares it
  abbrev any_declares : List (List (List ℕ)) → Bool
  any_declares paths = list_any is_there (map (λ p. Declared n p) paths)

  -- where it is introduced
  abbrev introduced : Scope → Key
  introduced s = Introduced n s.path s.body

  one_more : (before : List (List (List ℕ))) (p : List (List ℕ)) → any_declares (before ++ p ∷ []) ≡ (any_declares before || (is_some (own_at bank n p) || false))
  one_more before p =
      ap (list_any is_there) (map-append (λ p. Declared n p) before (p ∷ []))
      ∙ list_any-append is_there (map (λ p. Declared n p) before) (Declared n p ∷ [])

  -- the uses outward of a scope that stops them are stopped
  all-stopped : (before : List (List (List ℕ))) (ss : List Scope) → any_declares before ≡ true → unstopped bank (further_uses n before ss) ≡ []
  all-stopped before [] h = refl
  all-stopped before (s ∷ ss) h =
      let unless = before ++ s.path ∷ [] in
      let more : any_declares unless ≡ true = one_more before s.path ∙ ap (λ b. b || (is_some (own_at bank n s.path) || false)) h in
      unstopped-cons bank (UsesFurther n s.path (record { body = s.body; unless = unless })) (further_uses n unless ss) true more
      ∙ all-stopped unless ss more

  -- and those inside it count
  further-left : (before : List (List (List ℕ))) (ss : List Scope) → any_declares before ≡ false
      → map key_of (unstopped bank (further_uses n before ss)) ≡ map introduced (undeclared bank n ss)
  further-left before [] h = refl
  further-left before (s ∷ ss) h = by (λ more. further-left (before ++ s.path ∷ []) ss more) (own_at bank n s.path) refl
    where
      unless : List (List (List ℕ))
      unless = before ++ s.path ∷ []

      a : Addition
      a = UsesFurther n s.path (record { body = s.body; unless = unless })

      by : (any_declares unless ≡ false → map key_of (unstopped bank (further_uses n unless ss)) ≡ map introduced (undeclared bank n ss))
          → (o : Option Entity) → own_at bank n s.path ≡ o → map key_of (unstopped bank (a ∷ further_uses n unless ss)) ≡ map introduced (undeclared bank n (s ∷ ss))
      by rest None none =
          let more : any_declares unless ≡ false = one_more before s.path ∙ (λ i. h i || (is_some (none i) || false)) in
          ap (map key_of) (unstopped-cons bank a (further_uses n unless ss) false more)
          ∙ ap (λ ks. introduced s ∷ ks) (rest more)
          ∙ sym (ap (λ o. map introduced (cond (is_some o) [] (s ∷ undeclared bank n ss))) none)
      by rest (Some e) some =
          let more : any_declares unless ≡ true = one_more before s.path ∙ (λ i. h i || (is_some (some i) || false)) in
          ap (map key_of) (unstopped-cons bank a (further_uses n unless ss) true more ∙ all-stopped unless ss more)
          ∙ sym (ap (λ o. map introduced (cond (is_some o) [] (s ∷ undeclared bank n ss))) some)

  -- and those for certain
  certain-left : (ss : List Scope) → map key_of (unstopped bank (map (λ s. Uses n s.path s.body) ss)) ≡ map introduced ss
  certain-left [] = refl
  certain-left (s ∷ ss) = ap (λ ks. introduced s ∷ ks) (certain-left ss)

module _ (facts : List UnitFacts) (own : List Addition) (n : List ℕ) where
  -- what a scope declares, by what a unit adds or by what was there
  abbrev declared : List (List ℕ) → Option Entity
  declared p = own_at (λ k. over own k None) n p

  seen-declared : (p : List (List ℕ)) → own_at (seen own facts) n p ≡ elim (declared p) [ None ↦ own_at (answers facts) n p | Some e ↦ Some e ]
  seen-declared p = by (addition_at own (Declared n p)) refl
    where
      there : Option Answer
      there = answers facts (Declared n p)

      told : Option Addition → Option Answer → Option Entity
      told o before = entity_in (elim o as (λ _. Option Answer) [ None ↦ before | Some a ↦ Some (answer_of a) ])

      by : (o : Option Addition) → addition_at own (Declared n p) ≡ o
          → told (addition_at own (Declared n p)) there ≡ elim (told (addition_at own (Declared n p)) None) [ None ↦ entity_in there | Some e ↦ Some e ]
      by None is = rw is refl
      by (Some (Declares e)) is = rw is refl
      by (Some (Uses m q b)) is = let r : Declared n p ≡ key_of (Uses m q b) = (addition_at-Some own (Declared n p) (Uses m q b) is).1 in cc
      by (Some (UsesFurther m q further)) is = let r : Declared n p ≡ key_of (UsesFurther m q further) = (addition_at-Some own (Declared n p) (UsesFurther m q further) is).1 in cc
      by (Some (Appears q prefix)) is = let r : Declared n p ≡ key_of (Appears q prefix) = (addition_at-Some own (Declared n p) (Appears q prefix) is).1 in cc
      by (Some (Identifies q identity)) is = let r : Declared n p ≡ key_of (Identifies q identity) = (addition_at-Some own (Declared n p) (Identifies q identity) is).1 in cc
      by (Some (TypePrefixes q text)) is = let r : Declared n p ≡ key_of (TypePrefixes q text) = (addition_at-Some own (Declared n p) (TypePrefixes q text) is).1 in cc

  -- scopes before the first that either declares
  undeclared-both : (ss : List Scope) → undeclared (answers facts) n (undeclared (λ k. over own k None) n ss) ≡ undeclared (seen own facts) n ss
  undeclared-both [] = refl
  undeclared-both (s ∷ ss) = by (undeclared-both ss) (declared s.path) refl
    where
      left : List Scope
      left = undeclared (λ k. over own k None) n ss

      choose : Option Entity → Option Entity
      choose o = elim o [ None ↦ own_at (answers facts) n s.path | Some e ↦ Some e ]

      by : undeclared (answers facts) n left ≡ undeclared (seen own facts) n ss
          → (o : Option Entity) → declared s.path ≡ o → undeclared (answers facts) n (undeclared (λ k. over own k None) n (s ∷ ss)) ≡ undeclared (seen own facts) n (s ∷ ss)
      by rest None none =
          ap (λ o. undeclared (answers facts) n (cond (is_some o) [] (s ∷ left))) none
          ∙ ap (λ more. cond (is_some (own_at (answers facts) n s.path)) [] (s ∷ more)) rest
          ∙ sym (ap (λ o. cond (is_some o) [] (s ∷ undeclared (seen own facts) n ss)) (seen-declared s.path ∙ ap choose none))
      by rest (Some e) some =
          ap (λ o. undeclared (answers facts) n (cond (is_some o) [] (s ∷ left))) some
          ∙ sym (ap (λ o. cond (is_some o) [] (s ∷ undeclared (seen own facts) n ss)) (seen-declared s.path ∙ ap choose some))

  pub uses-told : (r : Reach) (cursor : List Scope) → map key_of (unstopped (answers facts) (uses_of n r cursor own)) ≡ map (λ s. Introduced n s.path s.body) (reached_by (seen own facts) n cursor r)
  uses-told r cursor =
      let bank = answers facts in
      let certain = map (λ s. Uses n s.path s.body) (take r.certain cursor) in
      let ss = take r.further (drop r.certain cursor) in
      let left = undeclared (λ k. over own k None) n ss in
      ap (map key_of) (filter-append (λ a. not (is_stopped bank a)) certain (further_uses n [] left))
      ∙ map-append key_of (unstopped bank certain) (unstopped bank (further_uses n [] left))
      ∙ (λ i. certain-left bank n (take r.certain cursor) i ++ further-left bank n [] left refl i)
      ∙ ap (λ l. map (introduced bank n) (take r.certain cursor) ++ map (introduced bank n) l) (undeclared-both ss)
      ∙ sym (map-append (introduced bank n) (take r.certain cursor) (undeclared (seen own facts) n ss))
