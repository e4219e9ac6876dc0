-- What lookup comes to is what the scoping rules say.
use Rattle.std.proofs.Common.{◌≡◌, ℕ, suc, ◌+◌, ◌≤◌, Bool, true, false, cond, List, [], ◌∷◌, length, Option, Some, None, Result, Ok, Err, refl, ap, ◌∙◌, sym, inl, inr, subst, arith}
use Rattle.std.specs.Prelude.{option_to_list, MatchBool}
use Rattle.std.specs.Str.{bytes_eq}
use Rattle.std.specs.Cmp.Lexicographic.{bytes_decides}
use Rattle.std.proofs.lemmas.Bool.{false≢true}
use Rattle.idl_lex.specs.kinds.Keywords.{folded}
use Rattle.idl_memo.specs.Query.{Ask, Done, outcome, and_then}
use Rattle.idl_memo.proofs.QueryLaws.{outcome-and_then}
use Rattle.idl_entity.specs.Kind.{inherits, is_scope}
use Rattle.idl_entity.specs.idl_tree.declared.name.ScopedName.{ScopedName}
use Rattle.idl_env.specs.Facts.{entity_key, entity_in}
use Rattle.idl_scope.specs.Lookup.{Lookup, bases_of, choose, reached, has, is_nothing, decided, judged, placed, by_result, part_of, first_part, further, reach_of, searched, found_as, denoted}
use Rattle.idl_scope.specs.Meaning.{own_at, bases_at, Through, Own, Up, Has, FirstHas, Judges, Goes, DenotesIn, Denotes, entity_found}
use Rattle.idl_entity.specs.Path.{name_of, scope_of}
use Rattle.idl_env.specs.declared.answering.answer.Answer.{Answer}
use Rattle.idl_env.specs.declared.answering.answer.Scope.{Scope}
use Rattle.idl_entity.specs.declared.entity.Entity.{Entity}
use Rattle.idl_scope.specs.declared.fault.NameCode.{NameCode}
use Rattle.idl_scope.specs.declared.fault.NameCode.TheVariants.{OtherSpelling, NoScope}
use Rattle.idl_scope.specs.declared.fault.NameFault.{NameFault}
use Rattle.idl_scope.specs.declared.fault.NameFault.TheVariants.{At}
use Rattle.idl_scope.specs.declared.found.Found.{Found}
use Rattle.idl_scope.specs.declared.found.Reach.{Reach}
use Rattle.idl_env.specs.declared.keys.key.Key.{Key}
use Rattle.idl_entity.specs.declared.kind.Kind.{Kind}
use Rattle.idl_scope.proofs.Constructors.{none_some, some_same}
use Rattle.idl_env.proofs.Membership.{IsIn, either, Distinct, Contains-IsIn, IsIn-Contains}
use Rattle.idl_scope.proofs.LookupLaws.Introduced.{Decides}
use Rattle.idl_scope.proofs.LookupLaws.Reaching.{Reached, Here, On, visited, added, visited-Reached, visited-Distinct}
use Rattle.idl_scope.proofs.LookupLaws.Walked.{among, among-IsIn, outcome-reached}
use Rattle.idl_scope.proofs.Worlds.{AreGrounded, own_at-home, bases_at-within}

-- the list has these, and each once
abbrev pub IsAll : (Entity → Type 0) → List Entity → Type 0
IsAll P es = ((e : Entity) → (IsIn e es → P e) × (P e → IsIn e es)) × Distinct es

one_item : (P : Entity → Type 0) (x : Entity) → P x → ((e : Entity) → P e → e ≡ x) → IsAll P (x ∷ [])
one_item P x p only = (λ e. (λ i. elim i [ inl h ↦ subst P h p | inr f ↦ absurd f ], λ q. inl (sym (only e q))), (λ h. h, tt))

err_ok : {A B : Type 0} {x : B} {y : A} → ◌≡◌ {A = Result A B} (Err x) (Ok y) → ⊥
err_ok h = cc

ok_same : {A B : Type 0} {x y : A} → ◌≡◌ {A = Result A B} (Ok x) (Ok y) → x ≡ y
ok_same h = cc

-- what is judged to be the one entity is among the list
judged-in : (name : List ℕ) (es : List Entity) (e : Entity) → judged name es ≡ Ok e → IsIn e es
judged-in name [] e h = absurd (err_ok h)
judged-in name (y ∷ []) e h = by_test (bytes_eq (name_of y.path) name) h
  where
    by_test : (t : Bool) → cond t (Ok y) (Err OtherSpelling) ≡ Ok e → IsIn e (y ∷ [])
    by_test true k = inl (ok_same k)
    by_test false k = absurd (err_ok k)
judged-in name (y ∷ z ∷ es) e h = absurd (err_ok h)

judged-Judges : (P : Entity → Type 0) (es : List Entity) → IsAll P es → (name : List ℕ) → Judges P name (judged name es)
judged-Judges P [] is name = λ x p. (is.0 x).1 p
judged-Judges P (e ∷ []) is name = elim (either (bytes_eq (name_of e.path) name)) [
  | inl h ↦ rw h ((is.0 e).0 (inl refl), (only, (bytes_decides (name_of e.path) name).0 h))
  | inr h ↦ rw h (e, (is.0 e).0 (inl refl), (only, λ same. false≢true (sym h ∙ (bytes_decides (name_of e.path) name).1 same)))
]
  where
    only : (x : Entity) → P x → x ≡ e
    only x p = elim ((is.0 x).1 p) [ inl q ↦ sym q | inr q ↦ absurd q ]
judged-Judges P (e ∷ f ∷ es) is name = (e, f, (is.0 e).0 (inl refl), (is.0 f).0 (inr (inl refl)), λ same. is.1.0 (inl (sym same)))

module _ (bank : Key → Option Answer) (n : List ℕ) where
  reached-Through : {starts : List (List (List ℕ))} {e : Entity} → Reached (own_at bank n) (bases_at bank) starts e → Through bank n starts e
  reached-Through {starts = starts} (Here b i o) = Own b (Contains-IsIn b starts i) o
  reached-Through {starts = starts} (On b i o t) = Up b (Contains-IsIn b starts i) o (reached-Through t)

  through-Reached : {starts : List (List (List ℕ))} {e : Entity} → Through bank n starts e → Reached (own_at bank n) (bases_at bank) starts e
  through-Reached {starts = starts} (Own b i o) = Here b (IsIn-Contains b starts i) o
  through-Reached {starts = starts} (Up b i o t) = On b (IsIn-Contains b starts i) o (through-Reached t)

-- over answers in which entities stand under their own paths, with turns for all bases
module _ (places : List (List (List ℕ))) (bank : Key → Option Answer) (g : AreGrounded places bank) (turns : ℕ) (enough : length places ≤ turns) where
  -- a walk over the bases of an entity finds what is reached through them
  pub reached-all : (n : List ℕ) (path : List (List ℕ)) → IsAll (Through bank n (bases_at bank path)) (outcome (reached turns n (bases_at bank path)) bank)
  reached-all n path = rw (outcome-reached bank n turns (bases_at bank path))
      (λ e. (λ i. reached-Through bank n ((all e).0 i), λ t. (all e).1 (through-Reached bank n t)), visited-Distinct among among-IsIn (own_at bank n) (bases_at bank) (λ e. scope_of e.path) (own_at-home places bank g n) turns (bases_at bank path))
    where
      found : List Entity
      found = visited among (own_at bank n) (bases_at bank) turns [] (added among [] (bases_at bank path)) []

      all : (e : Entity) → (IsIn e (visited among (own_at bank n) (bases_at bank) turns [] (added among [] (bases_at bank path)) []) → Reached (own_at bank n) (bases_at bank) (bases_at bank path) e) × (Reached (own_at bank n) (bases_at bank) (bases_at bank path) e → IsIn e (visited among (own_at bank n) (bases_at bank) turns [] (added among [] (bases_at bank path)) []))
      all = visited-Reached among among-IsIn (own_at bank n) (bases_at bank) places (λ b c i j. bases_at-within places bank g b c j) turns (bases_at bank path) (λ b i. bases_at-within places bank g path b i) enough

  -- an own declaration, or what else there is
  abbrev own_or : Option Entity → Lookup (List Entity) → Lookup (List Entity)
  own_or own rest = choose own rest (λ x. Done (x ∷ []))

  abbrev own_or_nothing : Option Entity → Lookup (List Entity)
  own_or_nothing own = Done (option_to_list own)

  -- what a scope has is what it declares or reaches
  pub has-Has : (kind : Kind) (path : List (List ℕ)) (n : List ℕ) → IsAll (Has bank kind path n) (outcome (has turns kind path n) bank)
  has-Has kind path n = by_kind (inherits kind) refl (reached-all n path)
    where
      own_alone : inherits kind ≡ false → (own : Option Entity) → own_at bank n path ≡ own → IsAll (Has bank kind path n) (outcome (own_or_nothing own) bank)
      own_alone k None o = (λ e. (λ i. absurd i, λ h. elim h [ inl q ↦ absurd (none_some (sym o ∙ q)) | inr t ↦ absurd (false≢true (sym k ∙ t.1.0)) ]), tt)
      own_alone k (Some x) o = one_item (Has bank kind path n) x (inl o) (λ e h. elim h [ inl q ↦ some_same (sym q ∙ o) | inr t ↦ absurd (none_some (sym t.0 ∙ o)) ])

      own_or_walk : inherits kind ≡ true → IsAll (Through bank n (bases_at bank path)) (outcome (reached turns n (bases_at bank path)) bank) → (own : Option Entity) → own_at bank n path ≡ own → IsAll (Has bank kind path n) (outcome (own_or own (reached turns n (bases_at bank path))) bank)
      own_or_walk k w None o = (λ e. (λ i. inr (o, (k, (w.0 e).0 i)), λ h. elim h [ inl q ↦ absurd (none_some (sym o ∙ q)) | inr t ↦ (w.0 e).1 t.1.1 ]), w.1)
      own_or_walk k w (Some x) o = one_item (Has bank kind path n) x (inl o) (λ e h. elim h [ inl q ↦ some_same (sym q ∙ o) | inr t ↦ absurd (none_some (sym t.0 ∙ o)) ])

      by_kind : (t : Bool) → inherits kind ≡ t → IsAll (Through bank n (bases_at bank path)) (outcome (reached turns n (bases_at bank path)) bank)
          → IsAll (Has bank kind path n) (outcome (cond t (Ask (entity_key path) (λ scope. own_or (own_at bank n path) (reached turns n (bases_of (entity_in scope))))) (own_or_nothing (own_at bank n path))) bank)
      by_kind true k w = own_or_walk k w (own_at bank n path) refl
      by_kind false k w = own_alone k (own_at bank n path) refl

  decided-FirstHas : (inside : ℕ) (scopes : List Scope) (n : List ℕ) → IsAll (FirstHas bank scopes n) (outcome (decided turns inside scopes n) bank).0
  decided-FirstHas inside [] n = (λ e. (λ i. i, λ h. h), tt)
  decided-FirstHas inside (s ∷ scopes) n = rw (outcome-and_then (has turns s.kind s.path n) (λ es. cond (is_nothing es) (decided turns (inside + 1) scopes n) (Done (es, inside))) bank)
      (by_list (decided-FirstHas (inside + 1) scopes n) (outcome (has turns s.kind s.path n) bank) (has-Has s.kind s.path n))
    where
      by_list : IsAll (FirstHas bank scopes n) (outcome (decided turns (inside + 1) scopes n) bank).0 → (es : List Entity) → IsAll (Has bank s.kind s.path n) es
          → IsAll (FirstHas bank (s ∷ scopes) n) (outcome (cond (is_nothing es) (decided turns (inside + 1) scopes n) (Done (es, inside))) bank).0
      by_list w [] is = (λ e. (λ i. inr (λ x p. (is.0 x).1 p, (w.0 e).0 i), elim [ inl p ↦ absurd ((is.0 e).1 p) | inr q ↦ (w.0 e).1 q.1 ]), w.1)
      by_list w (x ∷ es) is = (λ e. (λ i. inl ((is.0 e).0 i), elim [ inl p ↦ (is.0 e).1 p | inr q ↦ absurd (q.0 x ((is.0 x).0 (inl refl))) ]), is.1)

  -- where it is found: the scopes inside have nothing
  decided-Decides : (inside : ℕ) (scopes : List Scope) (n : List ℕ) (e : Entity) → IsIn e (outcome (decided turns inside scopes n) bank).0
      → (k : ℕ) × ((outcome (decided turns inside scopes n) bank).1 ≡ inside + k) × Decides bank n scopes k e
  decided-Decides inside [] n e i = absurd i
  decided-Decides inside (s ∷ scopes) n e i =
      let Q : List Entity × ℕ → Type 0 = λ d. (k : ℕ) × (d.1 ≡ inside + k) × Decides bank n (s ∷ scopes) k e in
      let comes = outcome-and_then (has turns s.kind s.path n) (λ es. cond (is_nothing es) (decided turns (inside + 1) scopes n) (Done (es, inside))) bank in
      let P : List Entity × ℕ → Type 0 = λ d. IsIn e d.0 in
      subst Q (sym comes) (by_list (λ j. decided-Decides (inside + 1) scopes n e j) (outcome (has turns s.kind s.path n) bank) (has-Has s.kind s.path n) (subst P comes i))
    where
      by_list : (IsIn e (outcome (decided turns (inside + 1) scopes n) bank).0 → (k : ℕ) × ((outcome (decided turns (inside + 1) scopes n) bank).1 ≡ inside + 1 + k) × Decides bank n scopes k e)
          → (es : List Entity) → IsAll (Has bank s.kind s.path n) es
          → IsIn e (outcome (cond (is_nothing es) (decided turns (inside + 1) scopes n) (Done (es, inside))) bank).0
          → (k : ℕ) × ((outcome (cond (is_nothing es) (decided turns (inside + 1) scopes n) (Done (es, inside))) bank).1 ≡ inside + k) × Decides bank n (s ∷ scopes) k e
      by_list on [] is j = let r = on j in (suc r.0, omega (arith, r.1), (λ x h. (is.0 x).1 h, r.2))
      by_list on (x ∷ es) is j = (0, omega arith, (is.0 e).0 j)

  -- a part that is judged by what is there
  outcome-part_of : (part : ℕ) (name : List ℕ) (there : Lookup (List Entity)) → outcome (part_of part name there) bank ≡ placed part (judged name (outcome there bank))
  outcome-part_of part name there = outcome-and_then there (λ found. Done (placed part (judged name found))) bank

  -- what the further parts denote, where the entity before them is a scope or is none
  abbrev DenotesBy : Bool → ℕ → Entity → List ℕ → List (List ℕ) → Result Entity NameFault → Type 0
  DenotesBy t part e name names r = MatchBool t
      ((j : Result Entity NameCode) × Judges (Has bank e.kind e.path (folded name)) name j × Goes (part + 1) j (λ f. DenotesIn bank (part + 1) f names r) r)
      (r ≡ Err (At NoScope part))

  -- how the name goes on behind a part
  abbrev going_on : ℕ → List (List ℕ) → Result Entity NameFault → Lookup (Result Entity NameFault)
  going_on part names r = by_result r (λ f. further turns part f names) (λ fault. Done (Err fault))

  -- a part, and then the others
  abbrev part_and_on : ℕ → Entity → List ℕ → List (List ℕ) → Lookup (Result Entity NameFault)
  part_and_on part e name names = and_then (part_of part name (has turns e.kind e.path (folded name))) (going_on part names)

  further-DenotesIn : (part : ℕ) (e : Entity) (names : List (List ℕ)) → DenotesIn bank part e names (outcome (further turns part e names) bank)
  further-DenotesIn part e [] = refl
  further-DenotesIn part e (name ∷ names) = by_kind (is_scope e.kind) (λ f. further-DenotesIn (part + 1) f names)
    where
      es : List Entity
      es = outcome (has turns e.kind e.path (folded name)) bank

      comes : outcome (part_and_on (part + 1) e name names) bank ≡ outcome (going_on (part + 1) names (placed (part + 1) (judged name (outcome (has turns e.kind e.path (folded name)) bank)))) bank
      comes = outcome-and_then (part_of (part + 1) name (has turns e.kind e.path (folded name))) (going_on (part + 1) names) bank
          ∙ ap (λ r. outcome (going_on (part + 1) names r) bank) (outcome-part_of (part + 1) name (has turns e.kind e.path (folded name)))

      goes : ((f : Entity) → DenotesIn bank (part + 1) f names (outcome (further turns (part + 1) f names) bank)) → (j : Result Entity NameCode)
          → Goes (part + 1) j (λ f. DenotesIn bank (part + 1) f names (outcome (going_on (part + 1) names (placed (part + 1) j)) bank)) (outcome (going_on (part + 1) names (placed (part + 1) j)) bank)
      goes next (Ok f) = next f
      goes next (Err code) = refl

      by_kind : (t : Bool) → ((f : Entity) → DenotesIn bank (part + 1) f names (outcome (further turns (part + 1) f names) bank))
          → DenotesBy t part e name names (outcome (cond t (part_and_on (part + 1) e name names) (Done (Err (At NoScope part)))) bank)
      by_kind true next = let Q : Result Entity NameFault → Type 0 = DenotesBy true part e name names in
          subst Q (sym comes) (judged name es, judged-Judges (Has bank e.kind e.path (folded name)) es (has-Has e.kind e.path (folded name)) name, goes next (judged name es))
      by_kind false next = refl

  -- what is found of a name, its entity alone
  finish : (reach : Reach) (first : Entity) (names : List (List ℕ))
      → entity_found (outcome (and_then (further turns 0 first names) (λ last. Done (found_as reach last))) bank) ≡ outcome (further turns 0 first names) bank
  finish reach first names = ap entity_found (outcome-and_then (further turns 0 first names) (λ last. Done (found_as reach last)) bank) ∙ alone (outcome (further turns 0 first names) bank)
    where
      alone : (r : Result Entity NameFault) → entity_found (found_as reach r) ≡ r
      alone (Ok e) = refl
      alone (Err fault) = refl

  module _ (cursor : List Scope) (name : ScopedName) where
    -- what the innermost scope has that has the first part
    abbrev there : List Entity × ℕ
    there = outcome (decided turns 0 (searched name.is_global cursor) (folded name.first)) bank

    all_there : IsAll (FirstHas bank (searched name.is_global cursor) (folded name.first)) there.0
    all_there = decided-FirstHas 0 (searched name.is_global cursor) (folded name.first)

    -- how the name goes on
    abbrev on : ℕ → Result Entity NameFault → Lookup (Result Found NameFault)
    on inside r = by_result r (λ first. and_then (further turns 0 first name.rest) (λ last. Done (found_as (reach_of name cursor inside first) last))) (λ fault. Done (Err fault))

    comes : outcome (denoted turns cursor name) bank ≡ outcome (on there.1 (placed 0 (judged name.first there.0))) bank
    comes = outcome-and_then (first_part turns cursor name) (λ (r : Result Entity NameFault × ℕ). on r.1 r.0) bank
        ∙ ap (λ (r : Result Entity NameFault × ℕ). outcome (on r.1 r.0) bank) (outcome-and_then (decided turns 0 (searched name.is_global cursor) (folded name.first)) (λ d. Done (placed 0 (judged name.first d.0), d.1)) bank)

    pub denoted-Denotes : Denotes bank cursor name (entity_found (outcome (denoted turns cursor name) bank))
    denoted-Denotes =
        let Q : Result Entity NameFault → Type 0 = Denotes bank cursor name in
        subst Q (sym (ap entity_found comes))
        (judged name.first there.0, judged-Judges (FirstHas bank (searched name.is_global cursor) (folded name.first)) there.0 all_there name.first, goes (judged name.first there.0))
      where
        goes : (j : Result Entity NameCode)
            → Goes 0 j (λ first. DenotesIn bank 0 first name.rest (entity_found (outcome (on there.1 (placed 0 j)) bank))) (entity_found (outcome (on there.1 (placed 0 j)) bank))
        goes (Ok first) =
            let Q : Result Entity NameFault → Type 0 = DenotesIn bank 0 first name.rest in
            subst Q (sym (finish (reach_of name cursor there.1 first) first name.rest)) (further-DenotesIn 0 first name.rest)
        goes (Err code) = refl

    -- where a name is found, its first part is found by one of the scopes, and introduced as far as that reaches
    abbrev HasFirst : Found → Type 0
    HasFirst found =
        (first : Entity) × (k : ℕ) × Decides bank (folded name.first) (searched name.is_global cursor) k first × (found.reach ≡ reach_of name cursor k first)

    pub denoted-Ok : (found : Found) → outcome (denoted turns cursor name) bank ≡ Ok found → HasFirst found
    denoted-Ok found h = by_judged (judged name.first there.0) refl (sym comes ∙ h)
      where
        reaches : (reach : Reach) (r : Result Entity NameFault) → found_as reach r ≡ Ok found → found.reach ≡ reach
        reaches reach (Ok e) k = sym (ap (λ f. f.reach) (ok_same k))
        reaches reach (Err fault) k = absurd (err_ok k)

        by_judged : (j : Result Entity NameCode) → judged name.first there.0 ≡ j → outcome (on there.1 (placed 0 j)) bank ≡ Ok found → HasFirst found
        by_judged (Ok first) j k =
            let d = decided-Decides 0 (searched name.is_global cursor) (folded name.first) first (judged-in name.first there.0 first j) in
            let far = reaches (reach_of name cursor there.1 first) (outcome (further turns 0 first name.rest) bank)
            (sym (outcome-and_then (further turns 0 first name.rest) (λ last. Done (found_as (reach_of name cursor there.1 first) last)) bank) ∙ k) in
            let is : there.1 ≡ d.0 = omega (arith, d.1) in
            (first, d.0, d.2, far ∙ ap (λ inside. reach_of name cursor inside first) is)
        by_judged (Err code) j k = absurd (err_ok k)
