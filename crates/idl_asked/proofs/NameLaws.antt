-- What look-up asks for a name is what the table tells.
use Rattle.std.proofs.Common.{◌≡◌, ◌⊎◌, ℕ, zero, suc, ◌+◌, ◌≤◌, Bool, true, false, cond, List, [], ◌∷◌, ◌++◌, length, Option, Some, None, Result, Ok, Err, refl, ap, ◌∙◌, sym, inl, inr, subst, append-nil}
use Rattle.std.specs.Prelude.{◌↔◌, option_to_list}
use Rattle.std.specs.Str.{bytes_eq}
use Rattle.std.specs.Cmp.Lexicographic.{bytes_decides}
use Rattle.std.proofs.lemmas.Bool.{false≢true}
use Rattle.idl_asked.specs.Names.{AsksFurther, AsksIn, AsksName, AsksOutward, AsksThrough}
use Rattle.idl_asked.proofs.ThroughLaws.{reached-asks}
use Rattle.idl_entity.specs.Kind.{inherits, is_scope}
use Rattle.idl_entity.specs.Path.{name_of}
use Rattle.idl_entity.specs.declared.entity.Entity.{Entity}
use Rattle.idl_entity.specs.declared.kind.Kind.{Kind}
use Rattle.idl_entity.specs.idl_tree.declared.name.ScopedName.{ScopedName}
use Rattle.idl_env.proofs.Membership.{IsIn, either, IsIn-left, IsIn-right, IsIn-split}
use Rattle.idl_env.specs.Facts.{entity_in, entity_key}
use Rattle.idl_env.specs.declared.answering.answer.Answer.{Answer}
use Rattle.idl_env.specs.declared.answering.answer.Scope.{Scope}
use Rattle.idl_env.specs.declared.keys.key.Key.{Key}
use Rattle.idl_lex.specs.kinds.Keywords.{folded}
use Rattle.idl_memo.proofs.QueryLaws.{asked-and_then, outcome-and_then}
use Rattle.idl_memo.specs.Query.{Ask, Done, and_then, asked, outcome}
use Rattle.idl_scope.proofs.LookupLaws.Meant.{IsAll, has-Has}
use Rattle.idl_scope.proofs.Worlds.{AreGrounded}
use Rattle.idl_scope.specs.Lookup.{Lookup, by_result, choose, decided, denoted, first_part, found_as, further, has, is_nothing, judged, part_of, placed, reach_of, reached, searched}
use Rattle.idl_scope.specs.Meaning.{FirstHas, Has, Judges, bases_at, bases_of, own_at}
use Rattle.idl_scope.specs.declared.fault.NameCode.{NameCode}
use Rattle.idl_scope.specs.declared.fault.NameCode.TheVariants.{NoScope, OtherSpelling}
use Rattle.idl_scope.specs.declared.fault.NameFault.{NameFault}
use Rattle.idl_scope.specs.declared.fault.NameFault.TheVariants.{At}
use Rattle.idl_scope.specs.declared.found.Found.{Found}

-- nothing is asked behind a query that ends so
pub asks-end : {A B : Type 0} (q : Lookup A) (f : A → B) (bank : Key → Option Answer) → asked (and_then q (λ a. Done (f a))) bank ≡ asked q bank
asks-end q f bank = asked-and_then q (λ a. Done (f a)) bank ∙ append-nil (asked q bank)

-- the one entity of a set that is spelled so is what the set is judged to be
pub judged-Ok : (P : Entity → Type 0) (es : List Entity) → IsAll P es → (name : List ℕ) (e : Entity) → Judges P name (Ok e) → judged name es ≡ Ok e
judged-Ok P [] is name e j = absurd ((is.0 e).1 j.0)
judged-Ok P (x ∷ []) is name e j =
    let same : x ≡ e = j.1.0 x ((is.0 x).0 (inl refl)) in
    let spelled : bytes_eq (name_of x.path) name ≡ true = (bytes_decides (name_of x.path) name).1 (ap (λ y. name_of y.path) same ∙ j.1.1) in
    ap (λ b. cond b (Ok x) (Err OtherSpelling)) spelled ∙ ap Ok same
judged-Ok P (x ∷ y ∷ es) is name e j =
    let one : x ≡ e = j.1.0 x ((is.0 x).0 (inl refl)) in
    let two : y ≡ e = j.1.0 y ((is.0 y).0 (inr (inl refl))) in
    absurd (is.1.0 (inl (two ∙ sym one)))

-- and what it is judged to be says so
judged-Judges : (P : Entity → Type 0) (es : List Entity) → IsAll P es → (name : List ℕ) → Judges P name (judged name es)
judged-Judges P [] is name = λ x p. (is.0 x).1 p
judged-Judges P (e ∷ []) is name = elim (either (bytes_eq (name_of e.path) name)) [
  | inl h ↦ rw h ((is.0 e).0 (inl refl), (only, (bytes_decides (name_of e.path) name).0 h))
  | inr h ↦ rw h (e, (is.0 e).0 (inl refl), (only, λ same. false≢true (sym h ∙ (bytes_decides (name_of e.path) name).1 same)))
]
  where
    only : (x : Entity) → P x → x ≡ e
    only x p = elim ((is.0 x).1 p) [ inl q ↦ sym q | inr q ↦ absurd q ]
judged-Judges P (e ∷ f ∷ es) is name = (e, f, (is.0 e).0 (inl refl), (is.0 f).0 (inr (inl refl)), λ same. is.1.0 (inl (sym same)))

-- over answers in which entities stand under their own paths, with turns for all bases
module _ (places : List (List (List ℕ))) (bank : Key → Option Answer) (g : AreGrounded places bank) (turns : ℕ) (enough : length places ≤ turns) where
  -- ---- one scope

  -- behind its own declaration
  abbrev own_or : List ℕ → List (List ℕ) → Option Entity → Lookup (List Entity)
  own_or n path own = choose own (reached turns n (bases_at bank path)) (λ x. Done (x ∷ []))

  abbrev has_by : List ℕ → List (List ℕ) → Bool → Lookup (List Entity)
  has_by n path b = cond b
      (Ask (entity_key path) (λ scope. choose (own_at bank n path) (reached turns n (bases_of (entity_in scope))) (λ x. Done (x ∷ []))))
      (Done (option_to_list (own_at bank n path)))

  pub has-asks : (kind : Kind) (path : List (List ℕ)) (n : List ℕ) (k : Key) → IsIn k (asked (has turns kind path n) bank) ↔ AsksIn bank kind path n k
  has-asks kind path n k = (there, back)
    where
      through : IsIn k (asked (reached turns n (bases_at bank path)) bank) ↔ AsksThrough bank n (bases_at bank path) k
      through = reached-asks places bank g turns enough n path k

      by_own : (own : Option Entity) → own_at bank n path ≡ own → IsIn k (asked (own_or n path own) bank) → (own_at bank n path ≡ None) × AsksThrough bank n (bases_at bank path) k
      by_own None is i = (is, through.0 i)
      by_own (Some e) is i = absurd i

      by_kind : (b : Bool) → inherits kind ≡ b → IsIn k (asked (has_by n path b) bank) → AsksIn bank kind path n k
      by_kind true is (inl e) = inr (is, inl (sym e))
      by_kind true is (inr i) = inr (is, inr (by_own (own_at bank n path) refl i))
      by_kind false is i = absurd i

      there : IsIn k (asked (has turns kind path n) bank) → AsksIn bank kind path n k
      there (inl e) = inl (sym e)
      there (inr i) = by_kind (inherits kind) refl i

      of_own : (own : Option Entity) → own ≡ None → AsksThrough bank n (bases_at bank path) k → IsIn k (asked (own_or n path own) bank)
      of_own None is a = through.1 a
      of_own (Some e) is a = absurd (let no : Some e ≡ None = is in cc)

      of_kind : (b : Bool) → b ≡ true → (k ≡ entity_key path) ⊎ ((own_at bank n path ≡ None) × AsksThrough bank n (bases_at bank path) k) → IsIn k (asked (has_by n path b) bank)
      of_kind true is (inl e) = inl (sym e)
      of_kind true is (inr a) = inr (of_own (own_at bank n path) a.0 a.1)
      of_kind false is a = absurd (let no : false ≡ true = is in cc)

      back : AsksIn bank kind path n k → IsIn k (asked (has turns kind path n) bank)
      back (inl e) = inl (sym e)
      back (inr a) = inr (of_kind (inherits kind) a.0 a.1)

  -- ---- scopes outward

  abbrev outward_by : ℕ → List Scope → List ℕ → List Entity → Lookup (List Entity × ℕ)
  outward_by inside scopes n es = cond (is_nothing es) (decided turns (inside + 1) scopes n) (Done (es, inside))

  pub decided-asks : (inside : ℕ) (scopes : List Scope) (n : List ℕ) (k : Key) → IsIn k (asked (decided turns inside scopes n) bank) ↔ AsksOutward bank scopes n k
  decided-asks inside [] n k = (λ i. i, λ a. a)
  decided-asks inside (s ∷ scopes) n k = (
    λ i. there (decided-asks (inside + 1) scopes n k) (subst (IsIn k) (asked-and_then (has turns s.kind s.path n) (outward_by inside scopes n) bank) i),
    λ a. subst (IsIn k) (sym (asked-and_then (has turns s.kind s.path n) (outward_by inside scopes n) bank)) (back (decided-asks (inside + 1) scopes n k) a),
  )
    where
      by_list : IsIn k (asked (decided turns (inside + 1) scopes n) bank) ↔ AsksOutward bank scopes n k → (es : List Entity) → IsAll (Has bank s.kind s.path n) es → IsIn k (asked (outward_by inside scopes n es) bank) → AsksOutward bank (s ∷ scopes) n k
      by_list more [] is i = inr (λ e h. (is.0 e).1 h, more.0 i)
      by_list more (x ∷ es) is i = absurd i

      there : IsIn k (asked (decided turns (inside + 1) scopes n) bank) ↔ AsksOutward bank scopes n k
          → IsIn k (asked (has turns s.kind s.path n) bank ++ asked (outward_by inside scopes n (outcome (has turns s.kind s.path n) bank)) bank) → AsksOutward bank (s ∷ scopes) n k
      there more i = elim (IsIn-split k (asked (has turns s.kind s.path n) bank) (asked (outward_by inside scopes n (outcome (has turns s.kind s.path n) bank)) bank) i) [
        | inl j ↦ inl ((has-asks s.kind s.path n k).0 j)
        | inr j ↦ by_list more (outcome (has turns s.kind s.path n) bank) (has-Has places bank g turns enough s.kind s.path n) j
      ]

      of_list : IsIn k (asked (decided turns (inside + 1) scopes n) bank) ↔ AsksOutward bank scopes n k → (es : List Entity) → IsAll (Has bank s.kind s.path n) es
          → ((e : Entity) → Has bank s.kind s.path n e → ⊥) → AsksOutward bank scopes n k → IsIn k (asked (outward_by inside scopes n es) bank)
      of_list more [] is none a = more.1 a
      of_list more (x ∷ es) is none a = absurd (none x ((is.0 x).0 (inl refl)))

      back : IsIn k (asked (decided turns (inside + 1) scopes n) bank) ↔ AsksOutward bank scopes n k → AsksOutward bank (s ∷ scopes) n k
          → IsIn k (asked (has turns s.kind s.path n) bank ++ asked (outward_by inside scopes n (outcome (has turns s.kind s.path n) bank)) bank)
      back more (inl a) = IsIn-left k (asked (has turns s.kind s.path n) bank) (asked (outward_by inside scopes n (outcome (has turns s.kind s.path n) bank)) bank) ((has-asks s.kind s.path n k).1 a)
      back more (inr a) =
          IsIn-right k (asked (has turns s.kind s.path n) bank) (asked (outward_by inside scopes n (outcome (has turns s.kind s.path n) bank)) bank)
          (of_list more (outcome (has turns s.kind s.path n) bank) (has-Has places bank g turns enough s.kind s.path n) a.0 a.1)

  -- what they decide is what the innermost has that has the name
  decided-FirstHas : (inside : ℕ) (scopes : List Scope) (n : List ℕ) → IsAll (FirstHas bank scopes n) (outcome (decided turns inside scopes n) bank).0
  decided-FirstHas inside [] n = (λ e. (λ i. i, λ h. h), tt)
  decided-FirstHas inside (s ∷ scopes) n =
      subst (λ (d : List Entity × ℕ). IsAll (FirstHas bank (s ∷ scopes) n) d.0) (sym (outcome-and_then (has turns s.kind s.path n) (outward_by inside scopes n) bank))
      (by_list (decided-FirstHas (inside + 1) scopes n) (outcome (has turns s.kind s.path n) bank) (has-Has places bank g turns enough s.kind s.path n))
    where
      by_list : IsAll (FirstHas bank scopes n) (outcome (decided turns (inside + 1) scopes n) bank).0 → (es : List Entity) → IsAll (Has bank s.kind s.path n) es
          → IsAll (FirstHas bank (s ∷ scopes) n) (outcome (outward_by inside scopes n es) bank).0
      by_list more [] is = (λ e. (λ i. inr (λ x p. (is.0 x).1 p, (more.0 e).0 i), elim [ inl p ↦ absurd ((is.0 e).1 p) | inr q ↦ (more.0 e).1 q.1 ]), more.1)
      by_list more (x ∷ es) is = (λ e. (λ i. inl ((is.0 e).0 i), elim [ inl p ↦ (is.0 e).1 p | inr q ↦ absurd (q.0 x ((is.0 x).0 (inl refl))) ]), is.1)

  -- ---- further parts

  -- how a name goes on behind a part
  abbrev going_on : ℕ → List (List ℕ) → Result Entity NameFault → Lookup (Result Entity NameFault)
  going_on part names r = by_result r (λ f. further turns part f names) (λ fault. Done (Err fault))

  abbrev there_in : Entity → List ℕ → List Entity
  there_in e name = outcome (has turns e.kind e.path (folded name)) bank

  -- what the part in what another denotes is judged to be
  abbrev part_in : Entity → List ℕ → Result Entity NameCode
  part_in e name = judged name (there_in e name)

  pub part-is : (part : ℕ) (e : Entity) (name : List ℕ) → outcome (part_of part name (has turns e.kind e.path (folded name))) bank ≡ placed part (part_in e name)
  part-is part e name = outcome-and_then (has turns e.kind e.path (folded name)) (λ found. Done (placed part (judged name found))) bank

  pub part-Ok : (e : Entity) (name : List ℕ) (f : Entity) → Judges (Has bank e.kind e.path (folded name)) name (Ok f) → part_in e name ≡ Ok f
  part-Ok e name f j = judged-Ok (Has bank e.kind e.path (folded name)) (there_in e name) (has-Has places bank g turns enough e.kind e.path (folded name)) name f j

  -- a part, and then the others
  abbrev pub part_and_on : ℕ → Entity → List ℕ → List (List ℕ) → Lookup (Result Entity NameFault)
  part_and_on part e name names = and_then (part_of part name (has turns e.kind e.path (folded name))) (going_on part names)

  asks-on : (part : ℕ) (e : Entity) (name : List ℕ) (names : List (List ℕ))
      → asked (part_and_on part e name names) bank ≡ asked (has turns e.kind e.path (folded name)) bank ++ asked (going_on part names (placed part (part_in e name))) bank
  asks-on part e name names =
      asked-and_then (part_of part name (has turns e.kind e.path (folded name))) (going_on part names) bank
      ∙ ap (λ ks. ks ++ asked (going_on part names (outcome (part_of part name (has turns e.kind e.path (folded name))) bank)) bank)
      (asks-end (has turns e.kind e.path (folded name)) (λ found. placed part (judged name found)) bank)
      ∙ ap (λ r. asked (has turns e.kind e.path (folded name)) bank ++ asked (going_on part names r) bank) (part-is part e name)

  -- some of these parts asks the key
  abbrev FurtherAsks : Entity → List (List ℕ) → Key → Type 0
  FurtherAsks e names k = (part : ℕ) × AsksFurther bank e names part k

  pub further-asks : (part : ℕ) (e : Entity) (names : List (List ℕ)) (k : Key) → IsIn k (asked (further turns part e names) bank) ↔ FurtherAsks e names k
  further-asks part e [] k = (λ i. absurd i, λ a. a.1)
  further-asks part e (name ∷ names) k = (
    λ i. by_kind (λ f. further-asks (part + 1) f names k) (is_scope e.kind) refl i,
    λ a. of_part (λ f. further-asks (part + 1) f names k) a.0 a.1,
  )
    where
      there : ((f : Entity) → IsIn k (asked (further turns (part + 1) f names) bank) ↔ FurtherAsks f names k) → is_scope e.kind ≡ true → (j : Result Entity NameCode) → part_in e name ≡ j
          → IsIn k (asked (going_on (part + 1) names (placed (part + 1) j)) bank) → FurtherAsks e (name ∷ names) k
      there more is (Ok f) judges i =
          let a = (more f).0 i in
          let P : Entity → Type 0 = Has bank e.kind e.path (folded name) in
          let h = judged-Judges P (there_in e name) (has-Has places bank g turns enough e.kind e.path (folded name)) name in
          (suc a.0, (is, f, subst (Judges P name) judges h, a.1))
      there more is (Err code) judges i = absurd i

      by_kind : ((f : Entity) → IsIn k (asked (further turns (part + 1) f names) bank) ↔ FurtherAsks f names k) → (b : Bool) → is_scope e.kind ≡ b
          → IsIn k (asked (cond b (part_and_on (part + 1) e name names) (Done (Err (At NoScope part)))) bank) → FurtherAsks e (name ∷ names) k
      by_kind more true is i =
          elim (IsIn-split k (asked (has turns e.kind e.path (folded name)) bank) (asked (going_on (part + 1) names (placed (part + 1) (part_in e name))) bank) (subst (IsIn k) (asks-on (part + 1) e name names) i)) [
            | inl j ↦ (zero, (is, (has-asks e.kind e.path (folded name) k).0 j))
            | inr j ↦ there more is (part_in e name) refl j
          ]
      by_kind more false is i = absurd i

      of_kind : (b : Bool) → b ≡ true → IsIn k (asked (has turns e.kind e.path (folded name)) bank ++ asked (going_on (part + 1) names (placed (part + 1) (part_in e name))) bank)
          → IsIn k (asked (cond b (part_and_on (part + 1) e name names) (Done (Err (At NoScope part)))) bank)
      of_kind true is i = subst (IsIn k) (sym (asks-on (part + 1) e name names)) i
      of_kind false is i = absurd (let no : false ≡ true = is in cc)

      of_part : ((f : Entity) → IsIn k (asked (further turns (part + 1) f names) bank) ↔ FurtherAsks f names k) → (p : ℕ) → AsksFurther bank e (name ∷ names) p k
          → IsIn k (asked (cond (is_scope e.kind) (part_and_on (part + 1) e name names) (Done (Err (At NoScope part)))) bank)
      of_part more zero a =
          of_kind (is_scope e.kind) a.0
          (IsIn-left k (asked (has turns e.kind e.path (folded name)) bank) (asked (going_on (part + 1) names (placed (part + 1) (part_in e name))) bank) ((has-asks e.kind e.path (folded name) k).1 a.1))
      of_part more (suc p) a =
          let f = a.1 in
          of_kind (is_scope e.kind) a.0
          (IsIn-right k (asked (has turns e.kind e.path (folded name)) bank) (asked (going_on (part + 1) names (placed (part + 1) (part_in e name))) bank)
          (subst (λ j. IsIn k (asked (going_on (part + 1) names (placed (part + 1) j)) bank)) (sym (part-Ok e name f a.2)) ((more f).1 (p, a.3))))

  -- ---- a whole name

  module _ (cursor : List Scope) (name : ScopedName) where
    abbrev first_there : List Entity × ℕ
    first_there = outcome (decided turns 0 (searched name.is_global cursor) (folded name.first)) bank

    abbrev first_in : Result Entity NameCode
    first_in = judged name.first first_there.0

    pub first-is : outcome (first_part turns cursor name) bank ≡ (placed 0 first_in, first_there.1)
    first-is = outcome-and_then (decided turns 0 (searched name.is_global cursor) (folded name.first)) (λ d. Done (placed 0 (judged name.first d.0), d.1)) bank

    pub first-Ok : (e : Entity) → Judges (FirstHas bank (searched name.is_global cursor) (folded name.first)) name.first (Ok e) → first_in ≡ Ok e
    first-Ok e j =
        judged-Ok (FirstHas bank (searched name.is_global cursor) (folded name.first)) first_there.0
        (decided-FirstHas 0 (searched name.is_global cursor) (folded name.first)) name.first e j

    -- what a name comes to from its first part
    abbrev from : ℕ → Result Entity NameFault → Lookup (Result Found NameFault)
    from inside r = by_result r
        (λ first. and_then (further turns 0 first name.rest) (λ last. Done (found_as (reach_of name cursor inside first) last)))
        (λ fault. Done (Err fault))

    asks-from : (inside : ℕ) (e : Entity) → asked (from inside (Ok e)) bank ≡ asked (further turns 0 e name.rest) bank
    asks-from inside e = asks-end (further turns 0 e name.rest) (λ last. found_as (reach_of name cursor inside e) last) bank

    pub first-asks : (k : Key) → IsIn k (asked (first_part turns cursor name) bank) ↔ AsksName bank cursor name zero k
    first-asks k =
        let scopes = searched name.is_global cursor in
        let same = asks-end (decided turns 0 scopes (folded name.first)) (λ d. (placed 0 (judged name.first d.0), d.1)) bank in
        let all = decided-asks 0 scopes (folded name.first) k in
        (λ i. all.0 (subst (IsIn k) same i), λ a. subst (IsIn k) (sym same) (all.1 a))

    asks-name : asked (denoted turns cursor name) bank ≡ asked (first_part turns cursor name) bank ++ asked (from first_there.1 (placed 0 first_in)) bank
    asks-name =
        asked-and_then (first_part turns cursor name) (λ r. from r.1 r.0) bank
        ∙ ap (λ r. asked (first_part turns cursor name) bank ++ asked (from r.1 r.0) bank) first-is

    pub denoted-asks : (k : Key) → IsIn k (asked (denoted turns cursor name) bank) ↔ ((part : ℕ) × AsksName bank cursor name part k)
    denoted-asks k = (λ i. there (subst (IsIn k) asks-name i), λ a. subst (IsIn k) (sym asks-name) (back a.0 a.1))
      where
        by_first : (j : Result Entity NameCode) → first_in ≡ j → IsIn k (asked (from first_there.1 (placed 0 j)) bank) → (part : ℕ) × AsksName bank cursor name part k
        by_first (Ok e) judges i =
            let a = (further-asks 0 e name.rest k).0 (subst (IsIn k) (asks-from first_there.1 e) i) in
            let P : Entity → Type 0 = FirstHas bank (searched name.is_global cursor) (folded name.first) in
            let h = judged-Judges P first_there.0 (decided-FirstHas 0 (searched name.is_global cursor) (folded name.first)) name.first in
            (suc a.0, (e, subst (Judges P name.first) judges h, a.1))
        by_first (Err code) judges i = absurd i

        there : IsIn k (asked (first_part turns cursor name) bank ++ asked (from first_there.1 (placed 0 first_in)) bank) → (part : ℕ) × AsksName bank cursor name part k
        there i = elim (IsIn-split k (asked (first_part turns cursor name) bank) (asked (from first_there.1 (placed 0 first_in)) bank) i) [
          | inl j ↦ (zero, (first-asks k).0 j)
          | inr j ↦ by_first first_in refl j
        ]

        back : (part : ℕ) → AsksName bank cursor name part k → IsIn k (asked (first_part turns cursor name) bank ++ asked (from first_there.1 (placed 0 first_in)) bank)
        back zero a = IsIn-left k (asked (first_part turns cursor name) bank) (asked (from first_there.1 (placed 0 first_in)) bank) ((first-asks k).1 a)
        back (suc part) a =
            let e = a.0 in
            IsIn-right k (asked (first_part turns cursor name) bank) (asked (from first_there.1 (placed 0 first_in)) bank)
            (subst (λ j. IsIn k (asked (from first_there.1 (placed 0 j)) bank)) (sym (first-Ok e a.1))
            (subst (IsIn k) (sym (asks-from first_there.1 e)) ((further-asks 0 e name.rest k).1 (part, a.2))))
