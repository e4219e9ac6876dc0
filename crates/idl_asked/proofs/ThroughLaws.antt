-- What a walk over bases asks is what the table tells.
use Rattle.std.proofs.Common.{◌≡◌, ◌⊎◌, ℕ, zero, suc, ◌+◌, ◌≤◌, List, [], ◌∷◌, ◌++◌, length, Option, Some, None, refl, ap, ◌∙◌, sym, inl, inr, arith, length-append, subst, append_assoc}
use Rattle.std.specs.Prelude.{◌↔◌, option_to_list, slice_get}
use Rattle.std.proofs.lemmas.Option.{slice_get_past}
use Rattle.idl_asked.specs.Names.{AsksThrough, Base, BaseOf, Enters}
use Rattle.idl_entity.specs.declared.entity.Entity.{Entity}
use Rattle.idl_env.proofs.Membership.{Contains-IsIn, Distinct, IsIn, IsIn-Contains, IsIn-left, IsIn-right, IsIn-split, length-Distinct}
use Rattle.idl_env.specs.Facts.{entity_in, entity_key, joined}
use Rattle.idl_env.specs.declared.answering.answer.Answer.{Answer}
use Rattle.idl_env.specs.declared.keys.key.Key.{Key}
use Rattle.idl_env.specs.declared.keys.key.Key.TheVariants.{Declared}
use Rattle.idl_memo.proofs.QueryLaws.{asked-and_then}
use Rattle.idl_memo.specs.Query.{Ask, Done, and_then, asked}
use Rattle.idl_scope.proofs.LookupLaws.Reaching.{added, added-Distinct, added-whole, added-within, onward, waiting, waiting-Distinct, waiting-within}
use Rattle.idl_scope.proofs.LookupLaws.Walked.{among, among-IsIn, joined-added, outcome-entered, slice_get-seam}
use Rattle.idl_scope.proofs.Worlds.{AreGrounded, bases_at-within}
use Rattle.idl_scope.specs.Lookup.{Lookup, choose, entered, reached, walk}
use Rattle.idl_scope.specs.Meaning.{bases_at, bases_of, own_at}

abbrev Paths : Type 0
Paths = List (List (List ℕ))

module _ (bank : Key → Option Answer) (n : List ℕ) where
  -- how a walk goes on behind a base
  abbrev onto : ℕ → ℕ → Paths → List Entity → Option Entity × Paths → Lookup (List Entity)
  onto turns at queue found r = walk turns n (at + 1) (joined queue r.1) (found ++ option_to_list r.0)

  abbrev turn_by : ℕ → ℕ → Paths → List Entity → Option (List (List ℕ)) → Lookup (List Entity)
  turn_by turns at queue found o = elim o [ None ↦ Done found | Some b ↦ and_then (entered n b) (onto turns at queue found) ]

  asks-out : (at : ℕ) (queue : Paths) (found : List Entity) → asked (walk zero n at queue found) bank ≡ []
  unfolding walk
  asks-out at queue found = refl

  asks-end : (turns at : ℕ) (queue : Paths) (found : List Entity) → slice_get queue at ≡ None → asked (walk (suc turns) n at queue found) bank ≡ []
  unfolding walk
  asks-end turns at queue found h = ap (λ o. asked (turn_by turns at queue found o) bank) h

  asks-turn : (turns at : ℕ) (queue : Paths) (found : List Entity) (b : List (List ℕ)) → slice_get queue at ≡ Some b → asked (walk (suc turns) n at queue found) bank ≡ asked (and_then (entered n b) (onto turns at queue found)) bank
  unfolding walk
  asks-turn turns at queue found b h = ap (λ o. asked (turn_by turns at queue found o) bank) h

  -- ---- of one base

  abbrev keys_of : List (List ℕ) → List Key
  keys_of b = asked (entered n b) bank

  abbrev entered_by : List (List ℕ) → Option Entity → Lookup (Option Entity × Paths)
  entered_by b own = choose own (Ask (entity_key b) (λ base. Done (None, bases_of (entity_in base)))) (λ e. Done (Some e, []))

  -- what the table tells of it
  abbrev AsksOf : List (List ℕ) → Key → Type 0
  AsksOf b k = (k ≡ Declared n b) ⊎ ((own_at bank n b ≡ None) × (k ≡ entity_key b))

  of-asked : (b : List (List ℕ)) (k : Key) → IsIn k (keys_of b) → AsksOf b k
  of-asked b k i = by_own (own_at bank n b) refl i
    where
      by_own : (own : Option Entity) → own_at bank n b ≡ own → IsIn k (Declared n b ∷ asked (entered_by b own) bank) → AsksOf b k
      by_own own is (inl e) = inl (sym e)
      by_own None is (inr (inl e)) = inr (is, sym e)
      by_own None is (inr (inr j)) = absurd j
      by_own (Some e) is (inr j) = absurd j

  asked-of : (b : List (List ℕ)) (k : Key) → AsksOf b k → IsIn k (keys_of b)
  asked-of b k a = by_own (own_at bank n b) refl a
    where
      by_own : (own : Option Entity) → own_at bank n b ≡ own → AsksOf b k → IsIn k (Declared n b ∷ asked (entered_by b own) bank)
      by_own own is (inl e) = inl (sym e)
      by_own None is (inr h) = inr (inl (sym h.1))
      by_own (Some e) is (inr h) = absurd (let both : Some e ≡ None = sym is ∙ h.0 in cc)

  -- ---- of a walk whose queue has some bases that are entered, and others

  abbrev asks : ℕ → Paths → Paths → List Entity → List Key
  asks turns before left found = asked (walk turns n (length before) (before ++ left) found) bank

  -- what waits once a base is entered
  abbrev left_behind : List (List ℕ) → Paths → Paths → Paths
  left_behind b before left = waiting among among-IsIn (own_at bank n) (bases_at bank) b before left

  abbrev joining : List (List ℕ) → Paths → Paths → Paths
  joining b before left = added among (before ++ b ∷ left) (onward (bases_at bank) b (own_at bank n b))

  abbrev with_own : List (List ℕ) → List Entity → List Entity
  with_own b found = found ++ option_to_list (own_at bank n b)

  past : (before : Paths) → slice_get (before ++ []) (length before) ≡ None
  past before = slice_get_past (before ++ []) (length before) (let l = length-append before [] in omega (arith, l))

  one-more : (turns : ℕ) (before left : Paths) (found : List Entity) (b : List (List ℕ))
      → asks (suc turns) before (b ∷ left) found ≡ keys_of b ++ asks turns (before ++ b ∷ []) (left_behind b before left) (with_own b found)
  one-more turns before left found b =
      let own = own_at bank n b in
      let more = added among (before ++ b ∷ left) (onward (bases_at bank) b own) in
      let es = found ++ option_to_list own in
      let queue : (before ++ b ∷ left) ++ more ≡ (before ++ b ∷ []) ++ (left ++ more) = append_assoc before (b ∷ left) more ∙ sym (append_assoc before (b ∷ []) (left ++ more)) in
      let next : Option Entity × Paths → Lookup (List Entity) = onto turns (length before) (before ++ b ∷ left) found in
      asks-turn turns (length before) (before ++ b ∷ left) found b (slice_get-seam before b left)
      ∙ asked-and_then (entered n b) next bank
      ∙ ap (λ r. keys_of b ++ asked (next r) bank) (outcome-entered bank n b)
      ∙ ap (λ q. keys_of b ++ asked (walk turns n (length before + 1) q es) bank) (joined-added (before ++ b ∷ left) (onward (bases_at bank) b own) ∙ queue)
      ∙ ap (λ at. keys_of b ++ asked (walk turns n at ((before ++ b ∷ []) ++ (left ++ more)) es) bank) (sym (length-append before (b ∷ [])))

  -- ---- what is asked is in the table

  module _ (starts : Paths) where
    abbrev AreEntered : Paths → Type 0
    AreEntered paths = (b : List (List ℕ)) → IsIn b paths → Enters bank n starts b

    brought : (b c : List (List ℕ)) → Enters bank n starts b → (own : Option Entity) → own_at bank n b ≡ own → IsIn c (onward (bases_at bank) b own) → Enters bank n starts c
    brought b c en None none i = BaseOf b c en none (Contains-IsIn c (bases_at bank b) i)
    brought b c en (Some e) is i = absurd i

    all-entered : (before left : Paths) (b : List (List ℕ)) → AreEntered (before ++ b ∷ left) → AreEntered ((before ++ b ∷ []) ++ left_behind b before left)
    all-entered before left b all c i = by_place (IsIn-split c (before ++ b ∷ []) (left ++ joining b before left) i)
      where
        this : IsIn c (b ∷ []) → IsIn c (b ∷ left)
        this (inl e) = inl e
        this (inr f) = absurd f

        by_front : IsIn c before ⊎ IsIn c (b ∷ []) → Enters bank n starts c
        by_front (inl p) = all c (IsIn-left c before (b ∷ left) p)
        by_front (inr p) = all c (IsIn-right c before (b ∷ left) (this p))

        by_back : IsIn c left ⊎ IsIn c (joining b before left) → Enters bank n starts c
        by_back (inl p) = all c (IsIn-right c before (b ∷ left) (inr p))
        by_back (inr p) =
            brought b c (all b (IsIn-right b before (b ∷ left) (inl refl))) (own_at bank n b) refl
            (added-within among among-IsIn (own_at bank n) (bases_at bank) (before ++ b ∷ left) (onward (bases_at bank) b (own_at bank n b)) c p)

        by_place : IsIn c (before ++ b ∷ []) ⊎ IsIn c (left ++ joining b before left) → Enters bank n starts c
        by_place (inl p) = by_front (IsIn-split c before (b ∷ []) p)
        by_place (inr p) = by_back (IsIn-split c left (joining b before left) p)

    sound : (turns : ℕ) (before left : Paths) (found : List Entity) → AreEntered (before ++ left) → (k : Key) → IsIn k (asks turns before left found) → AsksThrough bank n starts k
    sound zero before left found all k i = absurd (subst (IsIn k) (asks-out (length before) (before ++ left) found) i)
    sound (suc turns) before [] found all k i = absurd (subst (IsIn k) (asks-end turns (length before) (before ++ []) found (past before)) i)
    sound (suc turns) before (b ∷ left) found all k i =
        by_base (λ j. sound turns (before ++ b ∷ []) (left_behind b before left) (with_own b found) (all-entered before left b all) k j)
        (IsIn-split k (keys_of b) (asks turns (before ++ b ∷ []) (left_behind b before left) (with_own b found)) (subst (IsIn k) (one-more turns before left found b) i))
      where
        by_base : (IsIn k (asks turns (before ++ b ∷ []) (left_behind b before left) (with_own b found)) → AsksThrough bank n starts k)
            → IsIn k (keys_of b) ⊎ IsIn k (asks turns (before ++ b ∷ []) (left_behind b before left) (with_own b found)) → AsksThrough bank n starts k
        by_base rest (inl j) = (b, all b (IsIn-right b before (b ∷ left) (inl refl)), of-asked b k j)
        by_base rest (inr j) = rest j

  -- ---- what is in the table is asked

  -- each base that is entered leads to such as are entered or wait
  abbrev AreClosed : Paths → Paths → Type 0
  AreClosed before left = (b : List (List ℕ)) → IsIn b before → own_at bank n b ≡ None → (c : List (List ℕ)) → IsIn c (bases_at bank b) → IsIn c before ⊎ IsIn c left

  closed-new : (before left : Paths) (b : List (List ℕ)) → AreClosed before (b ∷ left) → AreClosed (before ++ b ∷ []) (left_behind b before left)
  closed-new before left b closed x i none c j = by_front (IsIn-split x before (b ∷ []) i)
    where
      moved : (d : List (List ℕ)) → IsIn d before ⊎ IsIn d (b ∷ left) → IsIn d (before ++ b ∷ []) ⊎ IsIn d (left_behind b before left)
      moved d (inl p) = inl (IsIn-left d before (b ∷ []) p)
      moved d (inr (inl e)) = inl (IsIn-right d before (b ∷ []) (inl e))
      moved d (inr (inr p)) = inr (IsIn-left d left (joining b before left) p)

      placed : (d : List (List ℕ)) → IsIn d (before ++ b ∷ left) ⊎ IsIn d (joining b before left) → IsIn d (before ++ b ∷ []) ⊎ IsIn d (left_behind b before left)
      placed d (inl p) = moved d (IsIn-split d before (b ∷ left) p)
      placed d (inr p) = inr (IsIn-right d left (joining b before left) p)

      goes : (own : Option Entity) → own ≡ None → (d : List (List ℕ)) → IsIn d (bases_at bank b) → IsIn d (onward (bases_at bank) b own)
      goes None h d p = p
      goes (Some e) h d p = absurd (let k : Some e ≡ None = h in cc)

      itself : b ≡ x → IsIn c (before ++ b ∷ []) ⊎ IsIn c (left_behind b before left)
      itself e =
          placed c (added-whole among among-IsIn (own_at bank n) (bases_at bank) (before ++ b ∷ left) (onward (bases_at bank) b (own_at bank n b)) c
          (goes (own_at bank n b) (subst (λ y. own_at bank n y ≡ None) (sym e) none) c (subst (λ y. IsIn c (bases_at bank y)) (sym e) j)))

      by_front : IsIn x before ⊎ IsIn x (b ∷ []) → IsIn c (before ++ b ∷ []) ⊎ IsIn c (left_behind b before left)
      by_front (inl p) = moved c (closed x p none c j)
      by_front (inr (inl e)) = itself e
      by_front (inr (inr f)) = absurd f

  -- all that is entered from bases that are entered
  all-before : (before bs : Paths) → AreClosed before [] → ((b : List (List ℕ)) → IsIn b bs → IsIn b before) → {d : List (List ℕ)} → Enters bank n bs d → IsIn d before
  all-before before bs closed within (Base b i) = within b (IsIn-Contains b bs i)
  all-before before bs closed within (BaseOf a b en none i) = by_place (closed a (all-before before bs closed within en) none b (IsIn-Contains b (bases_at bank a) i))
    where
      by_place : IsIn b before ⊎ IsIn b [] → IsIn b before
      by_place (inl p) = p
      by_place (inr f) = absurd f

  module _ (places : Paths) (g : AreGrounded places bank) (bs : Paths) where
    -- such a base is entered already, or all is asked of it
    abbrev IsMet : Paths → List Key → List (List ℕ) → Type 0
    IsMet before keys d = IsIn d before ⊎ ((k : Key) → AsksOf d k → IsIn k keys)

    none-left : (before left : Paths) → ((b : List (List ℕ)) → IsIn b bs → IsIn b before ⊎ IsIn b left) → left ≡ [] → (b : List (List ℕ)) → IsIn b bs → IsIn b before
    none-left before [] within h b i = by_place (within b i)
      where
        by_place : IsIn b before ⊎ IsIn b [] → IsIn b before
        by_place (inl p) = p
        by_place (inr f) = absurd f
    none-left before (x ∷ left) within h b i = cc

    complete : (turns : ℕ) (before left : Paths) (found : List Entity) → Distinct (before ++ left) → ((b : List (List ℕ)) → IsIn b (before ++ left) → IsIn b places) → length places ≤ length before + turns → AreClosed before left
        → ((b : List (List ℕ)) → IsIn b bs → IsIn b before ⊎ IsIn b left) → (d : List (List ℕ)) → Enters bank n bs d → IsMet before (asks turns before left found) d
    complete turns before [] found distinct known h closed within d en = inl (all-before before bs closed (none-left before [] within refl) en)
    complete zero before (b ∷ left) found distinct known h closed within d en =
        let l = length-append before (b ∷ left) in
        let k = length-Distinct (before ++ b ∷ left) places distinct known in
        absurd (omega (arith, l, k, h))
    complete (suc turns) before (b ∷ left) found distinct known h closed within d en =
        by_met (complete turns (before ++ b ∷ []) (left_behind b before left) (with_own b found)
        (waiting-Distinct among among-IsIn (own_at bank n) (bases_at bank) b before left distinct)
        (waiting-within among among-IsIn (own_at bank n) (bases_at bank) b before left places (λ c e i j. bases_at-within places bank g c e j) known)
        (let l = length-append before (b ∷ []) in omega (arith, l, h))
        (closed-new before left b closed) (λ c i. moved c (within c i)) d en)
      where
        moved : (c : List (List ℕ)) → IsIn c before ⊎ IsIn c (b ∷ left) → IsIn c (before ++ b ∷ []) ⊎ IsIn c (left_behind b before left)
        moved c (inl p) = inl (IsIn-left c before (b ∷ []) p)
        moved c (inr (inl e)) = inl (IsIn-right c before (b ∷ []) (inl e))
        moved c (inr (inr p)) = inr (IsIn-left c left (joining b before left) p)

        among_keys : (k : Key) → IsIn k (keys_of b) ⊎ IsIn k (asks turns (before ++ b ∷ []) (left_behind b before left) (with_own b found)) → IsIn k (asks (suc turns) before (b ∷ left) found)
        among_keys k (inl i) = subst (IsIn k) (sym (one-more turns before left found b)) (IsIn-left k (keys_of b) (asks turns (before ++ b ∷ []) (left_behind b before left) (with_own b found)) i)
        among_keys k (inr i) = subst (IsIn k) (sym (one-more turns before left found b)) (IsIn-right k (keys_of b) (asks turns (before ++ b ∷ []) (left_behind b before left) (with_own b found)) i)

        by_front : IsIn d before ⊎ IsIn d (b ∷ []) → IsMet before (asks (suc turns) before (b ∷ left) found) d
        by_front (inl p) = inl p
        by_front (inr (inl e)) = inr (λ k a. among_keys k (inl (asked-of b k (subst (λ c. AsksOf c k) (sym e) a))))
        by_front (inr (inr f)) = absurd f

        by_met : IsMet (before ++ b ∷ []) (asks turns (before ++ b ∷ []) (left_behind b before left) (with_own b found)) d → IsMet before (asks (suc turns) before (b ∷ left) found) d
        by_met (inl p) = by_front (IsIn-split d before (b ∷ []) p)
        by_met (inr all) = inr (λ k a. among_keys k (inr (all k a)))

-- through the bases of what stands at a path, with turns for all bases
pub reached-asks : (places : List (List (List ℕ))) (bank : Key → Option Answer) → AreGrounded places bank → (turns : ℕ) → length places ≤ turns
    → (n : List ℕ) (path : List (List ℕ)) (k : Key) → IsIn k (asked (reached turns n (bases_at bank path)) bank) ↔ AsksThrough bank n (bases_at bank path) k
reached-asks places bank g turns enough n path k = (λ i. there (subst (λ q. IsIn k (asked (walk turns n 0 q []) bank)) (joined-added [] (bases_at bank path)) i), λ a. subst (λ q. IsIn k (asked (walk turns n 0 q []) bank)) (sym (joined-added [] (bases_at bank path))) (back a))
  where
    there : IsIn k (asked (walk turns n 0 (added among [] (bases_at bank path)) []) bank) → AsksThrough bank n (bases_at bank path) k
    there i = sound bank n (bases_at bank path) turns [] (added among [] (bases_at bank path)) []
        (λ b j. Base b (Contains-IsIn b (bases_at bank path) (added-within among among-IsIn (own_at bank n) (bases_at bank) [] (bases_at bank path) b j))) k i

    by_met : (d : List (List ℕ)) → (k ≡ Declared n d) ⊎ ((own_at bank n d ≡ None) × (k ≡ entity_key d))
        → IsIn d [] ⊎ ((j : Key) → (j ≡ Declared n d) ⊎ ((own_at bank n d ≡ None) × (j ≡ entity_key d)) → IsIn j (asked (walk turns n 0 (added among [] (bases_at bank path)) []) bank))
        → IsIn k (asked (walk turns n 0 (added among [] (bases_at bank path)) []) bank)
    by_met d this (inl f) = absurd f
    by_met d this (inr all) = all k this

    back : AsksThrough bank n (bases_at bank path) k → IsIn k (asked (walk turns n 0 (added among [] (bases_at bank path)) []) bank)
    back a = by_met a.0 a.2 (complete bank n places g (bases_at bank path) turns [] (added among [] (bases_at bank path)) []
        (added-Distinct among among-IsIn (own_at bank n) (bases_at bank) [] (bases_at bank path) tt)
        (λ b j. bases_at-within places bank g path b (added-within among among-IsIn (own_at bank n) (bases_at bank) [] (bases_at bank path) b j))
        (omega (arith, enough)) (λ b i none c j. absurd i)
        (λ b i. added-whole among among-IsIn (own_at bank n) (bases_at bank) [] (bases_at bank path) b i) a.0 a.1)
