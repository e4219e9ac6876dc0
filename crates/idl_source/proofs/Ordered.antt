-- Entries in the order of their keys: what a binary search finds among them, and what an edit at that place does.
use Rattle.std.proofs.Common.{◌≡◌, ℕ, zero, suc, ◌<◌, ◌≤◌, Bool, true, false, not, ◌&&◌, List, [], ◌∷◌, map, length, get_or, set, Some, None, refl, sym, subst, ap, ◌∙◌, arith, add-one, T, cond}
use Rattle.std.specs.List.{AllWithin, insert, remove}
use Rattle.std.specs.List.Sorted.{IsSortedBy, IsNonDecreasingBy}
use Rattle.std.specs.Ordering.{eq_by_cmp, is_lt, ordering_reverse, ordering_index, is_eq}
use Rattle.std.specs.declared.cmp.Ordering.{Ordering}
use Rattle.std.specs.declared.cmp.Ordering.TheVariants.{Less, Equal, Greater}
use Rattle.std.specs.Cmp.{IsTotalOrder, tied_itself}
use Rattle.std.specs.FinMap.Entries.{put, find, is_sorted, below_all, by_order, where_key}
use Rattle.std.proofs.lemmas.List.Sorted.{searchable_from_sorted}

first : (a b : Bool) → T (a && b) → T a
first true b h = tt
first false b h = absurd h

second : (a b : Bool) → T (a && b) → T b
second true b h = h
second false b h = absurd h

less : (r : Ordering) → T (is_lt r) → r ≡ Less
less Less h = refl
less Equal h = absurd h
less Greater h = absurd h

module _ {E K X : Type 0} (R : K → K → Ordering) (o : IsTotalOrder R) (key : E → K) (value : E → X) where
  -- the entries as pairs of a key and a value
  abbrev pub pairs : List E → List (K × X)
  pairs es = map (λ e. (key e, value e)) es

  turned : (x y : K) (r : Ordering) → R x y ≡ r → R y x ≡ ordering_reverse r
  turned x y r h = o.antisymm y x ∙ ap ordering_reverse h

  -- a key below all is below each
  below_at : (x : K) (es : List E) (i : ℕ) (d : E) → i < length es → T (below_all R x (pairs es)) → R x (key (get_or es i d)) ≡ Less
  below_at x [] i d lt h = absurd (omega arith)
  below_at x (e ∷ es) zero d lt h = less _ (first _ _ h)
  below_at x (e ∷ es) (suc i) d lt h = below_at x es i d (omega arith) (second _ _ h)

  -- each key is below the next
  adjacent : (es : List E) → T (is_sorted R (pairs es)) → IsSortedBy (λ a b. is_lt (R (key a) (key b))) es
  adjacent [] h k d low lt = absurd (omega arith)
  adjacent (e ∷ es) h zero d low lt = ap is_lt (turned (key e) _ Less (below_at (key e) es zero d (omega arith) (first _ _ h)))
  adjacent (e ∷ es) h (suc k) d low lt = rw add-one (rw add-one at (adjacent es (second _ _ h) k d (omega arith) (omega arith)))

  -- the comparisons with a key rise along the entries, as a binary search asks
  pub comparisons_rise : (es : List E) (k : K) → T (is_sorted R (pairs es)) → IsNonDecreasingBy (λ e. ordering_index (R (key e) k)) es
  comparisons_rise es k h = searchable_from_sorted o key es k (adjacent es h)

  -- to put an entry whose key is there is to set it
  pub put_found : (es : List E) (k : K) (v : X) (i : ℕ) (d : E) → i < length es → key (get_or es i d) ≡ k → T (is_sorted R (pairs es)) → put R k v (pairs es) ≡ set (pairs es) i (k, v)
  put_found [] k v i d lt is h = absurd (omega arith)
  put_found (e ∷ es) k v zero d lt is h =
      let here : R k (key e) ≡ Equal = ap (R k) is ∙ tied_itself o k in
      ap (λ r. by_order r ((k, v) ∷ pairs (e ∷ es)) ((key e, v) ∷ pairs es) ((key e, value e) ∷ put R k v (pairs es))) here
      ∙ ap (λ x. (x, v) ∷ pairs es) is
  put_found (e ∷ es) k v (suc i) d lt is h =
      let below : R (key e) k ≡ Less = ap (R (key e)) (sym is) ∙ below_at (key e) es i d (omega arith) (first _ _ h) in
      ap (λ r. by_order r ((k, v) ∷ pairs (e ∷ es)) ((key e, v) ∷ pairs es) ((key e, value e) ∷ put R k v (pairs es))) (turned (key e) k Less below)
      ∙ ap (λ l. (key e, value e) ∷ l) (put_found es k v i d (omega arith) is (second _ _ h))

  -- the value at a key that is there
  pub find_found : (es : List E) (k : K) (i : ℕ) (d : E) → i < length es → key (get_or es i d) ≡ k → T (is_sorted R (pairs es)) → find R k (pairs es) ≡ Some (value (get_or es i d))
  find_found [] k i d lt is h = absurd (omega arith)
  find_found (e ∷ es) k zero d lt is h = ap (λ r. cond (is_eq r) (Some (value e)) (find R k (pairs es))) (ap (R k) is ∙ tied_itself o k)
  find_found (e ∷ es) k (suc i) d lt is h =
      let below : R (key e) k ≡ Less = ap (R (key e)) (sym is) ∙ below_at (key e) es i d (omega arith) (first _ _ h) in
      ap (λ r. cond (is_eq r) (Some (value e)) (find R k (pairs es))) (turned (key e) k Less below)
      ∙ find_found es k i d (omega arith) is (second _ _ h)

  -- a key that has a gap is not found
  pub find_gap : (es : List E) (k : K) (i : ℕ) → AllWithin (λ e. R (key e) k ≡ Less) es 0 i → AllWithin (λ e. R (key e) k ≡ Greater) es i (length es) → find R k (pairs es) ≡ None
  find_gap [] k i lower higher = refl
  find_gap (e ∷ es) k zero lower higher =
      ap (λ r. cond (is_eq r) (Some (value e)) (find R k (pairs es))) (turned (key e) k Greater (higher 0 e (omega arith) (omega arith)))
      ∙ find_gap es k zero (λ j d low lt. absurd (omega arith)) (λ j d low lt. higher (suc j) d (omega arith) (omega arith))
  find_gap (e ∷ es) k (suc i) lower higher =
      ap (λ r. cond (is_eq r) (Some (value e)) (find R k (pairs es))) (turned (key e) k Less (lower 0 e (omega arith) (omega arith)))
      ∙ find_gap es k i (λ j d low lt. lower (suc j) d (omega arith) (omega arith)) (λ j d low lt. higher (suc j) d (omega arith) (omega arith))

  -- to put an entry whose key is new is to insert it in the gap
  pub put_gap : (es : List E) (k : K) (v : X) (i : ℕ) → i ≤ length es → AllWithin (λ e. R (key e) k ≡ Less) es 0 i → AllWithin (λ e. R (key e) k ≡ Greater) es i (length es) → put R k v (pairs es) ≡ insert (pairs es) i (k, v)
  put_gap [] k v zero le lower higher = refl
  put_gap [] k v (suc i) le lower higher = refl
  put_gap (e ∷ es) k v zero le lower higher =
      let here : R k (key e) ≡ Less = turned (key e) k Greater (higher 0 e (omega arith) (omega arith)) in
      ap (λ r. by_order r ((k, v) ∷ pairs (e ∷ es)) ((key e, v) ∷ pairs es) ((key e, value e) ∷ put R k v (pairs es))) here
  put_gap (e ∷ es) k v (suc i) le lower higher =
      let here : R k (key e) ≡ Greater = turned (key e) k Less (lower 0 e (omega arith) (omega arith)) in
      let rest = put_gap es k v i (omega arith) (λ j d low lt. lower (suc j) d (omega arith) (omega arith)) (λ j d low lt. higher (suc j) d (omega arith) (omega arith)) in
      ap (λ r. by_order r ((k, v) ∷ pairs (e ∷ es)) ((key e, v) ∷ pairs es) ((key e, value e) ∷ put R k v (pairs es))) here
      ∙ ap (λ l. (key e, value e) ∷ l) rest

  -- a key below all ties with none
  none_tied : (x : K) (es : List E) → T (below_all R x (pairs es)) → where_key R (λ y. not (eq_by_cmp R x y)) (pairs es) ≡ pairs es
  none_tied x [] h = refl
  none_tied x (e ∷ es) h =
      ap (λ r. cond (not (is_eq r)) ((key e, value e) ∷ where_key R (λ y. not (eq_by_cmp R x y)) (pairs es)) (where_key R (λ y. not (eq_by_cmp R x y)) (pairs es))) (less _ (first _ _ h))
      ∙ ap (λ l. (key e, value e) ∷ l) (none_tied x es (second _ _ h))

  -- the entries with other keys are those without the one at its place
  pub where_key-found : (es : List E) (k : K) (i : ℕ) (d : E) → i < length es → key (get_or es i d) ≡ k → T (is_sorted R (pairs es)) → where_key R (λ y. not (eq_by_cmp R k y)) (pairs es) ≡ remove (pairs es) i
  where_key-found [] k i d lt is h = absurd (omega arith)
  where_key-found (e ∷ es) k zero d lt is h =
      let tied : R k (key e) ≡ Equal = ap (R k) is ∙ tied_itself o k in
      ap (λ r. cond (not (is_eq r)) ((key e, value e) ∷ where_key R (λ y. not (eq_by_cmp R k y)) (pairs es)) (where_key R (λ y. not (eq_by_cmp R k y)) (pairs es))) tied
      ∙ none_tied k es (subst (λ x. T (below_all R x (pairs es))) is (first _ _ h))
  where_key-found (e ∷ es) k (suc i) d lt is h =
      let below : R (key e) k ≡ Less = ap (R (key e)) (sym is) ∙ below_at (key e) es i d (omega arith) (first _ _ h) in
      ap (λ r. cond (not (is_eq r)) ((key e, value e) ∷ where_key R (λ y. not (eq_by_cmp R k y)) (pairs es)) (where_key R (λ y. not (eq_by_cmp R k y)) (pairs es))) (turned (key e) k Less below)
      ∙ ap (λ l. (key e, value e) ∷ l) (where_key-found es k i d (omega arith) is (second _ _ h))
