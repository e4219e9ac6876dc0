-- What keys have in entries, and in the rest behind them.
use Rattle.std.proofs.Common.{◌≡◌, ◌≢◌, ℕ, Bool, true, false, cond, List, [], ◌∷◌, ◌++◌, Option, None, Some, slice_get, slice_index_or, slice_set, refl, sym, ap, ◌∙◌}
use Rattle.std.specs.BTreeMap.{is_at}
use Rattle.std.specs.Cmp.{IsEquivalence}
use Rattle.std.specs.Map.{keys_of, lookup}
use Rattle.std.specs.Ordering.{eq_by_cmp}
use Rattle.std.specs.declared.cmp.Ordering.{Ordering}
use Rattle.idl_map.specs.Table.{AreDistinct, insert_entry}
use Rattle.idl_base.proofs.Exactness.{Decides-eq}
use Rattle.idl_map.proofs.TableLemmas.{insert_entry-at, insert_entry-new, lookup-at, lookup-insert_entry, lookup-nowhere}

module _ {V : Type 0} where
  -- one answer, or else another
  abbrev pub otherwise : Option V → Option V → Option V
  otherwise (Some v) o = Some v
  otherwise None o = o

  one_more : (b : Bool) (v : V) (o p q : Option V) → o ≡ otherwise p q → cond b (Some v) o ≡ otherwise (cond b (Some v) p) q
  one_more true v o p q h = refl
  one_more false v o p q h = h

  -- a new one first
  otherwise-first : (b : Bool) (v : V) (p q : Option V) → otherwise (cond b (Some v) p) q ≡ cond b (Some v) (otherwise p q)
  otherwise-first true v p q = refl
  otherwise-first false v p q = refl

  -- or last
  otherwise-last : (b : Bool) (v : V) (p q : Option V) → (b ≡ true → p ≡ None) → otherwise p (cond b (Some v) q) ≡ cond b (Some v) (otherwise p q)
  otherwise-last true v p q h = ap (λ o. otherwise o (Some v)) (h refl)
  otherwise-last false v p q h = refl

module _ {K V : Type 0} where
  lookup-append : (test : K → Bool) (es fs : List (K × V)) → lookup test (es ++ fs) ≡ otherwise (lookup test es) (lookup test fs)
  lookup-append test [] fs = refl
  lookup-append test (e ∷ es) fs = one_more (test e.0) e.1 (lookup test (es ++ fs)) (lookup test es) (lookup test fs) (lookup-append test es fs)

module _ {K V : Type 0} (eq : K → K → Bool) (laws : IsEquivalence eq) (same : (x y : K) → eq x y ≡ true → x ≡ y) where
  -- a key with an entry has its value, and another what the rest has
  pub lookup-present : (es rest : List (K × V)) (k : K) (i : ℕ) (e : K × V) → AreDistinct (keys_of es) → slice_get (keys_of es) i ≡ Some k → e ≡ slice_index_or es i e
      → lookup (eq k) (es ++ rest) ≡ Some e.1
  lookup-present es rest k i e distinct at is =
      lookup-append (eq k) es rest
      ∙ ap (λ o. otherwise o (lookup (eq k) rest)) (lookup-at eq (Decides-eq eq laws same) es k i e (λ j there. distinct k j i there at) at ∙ ap (λ x. Some x.1) (sym is))

  pub lookup-absent : (es rest : List (K × V)) (k : K) → ((i : ℕ) → slice_get (keys_of es) i ≢ Some k) → lookup (eq k) (es ++ rest) ≡ lookup (eq k) rest
  lookup-absent es rest k nowhere =
      lookup-append (eq k) es rest ∙ ap (λ o. otherwise o (lookup (eq k) rest)) (lookup-nowhere eq (Decides-eq eq laws same) es k nowhere)

  module _ (key : K) (v : V) (q : K) where
    put_first : (es rest : List (K × V)) → lookup (eq q) (insert_entry eq es key v ++ rest) ≡ cond (eq q key) (Some v) (lookup (eq q) (es ++ rest))
    put_first es rest =
        lookup-append (eq q) (insert_entry eq es key v) rest
        ∙ ap (λ o. otherwise o (lookup (eq q) rest)) (lookup-insert_entry eq same key v q es)
        ∙ otherwise-first (eq q key) v (lookup (eq q) es) (lookup (eq q) rest)
        ∙ ap (cond (eq q key) (Some v)) (sym (lookup-append (eq q) es rest))

    -- an entry takes another value
    pub lookup-replace : (es rest : List (K × V)) (i : ℕ) → AreDistinct (keys_of es) → slice_get (keys_of es) i ≡ Some key
        → lookup (eq q) (slice_set es i (key, v) ++ rest) ≡ cond (eq q key) (Some v) (lookup (eq q) (es ++ rest))
    lookup-replace es rest i distinct at =
        ap (λ fs. lookup (eq q) (fs ++ rest)) (sym (insert_entry-at eq (Decides-eq eq laws same) es key v i (λ j there. distinct key j i there at) at)) ∙ put_first es rest

    -- an entry is put behind the others
    pub lookup-push : (es rest : List (K × V)) → lookup (eq key) es ≡ None
        → lookup (eq q) ((es ++ (key, v) ∷ []) ++ rest) ≡ cond (eq q key) (Some v) (lookup (eq q) (es ++ rest))
    lookup-push es rest absent =
        ap (λ fs. lookup (eq q) (fs ++ rest)) (sym (insert_entry-new eq (Decides-eq eq laws same) es key v absent)) ∙ put_first es rest

    -- or into the rest
    pub lookup-rest : (es rest more : List (K × V)) → lookup (eq key) es ≡ None → lookup (eq q) more ≡ cond (eq q key) (Some v) (lookup (eq q) rest)
        → lookup (eq q) (es ++ more) ≡ cond (eq q key) (Some v) (lookup (eq q) (es ++ rest))
    lookup-rest es rest more absent put =
        lookup-append (eq q) es more
        ∙ ap (otherwise (lookup (eq q) es)) put
        ∙ otherwise-last (eq q key) v (lookup (eq q) es) (lookup (eq q) rest) (λ there. ap (λ k. lookup (eq k) es) (same q key there) ∙ absent)
        ∙ ap (cond (eq q key) (Some v)) (sym (lookup-append (eq q) es rest))

module _ {K V : Type 0} (eq : K → K → Bool) (cmp : K → K → Ordering) (ties : (x y : K) → eq x y ≡ eq_by_cmp cmp x y) where
  -- a look-up by order is one by equality
  pub lookup-by_order : (es : List (K × V)) (k : K) → lookup (is_at (cmp k)) es ≡ lookup (eq k) es
  lookup-by_order es k = sym (λ i. lookup (λ q. ties k q i) es)

  -- so it is behind a put
  pub lookup-put_by_order : IsEquivalence eq → (es more : List (K × V)) (key : K) (v : V) (q : K) → lookup (is_at (cmp q)) more ≡ cond (is_at (cmp key) q) (Some v) (lookup (is_at (cmp q)) es)
      → lookup (eq q) more ≡ cond (eq q key) (Some v) (lookup (eq q) es)
  lookup-put_by_order laws es more key v q put =
      sym (lookup-by_order more q) ∙ put ∙ (λ i. cond ((sym (ties key q) ∙ laws.symm key q) i) (Some v) (lookup-by_order es q i))
