-- A table's entries by the index of their places.
use Rattle.std.specs.Prelude.{IfSome, nat_lt, slice_get, slice_set, slice_index_or}
use Rattle.std.proofs.Common.{◌≡◌, ◌≢◌, ◌↔◌, ◌+◌, ℕ, zero, suc, ◌<◌, Bool, true, false, not, ◌||◌, cond, if◌then◌else◌, List, [], ◌∷◌, ◌++◌, Option, None, Some, is_some, length, ◌⊎◌, inl, inr, refl, sym, ap, ◌∙◌, arith, subst, true≢false}
use Rattle.std.specs.Bool.{Decides}
use Rattle.std.specs.List.{list_any, position, position_or_len}
use Rattle.std.specs.Map.{lookup, keys_of}
use Rattle.std.specs.Option.{option_to_list}
use Rattle.std.proofs.lemmas.Bool.{lt-ltb}
use Rattle.std.proofs.lemmas.Option.{none-some, same_Some, slice_get_within}
use Rattle.std.proofs.lemmas.List.{append-nil}
use Rattle.std.proofs.lemmas.List.Quantifiers.{position-Some}
use Rattle.std.proofs.lemmas.Map.Entries.{length-keys_of}
use Rattle.idl_map.specs.Table.{insert_entry, AreDistinct, IsIndexOf, IsIndexed}

or_some : {V : Type 0} (b : Bool) (v : V) (o : Option V) (r : Bool) → r ≡ is_some o → (b || r) ≡ is_some (cond b (Some v) o)
or_some true v o r h = refl
or_some false v o r h = h

-- a key is among those of entries where it has a value
pub among_keys : {K V : Type 0} (test : K → Bool) (es : List (K × V)) → list_any (λ e. test e.0) es ≡ is_some (lookup test es)
among_keys test [] = refl
among_keys test (e ∷ es) = or_some (test e.0) e.1 (lookup test es) (list_any (λ e. test e.0) es) (among_keys test es)

-- what is not something is nothing
pub nothing : {A : Type 0} (o : Option A) → is_some o ≡ false → o ≡ None
nothing None h = refl
nothing (Some a) h = cc

module _ {K V : Type 0} where
  -- the keys of entries behind which one more is put
  pub keys_of-push : (es : List (K × V)) (k : K) (v : V) → keys_of (es ++ (k, v) ∷ []) ≡ keys_of es ++ k ∷ []
  keys_of-push [] k v = refl
  keys_of-push (e ∷ es) k v = ap (λ ks. e.0 ∷ ks) (keys_of-push es k v)

  -- an entry that takes another value keeps its key
  pub keys_of-slice_set : (es : List (K × V)) (i : ℕ) (k : K) (v : V) → slice_get (keys_of es) i ≡ Some k → keys_of (slice_set es i (k, v)) ≡ keys_of es
  keys_of-slice_set [] i k v h = refl
  keys_of-slice_set (e ∷ es) zero k v h = ap (λ x. x ∷ keys_of es) (sym (same_Some e.0 k h))
  keys_of-slice_set (e ∷ es) (suc i) k v h = ap (λ ks. e.0 ∷ ks) (keys_of-slice_set es i k v h)

  -- the entry at the place of a key is the key's
  pub key-at : (es : List (K × V)) (i : ℕ) (k : K) (d : K × V) → slice_get (keys_of es) i ≡ Some k → (slice_index_or es i d).0 ≡ k
  key-at [] i k d h = cc
  key-at (e ∷ es) zero k d h = same_Some e.0 k h
  key-at (e ∷ es) (suc i) k d h = key-at es i k d h

  -- the key at a place
  pub slice_get-key : (es : List (K × V)) (i : ℕ) (d : K × V) → i < length es → slice_get (keys_of es) i ≡ Some (slice_index_or es i d).0
  slice_get-key [] i d h = absurd (omega arith)
  slice_get-key (e ∷ es) zero d h = refl
  slice_get-key (e ∷ es) (suc i) d h = slice_get-key es i d (omega arith)

module _ {K V : Type 0} (eq : K → K → Bool) (exact : (x y : K) → Decides (eq x y) (x ≡ y)) where
  -- the value at a key that stands at one place alone
  pub lookup-at : (es : List (K × V)) (k : K) (i : ℕ) (d : K × V) → ((j : ℕ) → slice_get (keys_of es) j ≡ Some k → j ≡ i) → slice_get (keys_of es) i ≡ Some k
      → lookup (eq k) es ≡ Some (slice_index_or es i d).1
  lookup-at [] k i d only at = cc
  lookup-at (e ∷ es) k zero d only at = ap (λ b. cond b (Some e.1) (lookup (eq k) es)) ((exact k e.0).1 (sym (same_Some e.0 k at)))
  lookup-at (e ∷ es) k (suc i) d only at = by (eq k e.0) refl (lookup-at es k i d (λ j h. let more : suc j ≡ suc i = only (suc j) h in omega arith) at)
    where
      by : (b : Bool) → eq k e.0 ≡ b → lookup (eq k) es ≡ Some (slice_index_or es i d).1 → lookup (eq k) (e ∷ es) ≡ Some (slice_index_or es i d).1
      by true t rest = absurd (let zero_is : 0 ≡ suc i = only 0 (ap Some (sym ((exact k e.0).0 t))) in omega arith)
      by false t rest = ap (λ b. cond b (Some e.1) (lookup (eq k) es)) t ∙ rest

  -- there is none at a key that stands nowhere
  pub lookup-nowhere : (es : List (K × V)) (k : K) → ((j : ℕ) → slice_get (keys_of es) j ≢ Some k) → lookup (eq k) es ≡ None
  lookup-nowhere [] k nowhere = refl
  lookup-nowhere (e ∷ es) k nowhere = by (eq k e.0) refl (lookup-nowhere es k (λ j. nowhere (suc j)))
    where
      by : (b : Bool) → eq k e.0 ≡ b → lookup (eq k) es ≡ None → lookup (eq k) (e ∷ es) ≡ None
      by true t rest = absurd (nowhere 0 (ap Some (sym ((exact k e.0).0 t))))
      by false t rest = ap (λ b. cond b (Some e.1) (lookup (eq k) es)) t ∙ rest

  -- a key without a value stands nowhere
  pub nowhere-lookup : (es : List (K × V)) (k : K) → lookup (eq k) es ≡ None → (j : ℕ) → slice_get (keys_of es) j ≢ Some k
  nowhere-lookup [] k none j at = cc
  nowhere-lookup (e ∷ es) k none zero at =
      let here : eq k e.0 ≡ true = (exact k e.0).1 (sym (same_Some e.0 k at)) in
      let some : Some e.1 ≡ None = sym (ap (λ b. cond b (Some e.1) (lookup (eq k) es)) here) ∙ none in
      cc
  nowhere-lookup (e ∷ es) k none (suc j) at = by (eq k e.0) refl (λ later. nowhere-lookup es k later j at)
    where
      by : (b : Bool) → eq k e.0 ≡ b → (lookup (eq k) es ≡ None → ⊥) → ⊥
      by true t rest = let some : Some e.1 ≡ None = sym (ap (λ b. cond b (Some e.1) (lookup (eq k) es)) t) ∙ none in cc
      by false t rest = rest (sym (ap (λ b. cond b (Some e.1) (lookup (eq k) es)) t) ∙ none)

  -- a put at a key that stands at one place alone
  pub insert_entry-at : (es : List (K × V)) (k : K) (v : V) (i : ℕ) → ((j : ℕ) → slice_get (keys_of es) j ≡ Some k → j ≡ i) → slice_get (keys_of es) i ≡ Some k
      → insert_entry eq es k v ≡ slice_set es i (k, v)
  insert_entry-at [] k v i only at = cc
  insert_entry-at (e ∷ es) k v zero only at =
      ap (λ b. if b then (e.0, v) ∷ es else e ∷ insert_entry eq es k v) ((exact k e.0).1 (sym (same_Some e.0 k at)))
      ∙ ap (λ x. (x, v) ∷ es) (same_Some e.0 k at)
  insert_entry-at (e ∷ es) k v (suc i) only at = by (eq k e.0) refl (insert_entry-at es k v i (λ j h. let more : suc j ≡ suc i = only (suc j) h in omega arith) at)
    where
      by : (b : Bool) → eq k e.0 ≡ b → insert_entry eq es k v ≡ slice_set es i (k, v) → insert_entry eq (e ∷ es) k v ≡ e ∷ slice_set es i (k, v)
      by true t rest = absurd (let zero_is : 0 ≡ suc i = only 0 (ap Some (sym ((exact k e.0).0 t))) in omega arith)
      by false t rest = ap (λ b. if b then (e.0, v) ∷ es else e ∷ insert_entry eq es k v) t ∙ ap (λ fs. e ∷ fs) rest

  -- a put at a new key
  pub insert_entry-new : (es : List (K × V)) (k : K) (v : V) → lookup (eq k) es ≡ None → insert_entry eq es k v ≡ es ++ (k, v) ∷ []
  insert_entry-new [] k v none = refl
  insert_entry-new (e ∷ es) k v none = by (eq k e.0) refl (insert_entry-new es k v)
    where
      by : (b : Bool) → eq k e.0 ≡ b → (lookup (eq k) es ≡ None → insert_entry eq es k v ≡ es ++ (k, v) ∷ []) → insert_entry eq (e ∷ es) k v ≡ e ∷ (es ++ (k, v) ∷ [])
      by true t rest = let some : Some e.1 ≡ None = sym (ap (λ b. cond b (Some e.1) (lookup (eq k) es)) t) ∙ none in cc
      by false t rest =
          ap (λ b. if b then (e.0, v) ∷ es else e ∷ insert_entry eq es k v) t
          ∙ ap (λ fs. e ∷ fs) (rest (sym (ap (λ b. cond b (Some e.1) (lookup (eq k) es)) t) ∙ none))

  -- a key that stands at one place alone is found there
  pub position_or_len-at : (es : List (K × V)) (k : K) (i : ℕ) → AreDistinct (keys_of es) → slice_get (keys_of es) i ≡ Some k → position_or_len (λ e. eq e.0 k) es ≡ i
  position_or_len-at [] k i distinct at = cc
  position_or_len-at (e ∷ es) k zero distinct at = ap (λ b. cond (not b) (1 + position_or_len (λ e. eq e.0 k) es) 0) ((exact e.0 k).1 (same_Some e.0 k at))
  position_or_len-at (e ∷ es) k (suc i) distinct at =
      by (eq e.0 k) refl (position_or_len-at es k i (λ q m n one two. let both : suc m ≡ suc n = distinct q (suc m) (suc n) one two in omega arith) at)
    where
      by : (b : Bool) → eq e.0 k ≡ b → position_or_len (λ e. eq e.0 k) es ≡ i → position_or_len (λ e. eq e.0 k) (e ∷ es) ≡ suc i
      by true t later = absurd (let same : 0 ≡ suc i = distinct k 0 (suc i) (ap Some ((exact e.0 k).0 t)) at in omega arith)
      by false t later = ap (λ b. cond (not b) (1 + position_or_len (λ e. eq e.0 k) es) 0) t ∙ omega (arith, later)

  -- and there alone
  pub position-is : (es : List (K × V)) (k : K) → AreDistinct (keys_of es) → (i : ℕ) → (position (λ e. eq e.0 k) es ≡ Some i) ↔ (slice_get (keys_of es) i ≡ Some k)
  position-is es k distinct i = (found es, at)
    where
      found : (es : List (K × V)) → position (λ e. eq e.0 k) es ≡ Some i → slice_get (keys_of es) i ≡ Some k
      found [] h = cc
      found (e ∷ es) h =
          let there = position-Some (λ e. eq e.0 k) (e ∷ es) i e h in
          slice_get-key (e ∷ es) i e there.0 ∙ ap Some ((exact (slice_index_or (e ∷ es) i e).0 k).0 there.1)

      at : slice_get (keys_of es) i ≡ Some k → position (λ e. eq e.0 k) es ≡ Some i
      at h =
          let within : i < length (keys_of es) = slice_get_within (keys_of es) i k h in
          let below : i < length es = omega (arith, length-keys_of es) in
          ap (λ n. cond (nat_lt n (length es)) (Some n) None) (position_or_len-at es k i distinct h) ∙ ap (λ b. cond b (Some i) None) (lt-ltb i (length es) below)

module _ {V : Type 0} (v : V) where
  -- of two values at one key the first counts
  pub cond-twice : (b : Bool) (w : V) (o : Option V) → cond b (Some v) o ≡ cond b (Some v) (cond b (Some w) o)
  cond-twice true w o = refl
  cond-twice false w o = refl

  -- of two at keys that differ it doesn't matter which is first
  pub cond-apart : (a b : Bool) (w : V) (o : Option V) → (a ≡ true → b ≡ true → ⊥) → cond a (Some w) (cond b (Some v) o) ≡ cond b (Some v) (cond a (Some w) o)
  cond-apart true true w o apart = absurd (apart refl refl)
  cond-apart true false w o apart = refl
  cond-apart false b w o apart = refl

module _ {K V : Type 0} (eq : K → K → Bool) (same : (x y : K) → eq x y ≡ true → x ≡ y) (key : K) (v : V) (q : K) where
  -- a look-up behind a put
  pub lookup-insert_entry : (es : List (K × V)) → lookup (eq q) (insert_entry eq es key v) ≡ cond (eq q key) (Some v) (lookup (eq q) es)
  lookup-insert_entry [] = refl
  lookup-insert_entry (e ∷ es) = by (eq key e.0) refl (lookup-insert_entry es)
    where
      by : (b : Bool) → eq key e.0 ≡ b → lookup (eq q) (insert_entry eq es key v) ≡ cond (eq q key) (Some v) (lookup (eq q) es)
          → lookup (eq q) (insert_entry eq (e ∷ es) key v) ≡ cond (eq q key) (Some v) (lookup (eq q) (e ∷ es))
      by true t rest =
          ap (λ b. lookup (eq q) (cond b ((e.0, v) ∷ es) (e ∷ insert_entry eq es key v))) t
          ∙ cond-twice v (eq q e.0) e.1 (lookup (eq q) es)
          ∙ ap (λ k. cond (eq q k) (Some v) (lookup (eq q) (e ∷ es))) (sym (same key e.0 t))
      by false t rest =
          ap (λ b. lookup (eq q) (cond b ((e.0, v) ∷ es) (e ∷ insert_entry eq es key v))) t
          ∙ ap (cond (eq q e.0) (Some e.1)) rest
          ∙ cond-apart v (eq q e.0) (eq q key) e.1 (lookup (eq q) es)
          (λ here there. true≢false (sym here ∙ ap (λ x. eq x e.0) (same q key there) ∙ t))

module _ {K : Type 0} where
  -- an item before the last
  pub slice_get-front : (ks : List K) (k q : K) (i : ℕ) → slice_get ks i ≡ Some q → slice_get (ks ++ k ∷ []) i ≡ Some q
  slice_get-front [] k q i h = cc
  slice_get-front (x ∷ ks) k q zero h = h
  slice_get-front (x ∷ ks) k q (suc i) h = slice_get-front ks k q i h

  -- an item is one before the last, or the last
  pub slice_get-push : (ks : List K) (k q : K) (i : ℕ) → slice_get (ks ++ k ∷ []) i ≡ Some q → (slice_get ks i ≡ Some q) ⊎ ((i ≡ length ks) × (k ≡ q))
  slice_get-push [] k q zero h = inr (refl, same_Some k q h)
  slice_get-push [] k q (suc i) h = cc
  slice_get-push (x ∷ ks) k q zero h = inl h
  slice_get-push (x ∷ ks) k q (suc i) h = elim (slice_get-push ks k q i h) [ inl there ↦ inl there | inr here ↦ inr (ap suc here.0, here.1) ]

  -- keys that differ, and one more that stands nowhere
  pub AreDistinct-push : (ks : List K) (k : K) → AreDistinct ks → ((i : ℕ) → slice_get ks i ≢ Some k) → AreDistinct (ks ++ k ∷ [])
  AreDistinct-push ks k distinct nowhere q i j one two = elim (slice_get-push ks k q i one) [
    | inl first ↦ elim (slice_get-push ks k q j two) [
      | inl second ↦ distinct q i j first second
      | inr second ↦ absurd (nowhere i (first ∙ ap Some (sym second.1)))
    ]
    | inr first ↦ elim (slice_get-push ks k q j two) [
      | inl second ↦ absurd (nowhere j (second ∙ ap Some (sym first.1)))
      | inr second ↦ first.0 ∙ sym second.0
    ]
  ]

  -- without the last they differ still
  pub AreDistinct-front : (ks : List K) (k : K) → AreDistinct (ks ++ k ∷ []) → AreDistinct ks
  AreDistinct-front ks k distinct q i j one two = distinct q i j (slice_get-front ks k q i one) (slice_get-front ks k q j two)

-- the index has the places of as many of the first keys
abbrev pub IsIndexTo : {K : Type 0} → ℕ → (K → Option ℕ) → List K → Type 0
IsIndexTo n places keys = (k : _) (i : ℕ) → i < n → slice_get keys i ≡ Some k → places k ≡ Some i

-- of all
pub IsIndexTo-all : {K : Type 0} (places : K → Option ℕ) (ks : List K) → IsIndexTo (length ks) places ks → IsIndexOf places ks
IsIndexTo-all places ks index k i at = index k i (slice_get_within ks i k at) at

-- an index of keys is one of those before the last, too
pub IsIndexOf-front : {K : Type 0} (places : K → Option ℕ) (ks : List K) (k : K) → IsIndexOf places (ks ++ k ∷ []) → IsIndexOf places ks
IsIndexOf-front places ks k index q i at = index q i (slice_get-front ks k q i at)

index-front : {K : Type 0} (index : Option (K → Option ℕ)) (ks : List K) (k : K) → IfSome index (λ places. IsIndexOf places (ks ++ k ∷ [])) → IfSome index (λ places. IsIndexOf places ks)
index-front None ks k h = h
index-front (Some places) ks k h = IsIndexOf-front places ks k h

-- what is indexed still is without its last entry
pub IsIndexed-front : {K V : Type 0} (index : Option (K → Option ℕ)) (es fs : List (K × V)) (last : Option (K × V)) → es ≡ fs ++ option_to_list last
    → IsIndexed index (keys_of es) → IsIndexed index (keys_of fs)
IsIndexed-front index es fs None is indexed = subst (λ xs. IsIndexed index (keys_of xs)) (is ∙ append-nil fs) indexed
IsIndexed-front index es fs (Some e) is indexed =
    let keys : keys_of es ≡ keys_of fs ++ e.0 ∷ [] = ap keys_of is ∙ keys_of-push fs e.0 e.1 in
    record {
      distinct = AreDistinct-front (keys_of fs) e.0 (subst AreDistinct keys indexed.distinct);
      places = index-front index (keys_of fs) e.0 (subst (λ ks. IfSome index (λ places. IsIndexOf places ks)) keys indexed.places);
    }

-- the index after a step, where its test finds a key exactly
module _ {K : Type 0} (test : K → Bool) (k : K) (finds : (q : K) → Decides (test q) (k ≡ q)) (places new : K → Option ℕ) (ks : List K) where
  -- the next of keys that differ
  pub IsIndexTo-next : AreDistinct ks → (n : ℕ) → slice_get ks n ≡ Some k → IsIndexTo n places ks → ((q : K) → new q ≡ cond (test q) (Some n) (places q)) → IsIndexTo (n + 1) new ks
  IsIndexTo-next distinct n at index is q i below there = by (test q) refl
    where
      earlier : i < n + 1 → (i ≢ n) → i < n
      earlier within other = omega arith

      by : (b : Bool) → test q ≡ b → new q ≡ Some i
      by true t = is q ∙ ap (λ b. cond b (Some n) (places q)) t ∙ ap Some (distinct q n i (at ∙ ap Some ((finds q).0 t)) there)
      by false t =
          is q
          ∙ ap (λ b. cond b (Some n) (places q)) t
          ∙ index q i (earlier below (λ same. (let none : true ≡ false = sym ((finds q).1 (same_Some k q (sym at ∙ ap (slice_get ks) (sym same) ∙ there))) ∙ t in cc))) there

  -- a new key goes last
  pub IsIndexOf-push : IsIndexOf places ks → ((i : ℕ) → slice_get ks i ≢ Some k) → ((q : K) → new q ≡ cond (test q) (Some (length ks)) (places q)) → IsIndexOf new (ks ++ k ∷ [])
  IsIndexOf-push index nowhere is q i at = by (test q) refl
    where
      by : (b : Bool) → test q ≡ b → new q ≡ Some i
      by true t =
          let last : new q ≡ Some (length ks) = is q ∙ ap (λ b. cond b (Some (length ks)) (places q)) t in
          elim (slice_get-push ks k q i at) [
            | inl there ↦ absurd (nowhere i (there ∙ ap Some (sym ((finds q).0 t))))
            | inr here ↦ last ∙ ap Some (sym here.0)
          ]
      by false t =
          let old : new q ≡ places q = is q ∙ ap (λ b. cond b (Some (length ks)) (places q)) t in
          elim (slice_get-push ks k q i at) [
            | inl there ↦ old ∙ index q i there
            | inr here ↦ (let none : true ≡ false = sym ((finds q).1 here.1) ∙ t in cc)
          ]

module _ {K V : Type 0} (eq : K → K → Bool) (exact : (x y : K) → Decides (eq x y) (x ≡ y)) where
  -- a key that stands at a place has a value
  pub value-at : (es : List (K × V)) (k : K) (i : ℕ) → slice_get (keys_of es) i ≡ Some k → is_some (lookup (eq k) es) ≡ true
  value-at es k i at = by (is_some (lookup (eq k) es)) refl
    where
      by : (b : Bool) → is_some (lookup (eq k) es) ≡ b → is_some (lookup (eq k) es) ≡ true
      by true t = t
      by false t = absurd (nowhere-lookup eq exact es k (nothing (lookup (eq k) es) t) i at)

  -- and one that stands nowhere has none
  pub value-nowhere : (es : List (K × V)) (k : K) → ((j : ℕ) → slice_get (keys_of es) j ≢ Some k) → is_some (lookup (eq k) es) ≡ false
  value-nowhere es k nowhere = ap is_some (lookup-nowhere eq exact es k nowhere)

  -- whether a key stands at the place that an index has for it tells whether it has a value
  pub lent-at : (es : List (K × V)) (places : K → Option ℕ) (k : K) (place : ℕ) (b : Bool) → IsIndexOf places (keys_of es) → places k ≡ Some place
      → (b ≡ true) ↔ (slice_get (keys_of es) place ≡ Some k) → b ≡ is_some (lookup (eq k) es)
  lent-at es places k place true index there at = sym (value-at es k place (at.0 refl))
  lent-at es places k place false index there at =
      sym (value-nowhere es k (λ j here.
      let same = same_Some place j (sym there ∙ index k j here) in
      true≢false (sym (at.1 (ap (slice_get (keys_of es)) same ∙ here)))))

  -- and where the index has no place for it, it has none
  pub lent-nowhere : (es : List (K × V)) (places : K → Option ℕ) (k : K) → IsIndexOf places (keys_of es) → places k ≡ None → false ≡ is_some (lookup (eq k) es)
  lent-nowhere es places k index none = sym (value-nowhere es k (λ j here. none-some j (sym none ∙ index k j here)))
