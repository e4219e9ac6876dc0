-- Buckets of a map by their numbers: what a look-up finds, and what is written.
use Rattle.std.proofs.Common.{◌≡◌, ◌≢◌, ◌⊎◌, ◌↔◌, ℕ, Bool, true, false, List, [], ◌∷◌, Option, Some, None, Vec, Result, Ok, Err, cond, refl, sym, ap, ◌∙◌, subst, arith, inl, inr, length, map, nat_eq}
use Rattle.std.specs.Prelude.{Contains, OnErr}
use Rattle.std.specs.Global.{Global}
use Rattle.std.specs.HashMap.{HashMap, UpdatesBy, get}
use Rattle.std.specs.Map.{lookup, set_value}
use Rattle.std.specs.Option.{unwrap_or}
use Rattle.std.specs.declared.cmp.Ordering.{Ordering}
use Rattle.std.proofs.lemmas.Bool.{cases_eq, ne_eqb}
use Rattle.idl_store.specs.Buckets.{AddsOne}
use Rattle.idl_store.specs.Index.{AddsTo, AreInOrder, IsInOrder, bucket_in, buckets_of, numbered_cmp}
use Rattle.idl_store.specs.declared.index.Numbered.{Numbered}

-- a clause on want of memory, from its fact
pub on_err : {X Y P : Type 0} (r : Result X Y) → P → OnErr r P
on_err (Ok x) p = tt
on_err (Err y) p = p

-- of a bucket without items nothing is left
pub none_left : {X : Type 0} (xs : List X) → length xs ≡ 0 → xs ≡ []
none_left [] h = refl
none_left (x ∷ xs) h = absurd (omega (arith, h))

module _ {R : Type 0} where
  -- ---- what a look-up finds

  abbrev seen : ℕ × Vec (Numbered R) Global → ℕ × List (Numbered R)
  seen e = (e.0, e.1.items)

  -- the results of a bucket that is there, or not
  abbrev pub held : Option (Vec (Numbered R) Global) → List (Numbered R)
  held None = []
  held (Some v) = v.items

  found : (test : ℕ → Bool) (es : List (ℕ × Vec (Numbered R) Global)) → unwrap_or (lookup test (map seen es)) [] ≡ held (lookup test es)
  found test [] = refl
  found test (e ∷ es) = by (test e.0) (found test es)
    where
      by : (b : Bool) → unwrap_or (lookup test (map seen es)) [] ≡ held (lookup test es) → unwrap_or (cond b (Some e.1.items) (lookup test (map seen es))) [] ≡ held (cond b (Some e.1) (lookup test es))
      by true later = refl
      by false later = later

  pub bucket-found : {S : Type 0} (m : HashMap ℕ (Vec (Numbered R) Global) S) (d : ℕ) (o : Option (Vec (Numbered R) Global)) → get nat_eq m d ≡ o → bucket_in (buckets_of m) d ≡ held o
  bucket-found m d o is = found (nat_eq d) m.entries ∙ ap held is

  -- where look-ups find the same, each bucket has the same results
  pub bucket-same : {S : Type 0} (m n : HashMap ℕ (Vec (Numbered R) Global) S) (b : ℕ) → get nat_eq n b ≡ get nat_eq m b → bucket_in (buckets_of n) b ≡ bucket_in (buckets_of m) b
  bucket-same m n b same = bucket-found n b (get nat_eq m b) same ∙ sym (found (nat_eq b) m.entries)

  -- a map without entries has no buckets
  pub none-in : {S : Type 0} (m : HashMap ℕ (Vec (Numbered R) Global) S) → m.entries ≡ [] → buckets_of m ≡ []
  none-in m is = ap (λ (es : List (ℕ × Vec (Numbered R) Global)). map seen es) is

  -- ---- what is written

  -- the same items in a bucket
  same-set : (test : ℕ → Bool) (es : List (ℕ × Vec (Numbered R) Global)) (v w : Vec (Numbered R) Global) → lookup test es ≡ Some v → w.items ≡ v.items → map seen (set_value test es w) ≡ map seen es
  same-set test [] v w h is = refl
  same-set test (e ∷ es) v w h is = by (test e.0) h (λ r. same-set test es v w r is)
    where
      by : (b : Bool) → cond b (Some e.1) (lookup test es) ≡ Some v → (lookup test es ≡ Some v → map seen (set_value test es w) ≡ map seen es) → map seen (cond b ((e.0, w) ∷ es) (e ∷ set_value test es w)) ≡ seen e ∷ map seen es
      by true h later =
          let same : e.1 ≡ v = cc in
          ap (λ (items : List (Numbered R)). (e.0, items) ∷ map seen es) (is ∙ sym (ap (λ (u : Vec (Numbered R) Global). u.items) same))
      by false h later = ap (λ (rest : List (ℕ × List (Numbered R))). seen e ∷ rest) (later h)

  pub bucket-kept : {S : Type 0} (m n : HashMap ℕ (Vec (Numbered R) Global) S) (d : ℕ) (v w : Vec (Numbered R) Global) → get nat_eq m d ≡ Some v → n.entries ≡ set_value (nat_eq d) m.entries w → w.items ≡ v.items → buckets_of n ≡ buckets_of m
  bucket-kept m n d v w at is same = ap (λ (es : List (ℕ × Vec (Numbered R) Global)). map seen es) is ∙ same-set (nat_eq d) m.entries v w at same

  -- other results in one bucket, and the same in each other
  abbrev pub IsWritten : List (ℕ × List (Numbered R)) → List (ℕ × List (Numbered R)) → ℕ → List (Numbered R) → Type 0
  IsWritten old new d items = (bucket_in new d ≡ items) × ((b : ℕ) → b ≢ d → bucket_in new b ≡ bucket_in old b)

  pub written : {S : Type 0} (m n : HashMap ℕ (Vec (Numbered R) Global) S) (d : ℕ) (o : Option (Vec (Numbered R) Global)) → UpdatesBy nat_eq (nat_eq d) m n o → IsWritten (buckets_of m) (buckets_of n) d (held o)
  written m n d o updates = (bucket-found n d o updates.1, λ b apart. bucket-same m n b (updates.2 b (ne_eqb d b (λ e. apart (sym e)))))

  pub written-then : (a b c : List (ℕ × List (Numbered R))) (d : ℕ) (first then : List (Numbered R)) → IsWritten a b d first → IsWritten b c d then → IsWritten a c d then
  written-then a b c d first then before after = (after.0, λ k apart. after.1 k apart ∙ before.1 k apart)

  -- an item more in one bucket
  adds-at : (old new : List (ℕ × List (Numbered R))) (d : ℕ) (item : Numbered R) → AddsOne (bucket_in old d) (bucket_in new d) item → ((b : ℕ) → b ≢ d → bucket_in new b ≡ bucket_in old b) → AddsTo old new d item
  adds-at old new d item adds others = record { has = λ b one. by b one (cases_eq b d) }
    where
      to : (one : Numbered R) → (one ≡ item) ⊎ Contains (bucket_in old d) one → ((d ≡ d) × (one ≡ item)) ⊎ Contains (bucket_in old d) one
      to one (inl is) = inl (refl, is)
      to one (inr c) = inr c

      from : (one : Numbered R) → ((d ≡ d) × (one ≡ item)) ⊎ Contains (bucket_in old d) one → (one ≡ item) ⊎ Contains (bucket_in old d) one
      from one (inl p) = inl p.1
      from one (inr c) = inr c

      back : (b : ℕ) (one : Numbered R) → b ≢ d → ((b ≡ d) × (one ≡ item)) ⊎ Contains (bucket_in old b) one → Contains (bucket_in new b) one
      back b one e (inl p) = absurd (e p.0)
      back b one e (inr c) = subst (λ xs. Contains xs one) (sym (others b e)) c

      by : (b : ℕ) (one : Numbered R) → (b ≡ d) ⊎ (b ≢ d) → Contains (bucket_in new b) one ↔ (((b ≡ d) × (one ≡ item)) ⊎ Contains (bucket_in old b) one)
      by b one (inl e) =
          subst (λ (k : ℕ). Contains (bucket_in new k) one ↔ (((k ≡ d) × (one ≡ item)) ⊎ Contains (bucket_in old k) one)) (sym e)
          (λ c. to one ((adds.has one).0 c), λ s. (adds.has one).1 (from one s))
      by b one (inr e) = (λ c. inr (subst (λ xs. Contains xs one) (others b e) c), λ s. back b one e s)

  module _ (old new : List (ℕ × List (Numbered R))) (d : ℕ) (items : List (Numbered R)) (is : IsWritten old new d items) where
    -- each is in order still
    pub order-written : (cmp : R → R → Ordering) → AreInOrder (numbered_cmp cmp) items → IsInOrder cmp old → IsInOrder cmp new
    order-written cmp sorted all b = by (cases_eq b d)
      where
        by : (b ≡ d) ⊎ (b ≢ d) → AreInOrder (numbered_cmp cmp) (bucket_in new b)
        by (inl e) = subst (AreInOrder (numbered_cmp cmp)) (sym (ap (bucket_in new) e ∙ is.0)) sorted
        by (inr e) = subst (AreInOrder (numbered_cmp cmp)) (sym (is.1 b e)) (all b)

    -- an item more in it
    pub adds-written : (item : Numbered R) → AddsOne (bucket_in old d) items item → AddsTo old new d item
    adds-written item adds = adds-at old new d item (subst (λ xs. AddsOne (bucket_in old d) xs item) (sym is.0) adds) is.1

    -- and one less
    pub takes-written : (item : Numbered R) → AddsOne items (bucket_in old d) item → AddsTo new old d item
    takes-written item takes = adds-at new old d item (subst (λ xs. AddsOne xs (bucket_in old d) item) (sym is.0) takes) (λ b apart. sym (is.1 b apart))
