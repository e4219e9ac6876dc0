-- Results under numbers: one that is used less, goes or comes.
use Rattle.std.proofs.Common.{◌≡◌, ◌≢◌, ◌⊎◌, ◌↔◌, ℕ, ◌+◌, ◌<◌, ◌≤◌, true, false, List, [], ◌∷◌, ◌++◌, Option, Some, None, cond, refl, sym, ap, ◌∙◌, subst, arith, inl, inr, nat_eq, length, drop, get_or, take}
use Rattle.std.specs.Prelude.{All, Contains, is_some}
use Rattle.std.specs.Option.{option_map}
use Rattle.std.proofs.lemmas.Bool.{cases_eq}
use Rattle.std.proofs.lemmas.Bool.Decides.{eqb_tells}
use Rattle.std.proofs.lemmas.List.Elements.{All-contains}
use Rattle.std.proofs.lemmas.Grind.{flat_map-append}
use Rattle.std.proofs.lemmas.List.{append-nil, take-append-drop, take_more}
use Rattle.std.proofs.lemmas.Option.{same_Some}
use Rattle.idl_store.specs.Stored.{results_of_drafts}
use Rattle.slab.specs.Slab.{Slab, Updates, get, with_value}
use Rattle.slab.proofs.SlabLemmas.{Updates-with_value}
use Rattle.idl_store.specs.Index.{AddsTo, IsAlone, bucket_in, numbered}
use Rattle.idl_store.specs.Numbers.{AreFewer, AreMore, IsIndexOf, kept_at, times, uses_of, with_bucket}
use Rattle.idl_store.specs.declared.index.Numbered.{Numbered}
use Rattle.idl_store.specs.declared.numbers.Used.{Used}
use Rattle.idl_store.proofs.Times.{times-append}

-- another number alone is no time there
pub times_other : (n m : ℕ) → n ≢ m → times n (m ∷ []) ≡ 0
times_other n m differ = by (eqb_tells n m)
  where
    by : ((nat_eq n m ≡ true) × (n ≡ m)) ⊎ ((nat_eq n m ≡ false) × (n ≢ m)) → times n (m ∷ []) ≡ 0
    by (inl h) = absurd (differ h.1)
    by (inr h) = ap (λ b. cond b 1 0 + 0) h.0

-- and the number itself once
pub times_one : (n : ℕ) → times n (n ∷ []) ≡ 1
times_one n = by (eqb_tells n n)
  where
    by : ((nat_eq n n ≡ true) × (n ≡ n)) ⊎ ((nat_eq n n ≡ false) × (n ≢ n)) → times n (n ∷ []) ≡ 1
    by (inl h) = ap (λ b. cond b 1 0 + 0) h.0
    by (inr h) = absurd (h.1 refl)

-- a number is that of one result of a bucket
pub indexed-alone : {R : Type 0} (used : Slab (Used R)) (index : List (ℕ × List (Numbered R))) (b number : ℕ) → IsIndexOf used index → IsAlone number (bucket_in index b)
indexed-alone {R} used index b number indexed one other c d is is' =
    let first : R × ℕ = (one.result, b) in
    let second : R × ℕ = (other.result, b) in
    let both : Some first ≡ Some second = sym ((indexed b one).0 c) ∙ ap (kept_at used) (is ∙ sym is') ∙ (indexed b other).0 d in
    ap (λ (k : R × ℕ). k.0) (same_Some first second both)

module _ {R : Type 0} (old new : Slab (Used R)) where
  -- what is kept is found still
  pub indexed-same : (index : List (ℕ × List (Numbered R))) → ((n : ℕ) → kept_at new n ≡ kept_at old n) → IsIndexOf old index → IsIndexOf new index
  indexed-same index same indexed b one =
      subst (λ (o : Option (R × ℕ)). Contains (bucket_in index b) one ↔ (o ≡ Some (one.result, b))) (sym (same one.number)) (indexed b one)

  module _ (before after : List (ℕ × List (Numbered R))) (number : ℕ) (k : R × ℕ) (others : (n : ℕ) → n ≢ number → get new n ≡ get old n) where
    abbrev item : Numbered R
    item = numbered k.0 number

    placed_other : (n : ℕ) → n ≢ number → kept_at new n ≡ kept_at old n
    placed_other n e = ap (option_map with_bucket) (others n e)

    -- one that goes is found no more
    pub indexed-gone : kept_at old number ≡ Some k → get new number ≡ None → AddsTo after before k.1 item → All (λ one. one.number ≢ number) (bucket_in after k.1) → IsIndexOf old before → IsIndexOf new after
    indexed-gone here gone adds out indexed b one = (to (cases_eq one.number number), from (cases_eq one.number number))
      where
        none : kept_at new number ≡ None
        none = ap (option_map with_bucket) gone

        to : (one.number ≡ number) ⊎ (one.number ≢ number) → Contains (bucket_in after b) one → kept_at new one.number ≡ Some (one.result, b)
        to (inl e) c =
            let was : R × ℕ = (one.result, b) in
            let at : b ≡ k.1 = ap (λ (r : R × ℕ). r.1) (same_Some was k (sym ((indexed b one).0 ((adds.has b one).1 (inr c))) ∙ ap (kept_at old) e ∙ here)) in
            absurd (All-contains (λ (one : Numbered R). one.number ≢ number) (bucket_in after k.1) one out (subst (λ (b : ℕ). Contains (bucket_in after b) one) at c) e)
        to (inr e) c = placed_other one.number e ∙ (indexed b one).0 ((adds.has b one).1 (inr c))

        left : one.number ≢ number → ((b ≡ k.1) × (one ≡ item)) ⊎ Contains (bucket_in after b) one → Contains (bucket_in after b) one
        left e (inl p) = absurd (e (ap (λ (one : Numbered R). one.number) p.1))
        left e (inr c) = c

        from : (one.number ≡ number) ⊎ (one.number ≢ number) → kept_at new one.number ≡ Some (one.result, b) → Contains (bucket_in after b) one
        from (inl e) h =
            let was : R × ℕ = (one.result, b) in
            let nothing : Some was ≡ None = sym h ∙ ap (kept_at new) e ∙ none in
            absurd (cc)
        from (inr e) h = left e ((adds.has b one).0 ((indexed b one).1 (sym (placed_other one.number e) ∙ h)))

    -- one that comes is found
    pub indexed-put : kept_at old number ≡ None → kept_at new number ≡ Some k → AddsTo before after k.1 item → IsIndexOf old before → IsIndexOf new after
    indexed-put free here adds indexed b one = (λ c. to (cases_eq one.number number) ((adds.has b one).0 c), from (cases_eq one.number number))
      where
        to : (one.number ≡ number) ⊎ (one.number ≢ number) → ((b ≡ k.1) × (one ≡ item)) ⊎ Contains (bucket_in before b) one → kept_at new one.number ≡ Some (one.result, b)
        to o (inl p) =
            let mine : R × ℕ = (one.result, b) in
            let same : mine ≡ k = λ i. ((p.1 i).result, p.0 i) in
            ap (λ (one : Numbered R). kept_at new one.number) p.1 ∙ here ∙ ap (λ (r : R × ℕ). Some r) (sym same)
        to (inl e) (inr c) =
            let mine : R × ℕ = (one.result, b) in
            let nothing : Some mine ≡ None = sym ((indexed b one).0 c) ∙ ap (kept_at old) e ∙ free in
            absurd (cc)
        to (inr e) (inr c) = placed_other one.number e ∙ (indexed b one).0 c

        from : (one.number ≡ number) ⊎ (one.number ≢ number) → kept_at new one.number ≡ Some (one.result, b) → Contains (bucket_in after b) one
        from (inl e) h =
            let mine : R × ℕ = (one.result, b) in
            let same : mine ≡ k = same_Some mine k (sym h ∙ ap (kept_at new) e ∙ here) in
            let it : one ≡ item = λ i. record { result = (same i).0; number = e i } in
            (adds.has b one).1 (inl (ap (λ (r : R × ℕ). r.1) same, it))
        from (inr e) h = (adds.has b one).1 (inr ((indexed b one).1 (sym (placed_other one.number e) ∙ h)))

  -- the same by what was kept
  pub indexed-removed : (before after : List (ℕ × List (Numbered R))) (number : ℕ) (last : Used R) → get old number ≡ Some last → Updates old new number None
      → ((one : Numbered R) → one.number ≡ number → Contains (bucket_in before last.bucket) one → AddsTo after before last.bucket one) → All (λ one. one.number ≢ number) (bucket_in after last.bucket) → IsIndexOf old before → IsIndexOf new after
  indexed-removed before after number last was updates adds out indexed =
      let k : R × ℕ = (last.result, last.bucket) in
      let one : Numbered R = numbered last.result number in
      let here : kept_at old number ≡ Some k = ap (option_map with_bucket) was in
      indexed-gone before after number k updates.others here updates.changed (adds one refl ((indexed last.bucket one).1 here)) out indexed

-- ---- uses given up one after another

module _ {R : Type 0} where
  -- some, and then others
  pub fewer-then : (old mid new : Slab (Used R)) (first second : List ℕ) → AreFewer old mid first → AreFewer mid new second → AreFewer old new (first ++ second)
  fewer-then old mid new first second before after = record {
    uses = λ n. omega (arith, before.uses n, after.uses n, times-append n first second);
    kept = λ n some. after.kept n some ∙ before.kept n (omega (arith, after.uses n, some));
  }

-- the next of some numbers has a use still
pub next-used : (numbers : List ℕ) (i d used left : ℕ) → i < length numbers → left + times (get_or numbers i d) (take i numbers) ≡ used → times (get_or numbers i d) numbers ≤ used → 0 < left
next-used numbers i d used left below so all =
    let number = get_or numbers i d in
    let whole : times number numbers ≡ times number (take (i + 1) numbers) + times number (drop (i + 1) numbers) =
    ap (times number) (sym (take-append-drop (i + 1) numbers)) ∙ times-append number (take (i + 1) numbers) (drop (i + 1) numbers) in
    let more : times number (take (i + 1) numbers) ≡ times number (take i numbers) + times number (number ∷ []) =
    ap (times number) (take_more numbers i d below) ∙ times-append number (take i numbers) (number ∷ []) in
    omega (arith, whole, more, times_one number, so, all)

-- other uses are written
pub kept-written : {R : Type 0} (old : Slab (Used R)) (number : ℕ) (u : Used R) (uses place : ℕ) → get old number ≡ Some u → (n : ℕ) → kept_at (with_value old number (record { result = u.result; uses = uses; bucket = u.bucket; place = place })) n ≡ kept_at old n
kept-written {R} old number u uses place here n = by (cases_eq n number)
  where
    updates : Updates old (with_value old number (record { result = u.result; uses = uses; bucket = u.bucket; place = place })) number (Some (record { result = u.result; uses = uses; bucket = u.bucket; place = place }))
    updates = Updates-with_value old number (record { result = u.result; uses = uses; bucket = u.bucket; place = place }) (ap is_some here)

    by : (n ≡ number) ⊎ (n ≢ number) → kept_at (with_value old number (record { result = u.result; uses = uses; bucket = u.bucket; place = place })) n ≡ kept_at old n
    by (inl e) = rw e (ap (option_map with_bucket) updates.changed ∙ sym (ap (option_map with_bucket) here))
    by (inr e) = ap (option_map with_bucket) (updates.others n e)

-- a use more is written
pub more-written : {R : Type 0} (old : Slab (Used R)) (number : ℕ) (u : Used R) (uses place : ℕ) (before after : List ℕ) → get old number ≡ Some u → uses ≡ u.uses + 1 → ((n : ℕ) → times n after ≡ times n before + times n (number ∷ [])) → AreMore old (with_value old number (record { result = u.result; uses = uses; bucket = u.bucket; place = place })) before after
more-written {R} old number u uses place before after here more parts = record { uses = λ n. uses_by n (cases_eq n number); kept = λ n. kept_by n (cases_eq n number) }
  where
    updates : Updates old (with_value old number (record { result = u.result; uses = uses; bucket = u.bucket; place = place })) number (Some (record { result = u.result; uses = uses; bucket = u.bucket; place = place }))
    updates = Updates-with_value old number (record { result = u.result; uses = uses; bucket = u.bucket; place = place }) (ap is_some here)

    uses_by : (n : ℕ) → (n ≡ number) ⊎ (n ≢ number) → uses_of (with_value old number (record { result = u.result; uses = uses; bucket = u.bucket; place = place })) n + times n before ≡ uses_of old n + times n after
    uses_by n (inl e) =
        let now : uses_of (with_value old number (record { result = u.result; uses = uses; bucket = u.bucket; place = place })) number ≡ uses = ap (λ o. elim o [ None ↦ 0 | Some u ↦ u.uses ]) updates.changed in
        let was : uses_of old number ≡ u.uses = ap (λ o. elim o [ None ↦ 0 | Some u ↦ u.uses ]) here in
        rw e (omega (arith, now, was, more, parts number, times_one number))
    uses_by n (inr e) =
        let same : uses_of (with_value old number (record { result = u.result; uses = uses; bucket = u.bucket; place = place })) n ≡ uses_of old n = ap (λ o. elim o [ None ↦ 0 | Some u ↦ u.uses ]) (updates.others n e) in
        omega (arith, same, parts n, times_other n number e)

    kept_by : (n : ℕ) → (n ≡ number) ⊎ (n ≢ number) → kept_at (with_value old number (record { result = u.result; uses = uses; bucket = u.bucket; place = place })) n ≡ kept_at old n
    kept_by n (inl e) = rw e (ap (option_map with_bucket) updates.changed ∙ sym (ap (option_map with_bucket) here))
    kept_by n (inr e) = ap (option_map with_bucket) (updates.others n e)

-- ---- uses that come one after another

module _ {R : Type 0} where
  -- some, and then others
  pub more-then : (old mid new : Slab (Used R)) (first second : List ℕ) → AreMore old mid [] first → AreMore mid new [] second → AreMore old new [] (first ++ second)
  more-then old mid new first second before after = record {
    uses = λ n. omega (arith, before.uses n, after.uses n, times-append n first second);
    kept = λ n. after.kept n ∙ before.kept n;
  }

  -- beside others
  pub more-beside : (old new : Slab (Used R)) (numbers before after : List ℕ) → AreMore old new [] numbers → ((n : ℕ) → times n after ≡ times n before + times n numbers) → AreMore old new before after
  more-beside old new numbers before after more parts = record {
    uses = λ n. omega (arith, more.uses n, parts n);
    kept = more.kept;
  }

-- the results of drafts, and of the next one
pub drafted-more : (ds : List (ℕ × List ℕ)) (i : ℕ) (d : ℕ × List ℕ) → i < length ds → d ≡ get_or ds i d → results_of_drafts (take (i + 1) ds) ≡ results_of_drafts (take i ds) ++ d.1
drafted-more ds i d below is =
    ap results_of_drafts (take_more ds i d below) ∙ flat_map-append (λ d. d.1) (take i ds) (get_or ds i d ∷ [])
    ∙ ap (λ xs. results_of_drafts (take i ds) ++ xs) (append-nil (get_or ds i d).1 ∙ ap (λ (e : ℕ × List ℕ). e.1) (sym is))

-- the numbers of the next of some drafts have their uses still
pub next-drafted : (ds : List (ℕ × List ℕ)) (i n used left : ℕ) (d : ℕ × List ℕ) → i < length ds → d ≡ get_or ds i d → left + times n (results_of_drafts (take i ds)) ≡ used → times n (results_of_drafts ds) ≤ used → times n d.1 ≤ left
next-drafted ds i n used left d below is so all =
    let whole : times n (results_of_drafts ds) ≡ times n (results_of_drafts (take (i + 1) ds)) + times n (results_of_drafts (drop (i + 1) ds)) =
    ap (λ ds. times n (results_of_drafts ds)) (sym (take-append-drop (i + 1) ds)) ∙ ap (times n) (flat_map-append (λ d. d.1) (take (i + 1) ds) (drop (i + 1) ds)) ∙ times-append n (results_of_drafts (take (i + 1) ds)) (results_of_drafts (drop (i + 1) ds)) in
    let more : times n (results_of_drafts (take (i + 1) ds)) ≡ times n (results_of_drafts (take i ds)) + times n d.1 = ap (times n) (drafted-more ds i d below is) ∙ times-append n (results_of_drafts (take i ds)) d.1 in
    omega (arith, whole, more, so, all)
