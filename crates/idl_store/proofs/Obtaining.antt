-- What a look-up finds, and what comes, in a store.
use Rattle.std.proofs.Common.{◌≡◌, ◌≢◌, ℕ, ◌<◌, List, [], ◌∷◌, Option, Some, None, refl, sym, ap, ◌∙◌, arith, length, subst, Result, Ok, Err, OnOk}
use Rattle.std.specs.Option.{option_map}
use Rattle.std.specs.Prelude.{All, Any, Contains, IfNone, IfSome, IsSome}
use Rattle.std.specs.declared.cmp.Ordering.{Ordering}
use Rattle.std.specs.declared.cmp.Ordering.TheVariants.{Equal}
use Rattle.std.proofs.lemmas.List.Elements.{All-contains, All-contains_itself, All-weaker}
use Rattle.std.proofs.lemmas.Option.{same_Some}
use Rattle.slab.specs.Slab.{Slab, get}
use Rattle.idl_memo.specs.Kept.{Kept}
use Rattle.idl_store.specs.Index.{AddsTo, IsGapAmong, bucket_in, numbered}
use Rattle.idl_store.specs.Numbers.{AreMore, IsPut, IsStored, result_of, shown, times, uses_of, with_bucket}
use Rattle.idl_store.specs.Spots.{result_on}
use Rattle.idl_store.specs.Stored.{Stored, grown, results_in, results_of_drafts, with_results}
use Rattle.idl_store.specs.declared.index.Gap.{Gap}
use Rattle.idl_store.specs.declared.index.Numbered.{Numbered}
use Rattle.idl_store.specs.declared.numbers.Spot.{Spot}
use Rattle.idl_store.specs.declared.numbers.Used.{Used}
use Rattle.idl_store.proofs.Changing.{all-in, found-in, found-result, found-sound, shown-still, stored-put}
use Rattle.idl_store.proofs.Indexing.{gap-apart, gap-same}
use Rattle.idl_store.proofs.Shown.{shown-grown, shown-same}
use Rattle.idl_store.proofs.Spotted.{result-on_number}

-- a clause on what is obtained, from its fact
pub on_ok : {X Y P : Type 0} (r : Result X Y) → P → OnOk r P
on_ok (Ok x) p = p
on_ok (Err y) p = tt

-- results that are one have as many keys
pub keys-same : {K V T O : Type 0} (found here : Kept K V T O) → found ≡ here → length found.log ≡ length here.log
keys-same {K} {V} {T} {O} found here is = ap (λ (k : Kept K V T O). length k.log) is

module _ {R : Type 0} {is_sound : R → Type 0} {bucket : R → ℕ} {used : Slab (Used R)} {index : List (ℕ × List (Numbered R))} {numbers : Stored ℕ} (stored : IsStored is_sound bucket used index numbers) where
  -- ---- a result that is there

  module _ (P : R → Type 0) (b number : ℕ) (found : Any (λ one. P one.result × (one.number ≡ number)) (bucket_in index b)) where
    among : Contains (bucket_in index b) found.1
    among = (found.0, found.2, found.3)

    pub again-here : result_of used number ≡ Some found.1.result
    again-here = ap (result_of used) (sym found.4.1) ∙ found-result stored b found.1 among

    pub again-taken : IsSome (get used number)
    again-taken = by (get used number) refl
      where
        by : (o : Option (Used R)) → get used number ≡ o → IsSome (get used number)
        by None e =
            let none : result_of used number ≡ None = ap (λ o. option_map (λ (r : R × ℕ). r.0) (option_map with_bucket o)) e in
            let some = again-here in
            absurd (cc)
        by (Some u) e = rw e refl

    -- what the number stands for is one of the results, and such a one
    pub again-found : (one : R) → result_of used number ≡ Some one → (s : Stored R) → shown (result_of used) numbers ≡ s → Contains (results_in s) one × is_sound one × P one
    again-found one h s view =
        subst (λ (one : R). Contains (results_in s) one × is_sound one × P one) (same_Some found.1.result one (sym again-here ∙ h))
        (subst (λ (s : Stored R). Contains (results_in s) found.1.result) view (found-in stored b found.1 among), (found-sound stored b found.1 among).sound, found.4.0)

    -- it stands at a spot
    pub again-spot : (r : Option Spot) (s : Stored R) → shown (result_of used) numbers ≡ s → IfSome r (λ spot. result_on numbers spot ≡ Some number) → IfSome r (λ spot. (one : R) × (result_on s spot ≡ Some one) × is_sound one × P one)
    again-spot None s view h = tt
    again-spot (Some spot) s view h =
        let is = again-found found.1.result again-here s view in
        (found.1.result, ap (λ s. result_on s spot) (sym view) ∙ result-on_number stored spot (Some number) (sym h) ∙ again-here, is.1, is.2)

    pub again-some : (Q : Type 0) (r : Option Spot) → (r ≡ None → times number (results_in numbers) ≡ 0) → IfNone r Q
    again-some Q None h = absurd (omega (arith, h refl, stored.counted number, stored.needed number again-taken))
    again-some Q (Some spot) h = tt

  -- it is in the last draft too, where its uses are more
  pub again-grown : (number : ℕ) (one : R) → result_of used number ≡ Some one → (new : Slab (Used R)) (drafts : List (ℕ × List ℕ)) (s : Stored R) → shown (result_of used) numbers ≡ s
      → drafts ≡ with_results numbers.drafts (number ∷ []) → AreMore used new (results_of_drafts numbers.drafts) (results_of_drafts drafts)
      → shown (result_of new) (record { lists = numbers.lists; drafts = drafts }) ≡ grown s (one ∷ [])
  again-grown number one h new drafts s view is more =
      ap (λ (ds : List (ℕ × List ℕ)). shown (result_of new) (record { lists = numbers.lists; drafts = ds })) is
      ∙ shown-same (result_of used) (result_of new) (grown numbers (number ∷ [])) (λ n there. ap (option_map (λ (r : R × ℕ). r.0)) (more.kept n))
      ∙ shown-grown (result_of used) numbers number one h
      ∙ ap (λ (s : Stored R). grown s (one ∷ [])) view

  -- ---- none is there

  -- where a gap of a bucket was found, no result of it is as what was looked for
  pub none-there : (stand : R → Ordering) (gap : Gap) (b : ℕ) → gap.bucket ≡ b → IsGapAmong stand index gap → (s : Stored R) → shown (result_of used) numbers ≡ s
      → All (λ other. is_sound other × (bucket other ≡ b → ¬ (stand other ≡ Equal))) (results_in s)
  none-there stand gap b there is s view =
      subst (λ (s : Stored R). All (λ other. is_sound other × (bucket other ≡ b → ¬ (stand other ≡ Equal))) (results_in s)) view
      (all-in stored (λ other. is_sound other × (bucket other ≡ b → ¬ (stand other ≡ Equal))) by)
    where
      bare : All (λ one. ¬ (stand one.result ≡ Equal)) (bucket_in index gap.bucket)
      bare = gap-apart (λ (one : Numbered R). stand one.result) (λ one. stand one.result ≡ Equal) (λ one tie. tie) (bucket_in index gap.bucket) gap.place is

      by : (d : ℕ) (one : Numbered R) → Contains (bucket_in index d) one → is_sound one.result × (bucket one.result ≡ b → ¬ (stand one.result ≡ Equal))
      by d one c =
          let placed = found-sound stored d one c in (
            placed.sound,
            λ here. All-contains (λ one. ¬ (stand one.result ≡ Equal)) (bucket_in index gap.bucket) one bare
                (subst (λ (d : ℕ). Contains (bucket_in index d) one) (placed.at ∙ here ∙ sym there) c),
          )

  module _ (stand order : R → Ordering) (same : (other : R) → is_sound other → stand other ≡ order other) where
    -- all of a bucket stand to it as they do to what it is
    pub all-stand : (b : ℕ) → All (λ one. stand one.result ≡ order one.result) (bucket_in index b)
    all-stand b =
        All-weaker (Contains (bucket_in index b)) (λ one. stand one.result ≡ order one.result) (λ one c. same one.result (found-sound stored b one c).sound)
        (bucket_in index b) (All-contains_itself (bucket_in index b))

    -- and so its gap is the gap of that
    pub gap-stands : (gap : Gap) → IsGapAmong stand index gap → IsGapAmong order index gap
    gap-stands gap is = gap-same (λ (one : Numbered R). stand one.result) (λ one. order one.result) (bucket_in index gap.bucket) gap.place (all-stand gap.bucket) is

  -- ---- one that comes

  module _ (new : Slab (Used R)) (r : R) (n : ℕ) (put : IsPut used new r (bucket r) n) where
    put-shown : shown (result_of new) (grown numbers (n ∷ [])) ≡ grown (shown (result_of used) numbers) (r ∷ [])
    put-shown =
        shown-grown (result_of new) numbers n r put_here
        ∙ ap (λ s. grown s (r ∷ [])) (shown-same (result_of used) (result_of new) numbers (λ m there. ap (λ o. option_map (λ (r : R × ℕ). r.0) (option_map with_bucket o)) (put.others m (other m there))))
      where
        put_here : result_of new n ≡ Some r
        put_here = ap (λ o. option_map (λ (r : R × ℕ). r.0) (option_map with_bucket o)) put.changed

        unused : uses_of used n ≡ 0
        unused = ap (λ o. elim o [ None ↦ 0 | Some u ↦ u.uses ]) put.free

        other : (m : ℕ) → 0 < times m (results_in numbers) → m ≢ n
        other m there e =
            let at : times n (results_in numbers) ≡ times m (results_in numbers) = ap (λ k. times k (results_in numbers)) (sym e) in
            omega (arith, there, at, stored.counted n, unused)

  -- it is stored, and in the last draft
  module _ (new : Slab (Used R)) (after : List (ℕ × List (Numbered R))) (r : R) (b : ℕ) (drafts : List (ℕ × List ℕ)) (at : b ≡ bucket r) where
    abbrev IsIn : Type 0
    IsIn = (n : ℕ) × IsPut used new r b n × (drafts ≡ with_results numbers.drafts (n ∷ [])) × AddsTo index after b (numbered r n)

    put_there : (n : ℕ) → IsPut used new r b n → IsPut used new r (bucket r) n
    put_there n put = subst (λ (m : ℕ). IsPut used new r m n) at put

    pub comes-stored : is_sound r → 0 < length numbers.drafts → IsIn → IsStored is_sound bucket new after (record { lists = numbers.lists; drafts = drafts })
    comes-stored sound some ok =
        subst (λ (ds : List (ℕ × List ℕ)). IsStored is_sound bucket new after (record { lists = numbers.lists; drafts = ds })) (sym ok.2)
        (stored-put stored new after r ok.0 some (put_there ok.0 ok.1) (subst (λ (m : ℕ). AddsTo index after m (numbered r ok.0)) at ok.3) sound)

    pub comes-shown : (s : Stored R) → shown (result_of used) numbers ≡ s → IsIn → shown (result_of new) (record { lists = numbers.lists; drafts = drafts }) ≡ grown s (r ∷ [])
    comes-shown s view ok =
        ap (λ (ds : List (ℕ × List ℕ)). shown (result_of new) (record { lists = numbers.lists; drafts = ds })) ok.2
        ∙ put-shown new r ok.0 (put_there ok.0 ok.1) ∙ ap (λ (s : Stored R). grown s (r ∷ [])) view

  -- refused, all is as before
  pub refused-shown : (new : Slab (Used R)) (drafts : List (ℕ × List ℕ)) (s : Stored R) → shown (result_of used) numbers ≡ s → ((n : ℕ) → get new n ≡ get used n) → drafts ≡ numbers.drafts → shown (result_of new) (record { lists = numbers.lists; drafts = drafts }) ≡ s
  refused-shown new drafts s view same is = ap (λ (ds : List (ℕ × List ℕ)). shown (result_of new) (record { lists = numbers.lists; drafts = ds })) is ∙ shown-still stored new same ∙ view
