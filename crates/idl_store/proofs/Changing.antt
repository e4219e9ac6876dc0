-- A store whose lists or drafts change.
use Rattle.std.proofs.Common.{◌≡◌, ◌≢◌, ◌⊎◌, ℕ, suc, ◌+◌, ◌<◌, ◌≤◌, List, [], ◌∷◌, Option, Some, None, refl, sym, ap, ◌∙◌, subst, arith, inl, inr, length, get_or, Vec, Result, Ok, Err, OnErr, OnOk}
use Rattle.std.specs.Prelude.{All, Contains, IsSome}
use Rattle.std.specs.Global.{Global}
use Rattle.std.specs.List.{cons_option, filter_map, remove}
use Rattle.std.specs.Option.{option_map}
use Rattle.std.proofs.lemmas.Bool.{cases_eq}
use Rattle.std.proofs.lemmas.List.{get_or-map, length-map}
use Rattle.std.proofs.lemmas.List.Elements.{All-cons, All-nil, All-same}
use Rattle.std.proofs.lemmas.Option.{same_Some}
use Rattle.slab.specs.Slab.{Slab, get}
use Rattle.idl_store.specs.Index.{AddsTo, bucket_in, numbered}
use Rattle.idl_store.specs.Numbers.{AreFewer, AreMore, AreUsed, IsIndexOf, IsSoundAt, IsPut, IsStored, joined, kept_at, lists_of, result_of, shown, times, uses_of, with_bucket}
use Rattle.idl_store.specs.Stored.{Stored, grown, results_in, results_of_drafts, with_results}
use Rattle.idl_store.specs.declared.index.Numbered.{Numbered}
use Rattle.idl_store.specs.declared.numbers.Used.{Used}
use Rattle.idl_store.proofs.Shown.{map-removed, results_in-shown, shown-same}
use Rattle.idl_store.proofs.Times.{times-append, times-remove, times-with_results, times_first}
use Rattle.idl_store.proofs.Using.{indexed-put, indexed-same, times_one, times_other}

-- what is used is kept
some_used : {R : Type 0} (o : Option (Used R)) → 0 < elim o [ None ↦ 0 | Some u ↦ u.uses ] → IsSome o
some_used None h = absurd (omega arith)
some_used (Some u) h = refl

-- what stands for numbers, one after another
module _ {X : Type 0} (of : ℕ → Option X) (P : X → Type 0) where
  pub shown-all : (ns : List ℕ) → ((n : ℕ) (x : X) → 0 < times n ns → of n ≡ Some x → P x) → All P (filter_map of ns)
  shown-all [] h = All-nil P
  shown-all (n ∷ ns) h = by (of n) refl (shown-all ns (λ m x there. h m x (omega (arith, there))))
    where
      by : (o : Option X) → of n ≡ o → All P (filter_map of ns) → All P (cons_option o (filter_map of ns))
      by None e rest = rest
      by (Some x) e rest = All-cons P x (filter_map of ns) (h n x (omega (arith, times_first n ns)) e) rest

module _ {X : Type 0} (of : ℕ → Option X) where
  pub shown-contains : (ns : List ℕ) (n : ℕ) (x : X) → 0 < times n ns → of n ≡ Some x → Contains (filter_map of ns) x
  shown-contains [] n x there h = absurd (omega arith)
  shown-contains (m ∷ ns) n x there h = by (cases_eq n m) (λ later. shown-contains ns n x later h)
    where
      first : (xs : List X) → Contains (x ∷ xs) x
      first xs = (0, omega arith, refl)

      behind : (o : Option X) (xs : List X) → Contains xs x → Contains (cons_option o xs) x
      behind None xs c = c
      behind (Some y) xs c = (suc c.0, omega (arith, c.1), c.2)

      by : (n ≡ m) ⊎ (n ≢ m) → (0 < times n ns → Contains (filter_map of ns) x) → Contains (cons_option (of m) (filter_map of ns)) x
      by (inl e) later = rw (sym (ap of e) ∙ h) (first (filter_map of ns))
      by (inr e) later = behind (of m) (filter_map of ns) (later (omega (arith, there, times_other n m e, times-append n (m ∷ []) ns)))

-- and so is what has a bucket
is_taken : {R : Type 0} {k : R × ℕ} (o : Option (Used R)) → option_map with_bucket o ≡ Some k → IsSome o
is_taken None h = absurd (cc)
is_taken (Some u) h = refl

module _ {R : Type 0} {is_sound : R → Type 0} {bucket : R → ℕ} {used : Slab (Used R)} {index : List (ℕ × List (Numbered R))} {numbers : Stored ℕ} (stored : IsStored is_sound bucket used index numbers) where
  -- a number of the lists and drafts is taken
  pub taken : (n : ℕ) → 0 < times n (results_in numbers) → IsSome (get used n)
  taken n there = some_used (get used n) (omega (arith, there, stored.counted n))

  -- and so it stands for a result
  pub stands-for : (n : ℕ) → 0 < times n (results_in numbers) → IsSome (result_of used n)
  stands-for n there = by (get used n) (taken n there)
    where
      by : (o : Option (Used R)) → IsSome o → IsSome (option_map (λ (r : R × ℕ). r.0) (option_map with_bucket o))
      by None some = absurd (cc)
      by (Some u) some = refl

  -- what stands for a number that has a place
  placed-result : (n : ℕ) (k : R × ℕ) → kept_at used n ≡ Some k → result_of used n ≡ Some k.0
  placed-result n k h = ap (option_map (λ (r : R × ℕ). r.0)) h

  module _ (b : ℕ) (one : Numbered R) (c : Contains (bucket_in index b) one) where
    -- a result that is found is among them
    pub found-in : Contains (results_in (shown (result_of used) numbers)) one.result
    found-in =
        let at : kept_at used one.number ≡ Some (one.result, b) = (stored.indexed b one).0 c in
        let there : 0 < times one.number (results_in numbers) = omega (arith, stored.counted one.number, stored.needed one.number (is_taken (get used one.number) at)) in
        subst (λ xs. Contains xs one.result) (sym (results_in-shown (result_of used) numbers)) (shown-contains (result_of used) (results_in numbers) one.number one.result there (placed-result one.number (one.result, b) at))

    -- what is found under a number stands for it
    pub found-result : result_of used one.number ≡ Some one.result
    found-result = placed-result one.number (one.result, b) ((stored.indexed b one).0 c)

    -- it came about as it should, and its bucket is its own
    pub found-sound : IsSoundAt is_sound bucket (one.result, b)
    found-sound = stored.sound one.number (one.result, b) ((stored.indexed b one).0 c)

  -- what holds of all that is found holds of all results
  pub all-in : (P : R → Type 0) → ((b : ℕ) (one : Numbered R) → Contains (bucket_in index b) one → P one.result) → All P (results_in (shown (result_of used) numbers))
  all-in P all =
      All-same P (results_in (shown (result_of used) numbers)) (filter_map (result_of used) (results_in numbers)) (results_in-shown (result_of used) numbers)
      (shown-all (result_of used) P (results_in numbers) (λ n x there at. by n x (kept_at used n) refl at))
    where
      by : (n : ℕ) (x : R) (o : Option (R × ℕ)) → kept_at used n ≡ o → option_map (λ (r : R × ℕ). r.0) (kept_at used n) ≡ Some x → P x
      by n x None e h =
          let none : option_map (λ (r : R × ℕ). r.0) (kept_at used n) ≡ None = ap (option_map (λ (r : R × ℕ). r.0)) e in
          absurd (cc)
      by n x (Some r) e h =
          let same : Some r.0 ≡ Some x = sym (ap (option_map (λ (r : R × ℕ). r.0)) e) ∙ h in
          let is : r.0 ≡ x = cc in
          let one : Numbered R = numbered r.0 n in
          subst P is (all r.1 one ((stored.indexed r.1 one).1 e))

  module _ (new : Slab (Used R)) where
    -- more numbers of results that are kept
    pub stored-again : (ns : List ℕ) → AreMore used new (results_of_drafts numbers.drafts) (results_of_drafts (with_results numbers.drafts ns)) → IsStored is_sound bucket new index (grown numbers ns)
    stored-again ns more = record {
      counted = λ m. omega (arith, more.uses m, stored.counted m, times-append m (joined numbers.lists) (results_of_drafts numbers.drafts), times-append m (joined numbers.lists) (results_of_drafts (with_results numbers.drafts ns)));
      needed = λ m some. needed_by m some;
      indexed = indexed-same used new index more.kept stored.indexed;
      sound = λ n k h. stored.sound n k (sym (more.kept n) ∙ h);
    }
      where
        grows : (m : ℕ) (ds : List (ℕ × List ℕ)) → times m (results_of_drafts ds) ≤ times m (results_of_drafts (with_results ds ns))
        grows m [] = omega arith
        grows m (d ∷ ds) = omega (arith, times-with_results m (d ∷ ds) ns (omega arith))

        taken_by : (m : ℕ) (o p : Option (Used R)) → option_map with_bucket o ≡ option_map with_bucket p → IsSome o → IsSome p
        taken_by m None p same some = absurd (cc)
        taken_by m (Some u) None same some = absurd (cc)
        taken_by m (Some u) (Some v) same some = refl

        needed_by : (m : ℕ) → IsSome (get new m) → 0 < uses_of new m
        needed_by m some =
            let was = taken_by m (get new m) (get used m) (more.kept m) some in
            omega (arith, more.uses m, stored.needed m was, grows m numbers.drafts)

    -- the same, whichever way the step ends
    pub stored-used : {Y Z : Type 0} (r : Result Y Z) (ns : List ℕ) (drafts : List (ℕ × List ℕ)) → OnOk r (drafts ≡ with_results numbers.drafts ns) → OnOk r (AreMore used new (results_of_drafts numbers.drafts) (results_of_drafts drafts)) → OnErr r ((new ≡ used) × (drafts ≡ numbers.drafts)) → IsStored is_sound bucket new index (record { lists = numbers.lists; drafts = drafts })
    stored-used (Ok y) ns drafts is more err =
        subst (λ (ds : List (ℕ × List ℕ)). IsStored is_sound bucket new index (record { lists = numbers.lists; drafts = ds })) (sym is)
        (stored-again ns (subst (λ (ds : List (ℕ × List ℕ)). AreMore used new (results_of_drafts numbers.drafts) (results_of_drafts ds)) is more))
    stored-used (Err z) ns drafts is more err =
        subst (λ (u : Slab (Used R)). IsStored is_sound bucket u index (record { lists = numbers.lists; drafts = drafts })) (sym err.0)
        (subst (λ (ds : List (ℕ × List ℕ)). IsStored is_sound bucket used index (record { lists = numbers.lists; drafts = ds })) (sym err.1) stored)

    -- what is kept is what it was
    module _ (same : (n : ℕ) → get new n ≡ get used n) where
      pub stored-still : IsStored is_sound bucket new index numbers
      stored-still = record {
        counted = λ n. ap (λ o. elim o [ None ↦ 0 | Some u ↦ u.uses ]) (same n) ∙ stored.counted n;
        needed = λ n some. needed_by n some;
        indexed = indexed-same used new index (λ n. ap (option_map with_bucket) (same n)) stored.indexed;
        sound = λ n k h. stored.sound n k (sym (ap (option_map with_bucket) (same n)) ∙ h);
      }
        where
          needed_by : (n : ℕ) → IsSome (get new n) → 0 < uses_of new n
          needed_by n some =
              let was : uses_of new n ≡ uses_of used n = ap (λ o. elim o [ None ↦ 0 | Some u ↦ u.uses ]) (same n) in
              omega (arith, was, stored.needed n (subst IsSome (same n) some))

      -- whatever else is the same
      pub stored-kept : (after : List (ℕ × List (Numbered R))) (drafts : List (ℕ × List ℕ)) → drafts ≡ numbers.drafts → after ≡ index → IsStored is_sound bucket new after (record { lists = numbers.lists; drafts = drafts })
      stored-kept after drafts same_drafts same_index =
          subst (λ (ds : List (ℕ × List ℕ)). IsStored is_sound bucket new after (record { lists = numbers.lists; drafts = ds })) (sym same_drafts)
          (subst (λ (buckets : List (ℕ × List (Numbered R))). IsStored is_sound bucket new buckets numbers) (sym same_index) stored-still)

      pub shown-still : shown (result_of new) numbers ≡ shown (result_of used) numbers
      shown-still = shown-same (result_of used) (result_of new) numbers (λ n there. ap (λ o. option_map (λ (r : R × ℕ). r.0) (option_map with_bucket o)) (same n))

    module _ (after : List (ℕ × List (Numbered R))) where
      -- a new result under a number that was free
      pub stored-put : (r : R) (n : ℕ) → 0 < length numbers.drafts → IsPut used new r (bucket r) n → AddsTo index after (bucket r) (numbered r n) → is_sound r → IsStored is_sound bucket new after (grown numbers (n ∷ []))
      stored-put r n some put adds sound = record {
        counted = λ m. counted_by m (cases_eq m n);
        needed = λ m there. needed_by m there (cases_eq m n);
        indexed = indexed-put used new index after n (r, bucket r) put.others free here adds stored.indexed;
        sound = λ m k h. placed_by m k h (cases_eq m n);
      }
        where
          free : kept_at used n ≡ None
          free = ap (option_map with_bucket) put.free

          here : kept_at new n ≡ Some (r, bucket r)
          here = ap (option_map with_bucket) put.changed

          all_times : (m : ℕ) → times m (results_in (grown numbers (n ∷ []))) ≡ times m (results_in numbers) + times m (n ∷ [])
          all_times m = omega (arith, times-append m (joined numbers.lists) (results_of_drafts numbers.drafts), times-append m (joined numbers.lists) (results_of_drafts (with_results numbers.drafts (n ∷ []))), times-with_results m numbers.drafts (n ∷ []) some)

          counted_by : (m : ℕ) → (m ≡ n) ⊎ (m ≢ n) → uses_of new m ≡ times m (results_in (grown numbers (n ∷ [])))
          counted_by m (inl e) =
              let none : uses_of used n ≡ 0 = ap (λ o. elim o [ None ↦ 0 | Some u ↦ u.uses ]) put.free in
              let one : uses_of new n ≡ 1 = ap (λ o. elim o [ None ↦ 0 | Some u ↦ u.uses ]) put.changed in
              rw e (omega (arith, none, one, stored.counted n, all_times n, times_one n))
          counted_by m (inr e) =
              let was : uses_of new m ≡ uses_of used m = ap (λ o. elim o [ None ↦ 0 | Some u ↦ u.uses ]) (put.others m e) in
              omega (arith, was, stored.counted m, all_times m, times_other m n e)

          needed_by : (m : ℕ) → IsSome (get new m) → (m ≡ n) ⊎ (m ≢ n) → 0 < uses_of new m
          needed_by m there (inl e) =
              let one : uses_of new n ≡ 1 = ap (λ o. elim o [ None ↦ 0 | Some u ↦ u.uses ]) put.changed in
              rw e (omega (arith, one))
          needed_by m there (inr e) =
              let was : uses_of new m ≡ uses_of used m = ap (λ o. elim o [ None ↦ 0 | Some u ↦ u.uses ]) (put.others m e) in
              omega (arith, was, stored.needed m (subst IsSome (put.others m e) there))

          placed_by : (m : ℕ) (k : R × ℕ) → kept_at new m ≡ Some k → (m ≡ n) ⊎ (m ≢ n) → IsSoundAt is_sound bucket k
          placed_by m k h (inl e) =
              let put_as : R × ℕ = (r, bucket r) in
              subst (λ (k : R × ℕ). IsSoundAt is_sound bucket k) (same_Some put_as k (sym here ∙ sym (ap (kept_at new) e) ∙ h)) (record { sound = sound; at = refl })
          placed_by m k h (inr e) = stored.sound m k (sym (ap (option_map with_bucket) (put.others m e)) ∙ h)

      -- numbers less
      pub stored-fewer : (rest : Stored ℕ) (gone : List ℕ) → ((n : ℕ) → times n (results_in numbers) ≡ times n (results_in rest) + times n gone) → AreFewer used new gone → AreUsed new → IsIndexOf new after → IsStored is_sound bucket new after rest
      stored-fewer rest gone parts fewer needed indexed = record {
        counted = λ n. omega (arith, fewer.uses n, stored.counted n, parts n);
        needed = needed;
        indexed = indexed;
        sound = λ n k h. stored.sound n k (sym (fewer.kept n (needed n (is_taken (get new n) h))) ∙ h);
      }

      -- and what the others stand for is what it was
      pub shown-fewer : (rest : Stored ℕ) (gone : List ℕ) → ((n : ℕ) → times n (results_in numbers) ≡ times n (results_in rest) + times n gone) → AreFewer used new gone → shown (result_of new) rest ≡ shown (result_of used) rest
      shown-fewer rest gone parts fewer =
          shown-same (result_of used) (result_of new) rest
          (λ n there. ap (option_map (λ (r : R × ℕ). r.0)) (fewer.kept n (omega (arith, fewer.uses n, stored.counted n, parts n, there))))

-- ---- lists and drafts that go

-- drafts
pub parts-drafts : (n : ℕ) (lists : List (List ℕ)) (drafts : List (ℕ × List ℕ)) → times n (results_in (record { lists = lists; drafts = drafts })) ≡ times n (results_in (record { lists = lists; drafts = [] })) + times n (results_of_drafts drafts)
parts-drafts n lists drafts = omega (arith, times-append n (joined lists) (results_of_drafts drafts), times-append n (joined lists) [])

-- drafts, where those took the places of lists
pub parts-exchanged : (n : ℕ) (lists lists' : List (List ℕ)) (drafts drafts' : List (ℕ × List ℕ))
    → times n (joined lists') + times n (results_of_drafts drafts') ≡ times n (joined lists) + times n (results_of_drafts drafts)
    → times n (results_in (record { lists = lists; drafts = drafts })) ≡ times n (results_in (record { lists = lists'; drafts = [] })) + times n (results_of_drafts drafts')
parts-exchanged n lists lists' drafts drafts' h = omega (arith, h, times-append n (joined lists) (results_of_drafts drafts), times-append n (joined lists') [])

-- a list
pub parts-removed : (n : ℕ) (lists : List (List ℕ)) (drafts : List (ℕ × List ℕ)) (list : ℕ) (d : List ℕ) → list < length lists → times n (results_in (record { lists = lists; drafts = drafts })) ≡ times n (results_in (record { lists = remove lists list; drafts = drafts })) + times n (get_or lists list d)
parts-removed n lists drafts list d below =
    omega (arith, times-remove n lists list d below, times-append n (joined lists) (results_of_drafts drafts), times-append n (joined (remove lists list)) (results_of_drafts drafts))

-- a list of vectors less
pub lists-removed : (lists : List (Vec ℕ Global)) (list : ℕ) → lists_of (remove lists list) ≡ remove (lists_of lists) list
lists-removed lists list = map-removed (λ (l : Vec ℕ Global). l.items) lists list

-- and its numbers
pub parts-taken : (n : ℕ) (lists : List (Vec ℕ Global)) (drafts : List (ℕ × List ℕ)) (list : ℕ) (v : Vec ℕ Global) → list < length lists → v ≡ get_or lists list v → times n (results_in (record { lists = lists_of lists; drafts = drafts })) ≡ times n (results_in (record { lists = remove (lists_of lists) list; drafts = drafts })) + times n v.items
parts-taken n lists drafts list v below is =
    let there : list < length (lists_of lists) = omega (arith, below, length-map lists (λ (l : Vec ℕ Global). l.items)) in
    let was : times n (get_or (lists_of lists) list v.items) ≡ times n v.items = ap (times n) (get_or-map (λ (l : Vec ℕ Global). l.items) lists list v v.items below ∙ ap (λ (l : Vec ℕ Global). l.items) (sym is)) in
    omega (arith, parts-removed n (lists_of lists) drafts list v.items there, was)
