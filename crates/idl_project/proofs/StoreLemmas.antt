-- The results of the tasks of roots while one root after another is renewed.
use Rattle.std.proofs.Common.{◌≡◌, ℕ, zero, suc, ◌+◌, ◌<◌, Bool, Some, cond, true, false, All, Contains, List, [], ◌∷◌, ◌++◌, append_assoc, append-nil, if◌then◌else◌, length, map, refl, sym, ap, ◌∙◌, subst, arith, get_or, set}
use Rattle.std.proofs.Math.Seq.{get_or-append_seam, set-append_seam}
use Rattle.std.proofs.lemmas.Bool.{lt-ltb}
use Rattle.std.proofs.lemmas.Grind.{flat_map-append}
use Rattle.std.proofs.lemmas.List.{length-append, length-map, map-append}
use Rattle.std.proofs.lemmas.List.Concat.{flat_map-cons}
use Rattle.std.proofs.lemmas.List.Elements.{All-append, All-contains_itself, All-nil, All-weaker, Contains-append_left, Contains-append_right}
use Rattle.std.proofs.lemmas.List.Quantifiers.{position-Some}
use Rattle.std.proofs.lemmas.List.Sums.{fold_push}
use Rattle.std.specs.List.{flat_map, fold, position, remove}
use Rattle.std.specs.Set.{remove_key}
use Rattle.idl_store.specs.Stored.{Stored, committed, list_at, placed, results_in, results_of_drafts, with_draft}
use Rattle.idl_sources.specs.idl_root.Compared.{AreSamePlaces}
use Rattle.idl_project.specs.Tasks.{lists_for}

module _ {P R : Type 0} (result : P → R) where
  -- all results of lists are those of all places
  pub flat-lists : (at : List ℕ → List P) (names : List (List ℕ)) → flat_map (λ (list : List R). list) (map (λ n. map result (at n)) names) ≡ map result (flat_map at names)
  flat-lists at [] = refl
  flat-lists at (n ∷ names) =
      let id : List R → List R = λ list. list in
      flat_map-cons id (map result (at n)) (map (λ n. map result (at n)) names)
      ∙ ap (λ (rs : List R). map result (at n) ++ rs) (flat-lists at names)
      ∙ sym (map-append result (at n) (flat_map at names))
      ∙ ap (λ (ps : List P). map result ps) (sym (flat_map-cons at n names))

  -- the places of one of them are among all
  pub places-among : (at : List ℕ → List P) (done : List (List ℕ)) (name : List ℕ) (left : List (List ℕ)) → All (Contains (flat_map at (done ++ name ∷ left))) (at name)
  places-among at done name left =
      let whole : flat_map at (done ++ name ∷ left) ≡ flat_map at done ++ (at name ++ flat_map at left) = flat_map-append at done (name ∷ left) ∙ ap (λ (ps : List P). flat_map at done ++ ps) (flat_map-cons at name left) in
      All-weaker (Contains (at name)) (Contains (flat_map at (done ++ name ∷ left)))
      (λ p c. subst (λ (ps : List P). Contains ps p) (sym whole) (Contains-append_right (flat_map at done) (at name ++ flat_map at left) p (Contains-append_left (at name) (flat_map at left) p c)))
      (at name) (All-contains_itself (at name))

-- the list in the middle
pub list_at-middle : {R : Type 0} (list : List ℕ → List R) (done : List (List ℕ)) (name : List ℕ) (left : List (List ℕ)) (at : ℕ) → at ≡ length done → list_at (map list (done ++ name ∷ left)) at ≡ list name
list_at-middle {R} list done name left at is =
    let whole = map-append list done (name ∷ left) in
    let place : at ≡ length (map list done) = is ∙ sym (length-map done list) in
    ap (λ (lists : List (List R)). get_or lists at []) whole ∙ ap (λ n. get_or (map list done ++ list name ∷ map list left) n []) place
    ∙ get_or-append_seam (map list done) (list name) (map list left) []

-- behind the last one there is none
pub list_at-end : {X : Type 0} (lists : List (List X)) (at : ℕ) → at ≡ length lists → list_at lists at ≡ []
list_at-end {X} lists at is = ap (λ n. get_or lists n []) is ∙ behind lists
  where
    behind : (ls : List (List X)) → get_or ls (length ls) [] ≡ []
    behind [] = refl
    behind (l ∷ ls) = behind ls

-- ---- lists, with a draft in the place of each that is made anew

module _ {R : Type 0} (was is : List ℕ → List R) where
  -- so far: with the drafts in place the lists are the new ones of the roots that are done, and the old ones of the others
  pub record IsPlacing (done left : List (List ℕ)) (stored : Stored R) : Type 0 where
    pub lists : stored.lists ≡ map was (done ++ left)
    pub placed_are : fold placed stored.lists stored.drafts ≡ map is done ++ map was left

  -- before the first root
  pub placing-begins : (names : List (List ℕ)) (stored : Stored R) → stored ≡ lists_for was names → IsPlacing [] names stored
  placing-begins names stored at = record {
    lists = ap (λ (s : Stored R). s.lists) at;
    placed_are = ap (λ (s : Stored R). fold placed s.lists s.drafts) at;
  }

  -- behind the last one
  pub placing-ends : (names done left : List (List ℕ)) (stored : Stored R) → left ≡ [] → done ++ left ≡ names → IsPlacing done left stored → committed stored ≡ lists_for is names
  placing-ends names done left stored none all way =
      let done_all : done ≡ names = sym (append-nil done) ∙ ap (λ (ns : List (List ℕ)). done ++ ns) (sym none) ∙ all in
      let lists : fold placed stored.lists stored.drafts ≡ map is names =
      way.placed_are ∙ ap (λ (ns : List (List ℕ)). map is done ++ map was ns) none ∙ append-nil (map is done) ∙ ap (λ (ns : List (List ℕ)). map is ns) done_all in
      λ i. record { lists = lists i; drafts = [] }

  module _ (done : List (List ℕ)) (name : List ℕ) (left : List (List ℕ)) (stored new : Stored R) (way : IsPlacing done (name ∷ left) stored) where
    lists_more : map is (done ++ name ∷ []) ++ map was left ≡ map is done ++ is name ∷ map was left
    lists_more = ap (λ (ls : List (List R)). ls ++ map was left) (map-append is done (name ∷ [])) ∙ append_assoc (map is done) (is name ∷ []) (map was left)

    lists_left : stored.lists ≡ map was ((done ++ name ∷ []) ++ left)
    lists_left = way.lists ∙ ap (λ (ns : List (List ℕ)). map was ns) (sym (append_assoc done (name ∷ []) left))

    -- a root whose list stays
    pub placing-left : is name ≡ was name → new ≡ stored → IsPlacing (done ++ name ∷ []) left new
    placing-left same kept = record {
      lists = ap (λ (s : Stored R). s.lists) kept ∙ lists_left;
      placed_are =
          ap (λ (s : Stored R). fold placed s.lists s.drafts) kept ∙ way.placed_are
          ∙ ap (λ (l : List R). map is done ++ l ∷ map was left) (sym same) ∙ sym lists_more;
    }

    -- a root that is made anew
    pub placing-made : (at : ℕ) → at ≡ length done → new ≡ with_draft stored at (is name) → IsPlacing (done ++ name ∷ []) left new
    placing-made at place made =
        let front : at ≡ length (map is done) = place ∙ sym (length-map done is) in
        let below : at < length (map is done ++ was name ∷ map was left) = omega (arith, front, length-append (map is done) (was name ∷ map was left)) in
        let put : placed (map is done ++ was name ∷ map was left) (at, is name) ≡ map is done ++ is name ∷ map was left =
        ap (λ b. if b then set (map is done ++ was name ∷ map was left) at (is name) else (map is done ++ was name ∷ map was left) ++ is name ∷ []) (lt-ltb at (length (map is done ++ was name ∷ map was left)) below)
        ∙ ap (λ n. set (map is done ++ was name ∷ map was left) n (is name)) front ∙ set-append_seam (map is done) (was name) (map was left) (is name) in
        record {
          lists = ap (λ (s : Stored R). s.lists) made ∙ lists_left;
          placed_are =
              ap (λ (s : Stored R). fold placed s.lists s.drafts) made ∙ fold_push placed stored.lists stored.drafts (at, is name)
              ∙ ap (λ (ls : List (List R)). placed ls (at, is name)) way.placed_are ∙ put ∙ sym lists_more;
        }

-- ---- tasks, each with its result in such a list

-- of what isn't counted
abbrev pub uncounted : {P : Type 0} → List P → List P → ℕ
uncounted known places = 0

module _ {P R : Type 0} (result : P → R) (before after : List ℕ → List P) (fresh : List P → List P → ℕ) where
  abbrev was : List ℕ → List R
  was name = map result (before name)

  abbrev is : List ℕ → List R
  is name = map result (after name)

  -- so far: in drafts are the places that were met, the others of the roots that are done stood there before; and so many were counted
  -- as are fresh
  pub record IsUnderWay (done left : List (List ℕ)) (stored : Stored R) (count : ℕ) : Type 0 where
    pub placing : IsPlacing was is done left stored
    pub met : List P
    pub drafts : results_of_drafts stored.drafts ≡ map result met
    pub there : All (Contains (flat_map before (done ++ left) ++ met)) (flat_map after done)
    pub only : All (Contains (flat_map after done)) met
    pub counted : count ≡ fresh (flat_map before (done ++ left)) met
    pub alike : (rest : List P) → fresh (flat_map before (done ++ left)) (flat_map after done ++ rest) ≡ fresh (flat_map before (done ++ left)) (met ++ rest)

  -- before the first root
  pub way-begins : (none : (known : List P) → fresh known [] ≡ 0) (names : List (List ℕ)) (stored : Stored R) (count : ℕ) → stored ≡ lists_for was names → count ≡ 0 → IsUnderWay [] names stored count
  way-begins none names stored count at begun = record {
    placing = placing-begins was is names stored at;
    met = [];
    drafts = ap (λ (s : Stored R). results_of_drafts s.drafts) at;
    there = All-nil (Contains (flat_map before names ++ []));
    only = All-nil (Contains (flat_map after []));
    counted = begun ∙ sym (none (flat_map before names));
    alike = λ rest. refl;
  }

  -- behind the last one
  pub way-ends : (names done left : List (List ℕ)) (stored : Stored R) (count : ℕ) → left ≡ [] → done ++ left ≡ names → IsUnderWay done left stored count
      → (committed stored ≡ lists_for is names) × (count ≡ fresh (flat_map before names) (flat_map after names))
  way-ends names done left stored count none all way =
      let done_all : done ≡ names = sym (append-nil done) ∙ ap (λ (ns : List (List ℕ)). done ++ ns) (sym none) ∙ all in
      let old = flat_map before (done ++ left) in
      let alike : fresh old (flat_map after done) ≡ fresh old way.met =
      ap (fresh old) (sym (append-nil (flat_map after done))) ∙ way.alike [] ∙ ap (fresh old) (append-nil way.met) in (
        placing-ends was is names done left stored none all way.placing,
        way.counted ∙ sym alike ∙ (λ i. fresh (flat_map before (all i)) (flat_map after (done_all i))),
      )

  -- the results are those of the places of before, and of those that were met
  pub way-known : (done left : List (List ℕ)) (stored : Stored R) (count : ℕ) (way : IsUnderWay done left stored count) → results_in stored ≡ map result (flat_map before (done ++ left) ++ way.met)
  way-known done left stored count way =
      let id : List R → List R = λ list. list in
      (λ i. flat_map id (way.placing.lists i) ++ way.drafts i) ∙ ap (λ (rs : List R). rs ++ map result way.met) (flat-lists result before (done ++ left))
      ∙ sym (map-append result (flat_map before (done ++ left)) way.met)

  -- these are the same places as those of before, and of the roots that are done
  pub way-same : (done left : List (List ℕ)) (stored : Stored R) (count : ℕ) (way : IsUnderWay done left stored count)
      → AreSamePlaces (flat_map before (done ++ left) ++ way.met) (flat_map before (done ++ left) ++ flat_map after done)
  way-same done left stored count way =
      let old = flat_map before (done ++ left) in
      let new = flat_map after done in (
        All-append (Contains (old ++ new)) old way.met
            (All-weaker (Contains old) (Contains (old ++ new)) (λ p c. Contains-append_left old new p c) old (All-contains_itself old))
            (All-weaker (Contains new) (Contains (old ++ new)) (λ p c. Contains-append_right old new p c) way.met way.only),
        All-append (Contains (old ++ way.met)) old new
            (All-weaker (Contains old) (Contains (old ++ way.met)) (λ p c. Contains-append_left old way.met p c) old (All-contains_itself old))
            way.there,
      )

  module _ (aside : (old front stay rest : List P) → All (Contains old) stay → fresh old (front ++ (stay ++ rest)) ≡ fresh old (front ++ rest))
      (done : List (List ℕ)) (name : List ℕ) (left : List (List ℕ)) (stored new : Stored R) (count next : ℕ) (way : IsUnderWay done (name ∷ left) stored count) where
    abbrev old : List P
    old = flat_map before (done ++ name ∷ left)

    one_more : (done ++ name ∷ []) ++ left ≡ done ++ name ∷ left
    one_more = append_assoc done (name ∷ []) left

    with_more : flat_map after (done ++ name ∷ []) ≡ flat_map after done ++ after name
    with_more = flat_map-append after done (name ∷ []) ∙ ap (λ (ps : List P). flat_map after done ++ ps) (flat_map-cons after name [] ∙ append-nil (after name))

    after_more : (rest : List P) → flat_map after (done ++ name ∷ []) ++ rest ≡ flat_map after done ++ (after name ++ rest)
    after_more rest = ap (λ (ps : List P). ps ++ rest) with_more ∙ append_assoc (flat_map after done) (after name) rest

    -- where all of these are among others, so are those of a root more, if its own are
    there_more : (met : List P) → All (Contains (old ++ met)) (flat_map after done) → All (Contains (old ++ met)) (after name)
        → All (Contains (flat_map before ((done ++ name ∷ []) ++ left) ++ met)) (flat_map after (done ++ name ∷ []))
    there_more met front own =
        subst (λ (ps : List P). All (Contains (flat_map before ((done ++ name ∷ []) ++ left) ++ met)) ps) (sym with_more)
        (subst (λ (ns : List (List ℕ)). All (Contains (flat_map before ns ++ met)) (flat_map after done ++ after name)) (sym one_more)
        (All-append (Contains (old ++ met)) (flat_map after done) (after name) front own))

    only_more : (met : List P) → All (Contains (flat_map after done ++ after name)) met → All (Contains (flat_map after (done ++ name ∷ []))) met
    only_more met among = subst (λ (ps : List P). All (Contains ps) met) (sym with_more) among

    -- a root that expands to what it did
    pub way-left : after name ≡ before name → new ≡ stored → next ≡ count → IsUnderWay (done ++ name ∷ []) left new next
    way-left same kept counted =
        let stays : All (Contains old) (after name) = subst (All (Contains old)) (sym same) (places-among result before done name left) in
        let front = flat_map after done in
        record {
          placing = placing-left was is done name left stored new way.placing (ap (λ (ps : List P). map result ps) same) kept;
          met = way.met;
          drafts = ap (λ (s : Stored R). results_of_drafts s.drafts) kept ∙ way.drafts;
          there = there_more way.met way.there
              (All-weaker (Contains old) (Contains (old ++ way.met)) (λ p c. Contains-append_left old way.met p c) (after name) stays);
          only = only_more way.met
              (All-weaker (Contains front) (Contains (front ++ after name)) (λ p c. Contains-append_left front (after name) p c) way.met way.only);
          counted = counted ∙ way.counted ∙ ap (λ (ns : List (List ℕ)). fresh (flat_map before ns) way.met) (sym one_more);
          alike = λ rest.
              ap (λ (ns : List (List ℕ)). fresh (flat_map before ns) (flat_map after (done ++ name ∷ []) ++ rest)) one_more
              ∙ ap (fresh old) (after_more rest)
              ∙ aside old (flat_map after done) (after name) rest stays
              ∙ way.alike rest
              ∙ ap (λ (ns : List (List ℕ)). fresh (flat_map before ns) (way.met ++ rest)) (sym one_more);
        }

    -- a root that is made anew
    pub way-made : (split : (old a b : List P) → fresh old (a ++ b) ≡ fresh old a + fresh (old ++ a) b) (at : ℕ) → at ≡ length done → new ≡ with_draft stored at (is name)
        → ((known : List P) → results_in stored ≡ map result known → next ≡ count + fresh known (after name)) → IsUnderWay (done ++ name ∷ []) left new next
    way-made split at place made pass =
        let here = pass (old ++ way.met) (way-known done (name ∷ left) stored count way) in
        let both = split old way.met (after name) in
        let was_counted = way.counted in
        let sum : next ≡ fresh old (way.met ++ after name) = omega (arith, here, both, was_counted) in
        let front = flat_map after done in
        let more : old ++ (way.met ++ after name) ≡ (old ++ way.met) ++ after name = sym (append_assoc old way.met (after name)) in
        record {
          placing = placing-made was is done name left stored new way.placing at place made;
          met = way.met ++ after name;
          drafts =
              ap (λ (s : Stored R). results_of_drafts s.drafts) made
              ∙ flat_map-append (λ (d : ℕ × List R). d.1) stored.drafts ((at, is name) ∷ [])
              ∙ (λ i. way.drafts i ++ append-nil (is name) i) ∙ sym (map-append result way.met (after name));
          there = there_more (way.met ++ after name)
              (subst (λ (ps : List P). All (Contains ps) front) (sym more)
              (All-weaker (Contains (old ++ way.met)) (Contains ((old ++ way.met) ++ after name)) (λ p c. Contains-append_left (old ++ way.met) (after name) p c) front way.there))
              (subst (λ (ps : List P). All (Contains ps) (after name)) (sym more)
              (All-weaker (Contains (after name)) (Contains ((old ++ way.met) ++ after name)) (λ p c. Contains-append_right (old ++ way.met) (after name) p c) (after name) (All-contains_itself (after name))));
          only = only_more (way.met ++ after name)
              (All-append (Contains (front ++ after name)) way.met (after name)
              (All-weaker (Contains front) (Contains (front ++ after name)) (λ p c. Contains-append_left front (after name) p c) way.met way.only)
              (All-weaker (Contains (after name)) (Contains (front ++ after name)) (λ p c. Contains-append_right front (after name) p c) (after name) (All-contains_itself (after name))));
          counted = sum ∙ ap (λ (ns : List (List ℕ)). fresh (flat_map before ns) (way.met ++ after name)) (sym one_more);
          alike = λ rest.
              ap (λ (ns : List (List ℕ)). fresh (flat_map before ns) (flat_map after (done ++ name ∷ []) ++ rest)) one_more
              ∙ ap (fresh old) (after_more rest)
              ∙ way.alike (after name ++ rest)
              ∙ ap (fresh old) (sym (append_assoc way.met (after name) rest))
              ∙ ap (λ (ns : List (List ℕ)). fresh (flat_map before ns) ((way.met ++ after name) ++ rest)) (sym one_more);
        }

module _ {X : Type 0} (list : List ℕ → X) (test : List ℕ → Bool) where
  -- the lists of the names that stay, where one name goes
  lists-without : (names : List (List ℕ)) (at : ℕ) → at < length names → test (get_or names at []) ≡ true → ((k : ℕ) → k < at → test (get_or names k []) ≡ false)
      → map list (remove_key test names) ≡ remove (map list names) at
  lists-without [] at below here earlier = absurd (omega (arith, below))
  lists-without (n ∷ names) zero below here earlier = ap (λ b. map list (cond b names (n ∷ remove_key test names))) here
  lists-without (n ∷ names) (suc at) below here earlier =
      let first : test n ≡ false = earlier 0 (omega arith) in
      ap (λ b. map list (cond b names (n ∷ remove_key test names))) first
      ∙ ap (λ (ls : List X). list n ∷ ls) (lists-without names at (omega (arith, below)) here (λ k less. earlier (suc k) (omega (arith, less))))

  -- where it stands at this place
  pub lists-removed : (names : List (List ℕ)) (at : ℕ) → position test names ≡ Some at → map list (remove_key test names) ≡ remove (map list names) at
  lists-removed names at is =
      let found = position-Some test names at [] is in
      lists-without names at found.0 found.1 found.2

module _ {P R : Type 0} (result : P → R) (at : List ℕ → List P) (fresh : List P → List P → ℕ)
    (aside : (old front stay rest : List P) → All (Contains old) stay → fresh old (front ++ (stay ++ rest)) ≡ fresh old (front ++ rest)) where
  -- what a root more adds
  pub fresh-more : (names : List (List ℕ)) (name : List ℕ) (stored : Stored R) (before after : ℕ) → stored ≡ record { lists = map (λ n. map result (at n)) names; drafts = [] } → before ≡ 0
      → ((known : List P) → results_in stored ≡ map result known → after ≡ before + fresh known (at name)) → after ≡ fresh (flat_map at names) (flat_map at (names ++ name ∷ []))
  fresh-more names name stored before after is none pass =
      let old = flat_map at names in
      let known : results_in stored ≡ map result old = ap (λ (s : Stored R). results_in s) is ∙ append-nil (flat_map (λ (list : List R). list) (map (λ n. map result (at n)) names)) ∙ flat-lists result at names in
      let here = pass old known in
      let whole : flat_map at (names ++ name ∷ []) ≡ old ++ at name = flat_map-append at names (name ∷ []) ∙ ap (λ (ps : List P). old ++ ps) (flat_map-cons at name [] ∙ append-nil (at name)) in
      let more : fresh old (old ++ at name) ≡ fresh old (at name) = aside old [] old (at name) (All-contains_itself old) in
      let all : fresh old (flat_map at (names ++ name ∷ [])) ≡ fresh old (at name) = ap (fresh old) whole ∙ more in
      omega (arith, here, none, all)

  -- the places of names that stay stood there
  places-stay : (test : List ℕ → Bool) (names : List (List ℕ)) → All (Contains (flat_map at names)) (flat_map at (remove_key test names))
  places-stay test [] = All-nil (Contains (flat_map at []))
  places-stay test (n ∷ names) = subst (λ (ps : List P). All (Contains ps) (flat_map at (remove_key test (n ∷ names)))) (sym (flat_map-cons at n names)) (by (test n) refl (places-stay test names))
    where
      by : (b : Bool) → test n ≡ b → All (Contains (flat_map at names)) (flat_map at (remove_key test names)) → All (Contains (at n ++ flat_map at names)) (flat_map at (cond b names (n ∷ remove_key test names)))
      by true is rest =
          All-weaker (Contains (flat_map at names)) (Contains (at n ++ flat_map at names)) (λ p c. Contains-append_right (at n) (flat_map at names) p c) (flat_map at names) (All-contains_itself (flat_map at names))
      by false is rest =
          subst (All (Contains (at n ++ flat_map at names))) (sym (flat_map-cons at n (remove_key test names)))
          (All-append (Contains (at n ++ flat_map at names)) (at n) (flat_map at (remove_key test names))
          (All-weaker (Contains (at n)) (Contains (at n ++ flat_map at names)) (λ p c. Contains-append_left (at n) (flat_map at names) p c) (at n) (All-contains_itself (at n)))
          (All-weaker (Contains (flat_map at names)) (Contains (at n ++ flat_map at names)) (λ p c. Contains-append_right (at n) (flat_map at names) p c) (flat_map at (remove_key test names)) rest))

  -- so a root less adds nothing
  pub fresh-fewer : (none : (known : List P) → fresh known [] ≡ 0) (test : List ℕ → Bool) (names left : List (List ℕ)) → left ≡ remove_key test names → 0 ≡ fresh (flat_map at names) (flat_map at left)
  fresh-fewer none test names left is =
      let old = flat_map at names in
      let stay = flat_map at (remove_key test names) in
      let gone : fresh old stay ≡ 0 = ap (fresh old) (sym (append-nil stay)) ∙ aside old [] stay [] (places-stay test names) ∙ none old in
      sym gone ∙ ap (λ (ns : List (List ℕ)). fresh old (flat_map at ns)) (sym is)
