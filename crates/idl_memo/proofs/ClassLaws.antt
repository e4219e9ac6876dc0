-- How many classes a list adds to a known one: laws of a test of likeness that is an equivalence.
use Rattle.std.proofs.Common.{◌≡◌, ℕ, ◌+◌, ◌≤◌, ◌⊎◌, inl, inr, ⊎_elim, Bool, true, false, ◌||◌, IsTrue, List, [], ◌∷◌, ◌++◌, append_assoc, append-nil, sum_by, refl, sym, ap, ◌∙◌, arith, if◌then◌else◌}
use Rattle.std.proofs.lemmas.List.Elements.{All-nil, All-cons, All-head, All-tail, All-weaker}
use Rattle.std.proofs.lemmas.List.Folds.{list_any-append}
use Rattle.std.proofs.lemmas.List.Sums.{sum_by-cons}
use Rattle.std.proofs.lemmas.Map.Keys.{IsDistinct-head, IsDistinct-tail}
use Rattle.std.specs.List.{list_any, AllByRecursion, IsDistinct}
use Rattle.idl_base.proofs.Bools.{or-false, or-true}
use Rattle.idl_memo.specs.Classes.{HaveAlike, new_among, new_at, new_if, new_ones, sum_among}

-- two tests are one where each passes if the other does
pub one_test : (a b : Bool) → (a ≡ true → b ≡ true) → (b ≡ true → a ≡ true) → a ≡ b
one_test true true there back = refl
one_test true false there back = sym (there refl)
one_test false true there back = back refl
one_test false false there back = refl

-- an alternative that tells nothing more
or_within : (p q : Bool) → (q ≡ true → p ≡ true) → (p || q) ≡ p
or_within true q h = refl
or_within false true h = sym (h refl)
or_within false false h = refl

module _ {P : Type 0} (alike : P → P → Bool) where
  -- two lists have the same classes
  abbrev pub AreSame : List P → List P → Type 0
  AreSame a b = (x : P) → list_any (alike x) a ≡ list_any (alike x) b

  -- a sum over two parts, one behind the other
  pub sum-split : (count : Bool → P → ℕ) (old a b : List P) → sum_among alike count old (a ++ b) ≡ sum_among alike count old a + sum_among alike count (old ++ a) b
  sum-split count old [] b = rw append-nil (omega arith)
  sum-split count old (x ∷ a) b =
      let later : sum_among alike count (old ++ x ∷ []) (a ++ b) ≡ sum_among alike count (old ++ x ∷ []) a + sum_among alike count (old ++ x ∷ a) b = rw append_assoc at (sum-split count (old ++ x ∷ []) a b) in
      omega (arith, later)

  pub new-split : (old a b : List P) → new_among alike old (a ++ b) ≡ new_among alike old a + new_among alike (old ++ a) b
  new-split = sum-split new_if

  -- the same classes stay so with more
  AreSame-more : (a b more : List P) → AreSame a b → AreSame (a ++ more) (b ++ more)
  AreSame-more a b more h = λ x. list_any-append (alike x) a more ∙ ap (λ t. t || list_any (alike x) more) (h x) ∙ sym (list_any-append (alike x) b more)

  -- what is known counts by its classes
  pub sum-same : (count : Bool → P → ℕ) (a b new : List P) → AreSame a b → sum_among alike count a new ≡ sum_among alike count b new
  sum-same count a b [] h = refl
  sum-same count a b (x ∷ new) h =
      let later = sum-same count (a ++ x ∷ []) (b ++ x ∷ []) new (AreSame-more a b (x ∷ []) h) in
      λ i. count (h x i) x + later i

  -- with more behind those, they still have those that are alike
  pub HaveAlike-right : (these those rest : List P) → HaveAlike alike these those → HaveAlike alike these (those ++ rest)
  HaveAlike-right these those rest h =
      All-weaker (λ p. IsTrue (list_any (alike p) those)) (λ p. IsTrue (list_any (alike p) (those ++ rest)))
      (λ p found. list_any-append (alike p) those rest ∙ ap (λ b. b || list_any (alike p) rest) found) these h

  -- none is new that has one that is alike
  pub new-none : (old stay : List P) → HaveAlike alike stay old → new_among alike old stay ≡ 0
  new-none old [] h = refl
  new-none old (x ∷ stay) h =
      let here : list_any (alike x) old ≡ true = All-head (λ p. IsTrue (list_any (alike p) old)) x stay h in
      let later = new-none (old ++ x ∷ []) stay (HaveAlike-right stay old (x ∷ []) (All-tail (λ p. IsTrue (list_any (alike p) old)) x stay h)) in
      λ i. (if here i then 0 else 1) + later i

  -- what has known ones that are alike counts so
  pub sum-stay : (count : Bool → P → ℕ) (old stay : List P) → HaveAlike alike stay old → sum_among alike count old stay ≡ sum_by (count true) stay
  sum-stay count old [] h = refl
  sum-stay count old (x ∷ stay) h =
      let here : list_any (alike x) old ≡ true = All-head (λ p. IsTrue (list_any (alike p) old)) x stay h in
      let later = sum-stay count (old ++ x ∷ []) stay (HaveAlike-right stay old (x ∷ []) (All-tail (λ p. IsTrue (list_any (alike p) old)) x stay h)) in
      (λ i. count (here i) x + later i) ∙ sym (sum_by-cons (count true) x stay)

  -- how many have none that is alike among the known ones
  abbrev pub each_new : List P → List P → ℕ
  each_new known [] = 0
  each_new known (here ∷ more) = new_at alike known here + each_new known more

  module _ (itself : (x : P) → alike x x ≡ true) where
    -- each has itself
    pub HaveAlike-itself : (front these rest : List P) → HaveAlike alike these (front ++ (these ++ rest))
    HaveAlike-itself front [] rest = All-nil (λ p. IsTrue (list_any (alike p) (front ++ rest)))
    HaveAlike-itself front (x ∷ these) rest =
        let here : list_any (alike x) (front ++ x ∷ (these ++ rest)) ≡ true =
        list_any-append (alike x) front (x ∷ (these ++ rest)) ∙ ap (λ b. list_any (alike x) front || (b || list_any (alike x) (these ++ rest))) (itself x) ∙ or-true (list_any (alike x) front) in
        let others : HaveAlike alike these (front ++ x ∷ (these ++ rest)) = rw append_assoc at (HaveAlike-itself (front ++ x ∷ []) these rest) in
        All-cons (λ p. IsTrue (list_any (alike p) (front ++ x ∷ (these ++ rest)))) x these here others

  module _ (turn : (x y : P) → alike x y ≡ alike y x) where
    -- of distinct ones, one isn't among those before it
    pub not_before : (earlier : List P) (here : P) (more : List P) → IsDistinct alike (earlier ++ here ∷ more) → list_any (alike here) earlier ≡ false
    not_before [] here more distinct = refl
    not_before (t ∷ ts) here more distinct =
        ap (λ b. b || list_any (alike here) ts) (turn here t ∙ among ts (IsDistinct-head alike t (ts ++ here ∷ more) distinct))
        ∙ not_before ts here more (IsDistinct-tail alike t (ts ++ here ∷ more) distinct)
      where
        among : (before : List P) → AllByRecursion (λ y. alike t y ≡ false) (before ++ here ∷ more) → alike t here ≡ false
        among [] h = h.0
        among (b ∷ bs) h = among bs h.1

    -- those are new, where all are distinct
    pub new-distinct : (old seen new : List P) → IsDistinct alike (seen ++ new) → new_among alike (old ++ seen) new ≡ each_new old new
    new-distinct old seen [] distinct = refl
    new-distinct old seen (x ∷ new) distinct =
        let test : list_any (alike x) (old ++ seen) ≡ list_any (alike x) old =
        list_any-append (alike x) old seen ∙ ap (λ b. list_any (alike x) old || b) (not_before seen x new distinct) ∙ or-false (list_any (alike x) old) in
        let later : new_among alike ((old ++ seen) ++ x ∷ []) new ≡ each_new old new = rw append_assoc (new-distinct old (seen ++ x ∷ []) new (rw append_assoc distinct)) in
        λ i. (if test i then 0 else 1) + later i

    module _ (chain : (x y z : P) → alike x y ≡ true → alike y z ≡ true → alike x z ≡ true) where
      -- two that are alike are alike to the same others
      likes : (x y : P) → alike x y ≡ true → (z : P) → alike x z ≡ alike y z
      likes x y is z = one_test (alike x z) (alike y z) (λ h. chain y x z (turn y x ∙ is) h) (λ h. chain x y z is h)

      likes_any : (x y : P) → alike x y ≡ true → (zs : List P) → list_any (alike x) zs ≡ list_any (alike y) zs
      likes_any x y is zs = λ i. list_any (λ z. likes x y is z i) zs

      -- what is alike to one of these is alike to one of those
      any-HaveAlike : (x : P) (these those : List P) → HaveAlike alike these those → list_any (alike x) these ≡ true → list_any (alike x) those ≡ true
      any-HaveAlike x [] those h found = cc
      any-HaveAlike x (y ∷ these) those h found =
          by (alike x y) refl found (All-head (λ p. IsTrue (list_any (alike p) those)) y these h) (λ rest. any-HaveAlike x these those (All-tail (λ p. IsTrue (list_any (alike p) those)) y these h) rest)
        where
          by : (b : Bool) → alike x y ≡ b → (b || list_any (alike x) these) ≡ true → list_any (alike y) those ≡ true → (list_any (alike x) these ≡ true → list_any (alike x) those ≡ true) → list_any (alike x) those ≡ true
          by true is found here later = likes_any x y is those ∙ here
          by false is found here later = later found

      pub AreSame-alike : (a b : List P) → HaveAlike alike a b → HaveAlike alike b a → AreSame a b
      AreSame-alike a b there back = λ x. one_test (list_any (alike x) a) (list_any (alike x) b) (any-HaveAlike x a b there) (any-HaveAlike x b a back)

      -- where those that are alike count alike, one that has known ones counts no more than all of these,
      -- of each class one
      module _ (f : P → ℕ) (x : P) (by_class : (y : P) → alike x y ≡ true → f y ≡ f x) where
        within-new : (seen more : List P) → list_any (alike x) (seen ++ more) ≡ true → (list_any (alike x) seen ≡ true) ⊎ (f x ≤ sum_by f (new_ones alike seen more))
        within-new seen [] found = inl (ap (list_any (alike x)) (sym (append-nil seen)) ∙ found)
        within-new seen (y ∷ more) found =
            by (list_any (alike y) seen) refl (alike x y) refl (within-new (seen ++ y ∷ []) more (ap (list_any (alike x)) (append_assoc seen (y ∷ []) more) ∙ found))
          where
            by : (known : Bool) → list_any (alike y) seen ≡ known → (is : Bool) → alike x y ≡ is
                → (list_any (alike x) (seen ++ y ∷ []) ≡ true) ⊎ (f x ≤ sum_by f (new_ones alike (seen ++ y ∷ []) more))
                → (list_any (alike x) seen ≡ true) ⊎ (f x ≤ sum_by f (new_ones alike seen (y ∷ more)))
            by true known true is later = inl (likes_any x y is seen ∙ known)
            by false known true is later =
                let here = by_class y is in
                let cons = sum_by-cons f y (new_ones alike (seen ++ y ∷ []) more) in
                inr (rw known (omega (arith, here, cons)))
            by known_is known false is (inl found) =
                inl (sym (list_any-append (alike x) seen (y ∷ []) ∙ ap (λ b. list_any (alike x) seen || (b || false)) is ∙ or-false (list_any (alike x) seen)) ∙ found)
            by true known false is (inr most) = inr (rw known most)
            by false known false is (inr most) =
                let cons = sum_by-cons f y (new_ones alike (seen ++ y ∷ []) more) in
                inr (rw known (omega (arith, most, cons)))

        pub most-new : (known : List P) → list_any (alike x) known ≡ true → f x ≤ sum_by f (new_ones alike [] known)
        most-new known found = ⊎_elim (λ none. cc) (λ most. most) (within-new [] known found)

      -- what is known counts by its classes
      pub sum-known : (count : Bool → P → ℕ) (a b new : List P) → HaveAlike alike a b → HaveAlike alike b a → sum_among alike count a new ≡ sum_among alike count b new
      sum-known count a b new there back = sum-same count a b new (AreSame-alike a b there back)

      -- what has known ones that are alike adds no class
      AreSame-stay : (old stay : List P) → HaveAlike alike stay old → AreSame (old ++ stay) old
      AreSame-stay old stay h = λ x. list_any-append (alike x) old stay ∙ or_within (list_any (alike x) old) (list_any (alike x) stay) (any-HaveAlike x stay old h)

      -- and may be told apart
      pub sum-aside : (count : Bool → P → ℕ) (old front stay rest : List P) → HaveAlike alike stay old
          → sum_among alike count old (front ++ (stay ++ rest)) ≡ sum_among alike count old (front ++ rest) + sum_by (count true) stay
      sum-aside count old front stay rest h =
          let wide = HaveAlike-right stay old front h in
          let first = sum-split count old front (stay ++ rest) in
          let second = sum-split count (old ++ front) stay rest in
          let known = sum-stay count (old ++ front) stay wide in
          let same = sum-same count ((old ++ front) ++ stay) (old ++ front) rest (AreSame-stay (old ++ front) stay wide) in
          let short = sum-split count old front rest in
          omega (arith, first, second, known, same, short)

      -- so they may be left out where the new ones are counted
      pub new-aside : (old front stay rest : List P) → HaveAlike alike stay old → new_among alike old (front ++ (stay ++ rest)) ≡ new_among alike old (front ++ rest)
      new-aside old front stay rest h =
          let aside = sum-aside new_if old front stay rest h in
          let nothing = sym (sum-stay new_if old stay h) ∙ new-none old stay h in
          omega (arith, aside, nothing)
