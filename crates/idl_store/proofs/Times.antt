-- How often numbers are among others.
use Rattle.std.proofs.Common.{◌≡◌, ◌≢◌, ℕ, zero, suc, ◌+◌, ◌<◌, ◌≤◌, Bool, true, false, List, [], ◌∷◌, ◌++◌, Some, cond, refl, sym, ap, ◌∙◌, arith, length, zero-add, get_or, set, take, drop, nat_eq, Vec}
use Rattle.std.specs.Prelude.{All}
use Rattle.std.proofs.lemmas.Bool.{eq-eqb, lt-ltb, ne_eqb}
use Rattle.std.proofs.lemmas.List.{append-nil, get_or-map, length-map, map-append, map-set}
use Rattle.std.proofs.lemmas.List.Elements.{All-cons, All-head, All-nil, All-tail}
use Rattle.std.specs.Global.{Global}
use Rattle.std.specs.List.{remove, slice_get}
use Rattle.idl_store.specs.Numbers.{joined, lists_of, times}
use Rattle.idl_store.specs.Stored.{item_at, list_at, placed, results_of_drafts, with_results}

-- among two lists
pub times-append : (n : ℕ) (xs ys : List ℕ) → times n (xs ++ ys) ≡ times n xs + times n ys
times-append n [] ys = sym (zero-add (times n ys))
times-append n (x ∷ xs) ys = omega (arith, times-append n xs ys)

-- a number is among those that begin with it
pub times_first : (n : ℕ) (xs : List ℕ) → times n (n ∷ xs) ≡ 1 + times n xs
times_first n xs = ap (λ b. cond b 1 0 + times n xs) (eq-eqb n n refl)

-- a number that stands at a place of a list is among its numbers
times_in : (n : ℕ) (xs : List ℕ) (place : ℕ) → slice_get xs place ≡ Some n → 0 < times n xs
times_in n [] place h = absurd (cc)
times_in n (x ∷ xs) zero h =
    let same : x ≡ n = cc in
    rw same (omega (arith, times_first n xs))
times_in n (x ∷ xs) (suc place) h = omega (arith, times_in n xs place h)

-- of the first ones and of those behind them none is more often there
pub times-take : (n : ℕ) (count : ℕ) (xs : List ℕ) → times n (take count xs) ≤ times n xs
times-take n zero xs = omega arith
times-take n (suc count) [] = omega arith
times-take n (suc count) (x ∷ xs) = omega (arith, times-take n count xs)

pub times-drop : (n : ℕ) (place : ℕ) (xs : List ℕ) → times n (drop place xs) ≤ times n xs
times-drop n zero xs = omega arith
times-drop n (suc place) [] = omega arith
times-drop n (suc place) (x ∷ xs) = omega (arith, times-drop n place xs)

-- none is more often there than there are numbers
pub times-length : (n : ℕ) (xs : List ℕ) → times n xs ≤ length xs
times-length n [] = omega arith
times-length n (x ∷ xs) = by (nat_eq n x) (times-length n xs)
  where
    by : (b : Bool) → times n xs ≤ length xs → cond b 1 0 + times n xs ≤ suc (length xs)
    by true le = omega (arith, le)
    by false le = omega (arith, le)

-- what holds of each number that is among some holds of all of them
pub times-all : (P : ℕ → Type 0) (ns : List ℕ) → ((n : ℕ) → 0 < times n ns → P n) → All P ns
times-all P [] h = All-nil P
times-all P (n ∷ ns) h = All-cons P n ns (h n (omega (arith, times_first n ns))) (times-all P ns (λ m there. h m (omega (arith, there))))

-- a number that is none of them is no time there
pub times-none : (n : ℕ) (ns : List ℕ) → All (λ m. m ≢ n) ns → times n ns ≡ 0
times-none n [] h = refl
times-none n (m ∷ ns) h =
    ap (λ b. cond b 1 0 + times n ns) (ne_eqb n m (λ is. All-head (λ m. m ≢ n) m ns h (sym is)))
    ∙ zero-add (times n ns) ∙ times-none n ns (All-tail (λ m. m ≢ n) m ns h)

-- of a list
pub times_list : (n : ℕ) (lists : List (List ℕ)) (list : ℕ) → times n (list_at lists list) ≤ times n (joined lists)
times_list n [] list = omega arith
times_list n (xs ∷ lists) zero = omega (arith, times-append n xs (joined lists))
times_list n (xs ∷ lists) (suc list) = omega (arith, times_list n lists list, times-append n xs (joined lists))

-- those of a list and of all behind it
pub times-dropped : (n : ℕ) (lists : List (List ℕ)) (list : ℕ) → list < length lists → times n (joined (drop list lists)) ≡ times n (list_at lists list) + times n (joined (drop (suc list) lists))
times-dropped n [] list below = absurd (omega (arith, below))
times-dropped n (xs ∷ lists) zero below = times-append n xs (joined lists)
times-dropped n (xs ∷ lists) (suc list) below = times-dropped n lists list (omega (arith, below))

-- and among the numbers of all lists
pub times_at : (n : ℕ) (lists : List (List ℕ)) (list place : ℕ) → item_at lists list place ≡ Some n → 0 < times n (joined lists)
times_at n [] list place h = absurd (cc)
times_at n (xs ∷ lists) zero place h = omega (arith, times_in n xs place h, times-append n xs (joined lists))
times_at n (xs ∷ lists) (suc list) place h = omega (arith, times_at n lists list place h, times-append n xs (joined lists))

-- more numbers in the last draft are as often more among those of all drafts, where there is one
pub times-with_results : (n : ℕ) (drafts : List (ℕ × List ℕ)) (more : List ℕ) → 0 < length drafts → times n (results_of_drafts (with_results drafts more)) ≡ times n (results_of_drafts drafts) + times n more
times-with_results n [] more h = absurd (omega arith)
times-with_results n (d ∷ []) more h =
    ap (times n) (append-nil (d.1 ++ more)) ∙ times-append n d.1 more ∙ ap (λ xs. times n xs + times n more) (sym (append-nil d.1))
times-with_results n (d ∷ e ∷ ds) more h =
    omega (arith, times-append n d.1 (results_of_drafts (with_results (e ∷ ds) more)), times-append n d.1 (results_of_drafts (e ∷ ds)), times-with_results n (e ∷ ds) more (omega arith))

-- other numbers in the place of a list
pub times-set : (n : ℕ) (lists : List (List ℕ)) (list : ℕ) (new d : List ℕ) → list < length lists → times n (joined (set lists list new)) + times n (get_or lists list d) ≡ times n (joined lists) + times n new
times-set n [] list new d below = absurd (omega (arith, below))
times-set n (l ∷ lists) zero new d below = omega (arith, times-append n l (joined lists), times-append n new (joined lists))
times-set n (l ∷ lists) (suc list) new d below =
    omega (arith, times-append n l (joined lists), times-append n l (joined (set lists list new)), times-set n lists list new d (omega (arith, below)))

-- other numbers in the place of a draft
pub times-set_draft : (n : ℕ) (drafts : List (ℕ × List ℕ)) (place : ℕ) (new d : ℕ × List ℕ) → place < length drafts → times n (results_of_drafts (set drafts place new)) + times n (get_or drafts place d).1 ≡ times n (results_of_drafts drafts) + times n new.1
times-set_draft n [] place new d below = absurd (omega (arith, below))
times-set_draft n (e ∷ drafts) zero new d below = omega (arith, times-append n e.1 (results_of_drafts drafts), times-append n new.1 (results_of_drafts drafts))
times-set_draft n (e ∷ drafts) (suc place) new d below =
    omega (arith, times-append n e.1 (results_of_drafts drafts), times-append n e.1 (results_of_drafts (set drafts place new)), times-set_draft n drafts place new d (omega (arith, below)))

-- numbers behind a list of lists
pub times_push : (n : ℕ) (lists : List (List ℕ)) (new : List ℕ) → times n (joined (lists ++ new ∷ [])) ≡ times n (joined lists) + times n new
times_push n [] new = ap (times n) (append-nil new) ∙ sym (zero-add (times n new))
times_push n (l ∷ lists) new = omega (arith, times-append n l (joined lists), times-append n l (joined (lists ++ new ∷ [])), times_push n lists new)

-- a list less
pub times-remove : (n : ℕ) (lists : List (List ℕ)) (list : ℕ) (d : List ℕ) → list < length lists → times n (joined lists) ≡ times n (joined (remove lists list)) + times n (get_or lists list d)
times-remove n [] list d below = absurd (omega (arith, below))
times-remove n (l ∷ lists) zero d below = omega (arith, times-append n l (joined lists))
times-remove n (l ∷ lists) (suc list) d below =
    omega (arith, times-append n l (joined lists), times-append n l (joined (remove lists list)), times-remove n lists list d (omega (arith, below)))

-- ---- lists in vectors

-- numbers in the place of a list that is there
pub placed-there : (lists : List (Vec ℕ Global)) (at : ℕ) (v : Vec ℕ Global) → at < length lists → lists_of (set lists at v) ≡ placed (lists_of lists) (at, v.items)
placed-there lists at v below =
    let there : at < length (lists_of lists) = omega (arith, below, length-map lists (λ (l : Vec ℕ Global). l.items)) in
    map-set (λ (l : Vec ℕ Global). l.items) lists at v
    ∙ sym (ap (λ b. cond b (set (lists_of lists) at v.items) (lists_of lists ++ v.items ∷ [])) (lt-ltb at (length (lists_of lists)) there))

pub times-there : (n : ℕ) (lists : List (Vec ℕ Global)) (at : ℕ) (v old : Vec ℕ Global) → at < length lists → old ≡ get_or lists at old → times n (joined (lists_of (set lists at v))) + times n old.items ≡ times n (joined (lists_of lists)) + times n v.items
times-there n lists at v old below is =
    let there : at < length (lists_of lists) = omega (arith, below, length-map lists (λ (l : Vec ℕ Global). l.items)) in
    let written : times n (joined (lists_of (set lists at v))) ≡ times n (joined (set (lists_of lists) at v.items)) = ap (λ ls. times n (joined ls)) (map-set (λ (l : Vec ℕ Global). l.items) lists at v) in
    let was : times n (get_or (lists_of lists) at old.items) ≡ times n old.items = ap (times n) (get_or-map (λ (l : Vec ℕ Global). l.items) lists at old old.items below ∙ ap (λ (l : Vec ℕ Global). l.items) (sym is)) in
    omega (arith, times-set n (lists_of lists) at v.items old.items there, written, was)

-- and behind all lists
pub times-behind : (n : ℕ) (lists : List (Vec ℕ Global)) (v : Vec ℕ Global) → times n (joined (lists_of (lists ++ v ∷ []))) ≡ times n (joined (lists_of lists)) + times n v.items
times-behind n lists v = ap (λ ls. times n (joined ls)) (map-append (λ (l : Vec ℕ Global). l.items) lists (v ∷ [])) ∙ times_push n (lists_of lists) v.items
