-- Parts of lists, and items at places.
use Rattle.std.proofs.Common.{◌≡◌, ◌∙◌, ◌+◌, ◌-◌, ◌<◌, ◌≤◌, ℕ, zero, suc, List, [], ◌∷◌, ◌++◌, Some, arith, drop, length, refl, slice_get, sym, take, ap}
use Rattle.std.proofs.lemmas.List.{drop-drop, drop-take, take-take}
use Rattle.std.proofs.lemmas.Option.{same_Some}

-- ---- so many items from a place on

take-none : {X : Type 0} (xs : List X) → take 0 xs ≡ []
take-none [] = refl
take-none (x ∷ xs) = refl

-- where there are so many, they are the same with more behind them
pub part-more : {X : Type 0} (xs more : List X) (place count : ℕ) → length (take count (drop place xs)) ≡ count → take count (drop place (xs ++ more)) ≡ take count (drop place xs)
part-more xs more place zero whole = take-none (drop place (xs ++ more)) ∙ sym (take-none (drop place xs))
part-more [] more zero (suc count) whole = absurd (omega (arith, whole))
part-more [] more (suc place) (suc count) whole = absurd (omega (arith, whole))
part-more (x ∷ xs) more zero (suc count) whole = ap (λ (rest : List _). x ∷ rest) (part-more xs more zero count (omega (arith, whole)))
part-more (x ∷ xs) more (suc place) (suc count) whole = part-more xs more place (suc count) whole

drop-front : {X : Type 0} (front xs : List X) (place : ℕ) → drop (length front + place) (front ++ xs) ≡ drop place xs
drop-front [] xs place =
    let same : 0 + place ≡ place = omega arith in
    ap (λ (n : ℕ). drop n xs) same
drop-front (x ∷ front) xs place =
    let same : suc (length front) + place ≡ suc (length front + place) = omega arith in
    ap (λ (n : ℕ). drop n (x ∷ (front ++ xs))) same ∙ drop-front front xs place

-- those that stand behind others
pub part-behind : {X : Type 0} (front xs : List X) (n place count : ℕ) → n ≡ length front + place → take count (drop n (front ++ xs)) ≡ take count (drop place xs)
part-behind front xs n place count is = ap (λ (k : ℕ). take count (drop k (front ++ xs))) is ∙ ap (take count) (drop-front front xs place)

-- those that stand in a part
pub part-inside : {X : Type 0} (xs : List X) (place count n m : ℕ) → n + m ≤ count → take m (drop n (take count (drop place xs))) ≡ take m (drop (place + n) xs)
part-inside xs place count n m fits =
    let is : count ≡ n + (count - n) = omega (arith, fits) in
    ap (λ (c : ℕ). take m (drop n (take c (drop place xs)))) is
    ∙ ap (take m) (drop-take n (count - n) (drop place xs))
    ∙ take-take m (count - n) (drop n (drop place xs)) (omega (arith, fits))
    ∙ ap (take m) (drop-drop n place xs)

-- ---- the item at a place

get-take : {X : Type 0} (count n : ℕ) (xs : List X) → n < count → slice_get (take count xs) n ≡ slice_get xs n
get-take zero n xs below = absurd (omega (arith, below))
get-take (suc count) n [] below = refl
get-take (suc count) zero (x ∷ xs) below = refl
get-take (suc count) (suc n) (x ∷ xs) below = get-take count n xs (omega (arith, below))

get-drop : {X : Type 0} (place n : ℕ) (xs : List X) → slice_get (drop place xs) n ≡ slice_get xs (place + n)
get-drop zero n xs =
    let same : n ≡ 0 + n = omega arith in
    ap (slice_get xs) same
get-drop (suc place) n [] = refl
get-drop (suc place) n (x ∷ xs) =
    let same : suc (place + n) ≡ suc place + n = omega arith in
    get-drop place n xs ∙ ap (slice_get (x ∷ xs)) same

-- of a part
pub get-part : {X : Type 0} (xs : List X) (place count n : ℕ) → n < count → slice_get (take count (drop place xs)) n ≡ slice_get xs (place + n)
get-part xs place count n below = get-take count n (drop place xs) below ∙ get-drop place n xs

-- of those in front, of the next one, and of those behind
pub get-front : {X : Type 0} (front xs : List X) (n : ℕ) → n < length front → slice_get (front ++ xs) n ≡ slice_get front n
get-front [] xs n below = absurd (omega (arith, below))
get-front (x ∷ front) xs zero below = refl
get-front (x ∷ front) xs (suc n) below = get-front front xs n (omega (arith, below))

pub get-behind : {X : Type 0} (front xs : List X) (n : ℕ) → slice_get (front ++ xs) (length front + n) ≡ slice_get xs n
get-behind [] xs n =
    let same : 0 + n ≡ n = omega arith in
    ap (slice_get xs) same
get-behind (x ∷ front) xs n =
    let same : suc (length front) + n ≡ suc (length front + n) = omega arith in
    ap (slice_get (x ∷ (front ++ xs))) same ∙ get-behind front xs n

-- an item stands in front, or among those behind
pub data StandsIn {X : Type 0} (front xs : List X) (place : ℕ) (x : X) : Type 0 where
  InFront : slice_get front place ≡ Some x → StandsIn front xs place x
  Behind : (n : ℕ) → place ≡ length front + n → slice_get xs n ≡ Some x → StandsIn front xs place x

pub stands-in : {X : Type 0} (front xs : List X) (place : ℕ) (x : X) → slice_get (front ++ xs) place ≡ Some x → StandsIn front xs place x
stands-in [] xs place x h =
    let same : place ≡ 0 + place = omega arith in
    Behind place same h
stands-in (y ∷ front) xs zero x h = InFront h
stands-in (y ∷ front) xs (suc place) x h = by (stands-in front xs place x h)
  where
    by : StandsIn front xs place x → StandsIn (y ∷ front) xs (suc place) x
    by (InFront h) = InFront h
    by (Behind n is h) =
        let same : suc place ≡ suc (length front) + n = omega (arith, is) in
        Behind n same h

-- what stands in front stays there
pub get-stays : {X : Type 0} (front xs : List X) (place : ℕ) (x : X) → slice_get front place ≡ Some x → slice_get (front ++ xs) place ≡ Some x
get-stays [] xs place x h = absurd (cc)
get-stays (y ∷ front) xs zero x h = h
get-stays (y ∷ front) xs (suc place) x h = get-stays front xs place x h

-- a place in front of an item, its own, or one behind it
pub data IsAt (count place : ℕ) : Type 0 where
  Before : place < count → IsAt count place
  There : place ≡ count → IsAt count place
  Later : (n : ℕ) → place ≡ count + suc n → IsAt count place

pub is-at : (count place : ℕ) → IsAt count place
is-at zero zero = There refl
is-at zero (suc place) =
    let same : suc place ≡ 0 + suc place = omega arith in
    Later place same
is-at (suc count) zero = Before (omega arith)
is-at (suc count) (suc place) = by (is-at count place)
  where
    by : IsAt count place → IsAt (suc count) (suc place)
    by (Before below) = Before (omega (arith, below))
    by (There is) = There (ap suc is)
    by (Later n is) =
        let same : suc place ≡ suc count + suc n = omega (arith, is) in
        Later n same

-- ---- a part with the item behind it

part-next_one : {X : Type 0} (ys : List X) (n : ℕ) (x : X) → slice_get ys n ≡ Some x → take n ys ++ x ∷ [] ≡ take (n + 1) ys
part-next_one [] n x h = absurd (cc)
part-next_one (y ∷ ys) zero x h = ap (λ (z : _). z ∷ []) (sym (same_Some y x h))
part-next_one (y ∷ ys) (suc n) x h =
    let same : suc (n + 1) ≡ suc n + 1 = omega arith in
    ap (λ (rest : List _). y ∷ rest) (part-next_one ys n x h) ∙ ap (λ (k : ℕ). take k (y ∷ ys)) same

pub part-next : {X : Type 0} (xs : List X) (place count : ℕ) (x : X) → slice_get xs (place + count) ≡ Some x → take count (drop place xs) ++ x ∷ [] ≡ take (count + 1) (drop place xs)
part-next xs place count x h = part-next_one (drop place xs) count x (get-drop place count xs ∙ h)
