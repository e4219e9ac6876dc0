-- Parts of a list, from one number up to another.
use Rattle.std.proofs.Common.{◌≡◌, ◌∙◌, ◌+◌, ◌-◌, ◌≤◌, ◌<◌, ◌∷◌, ℕ, suc, List, ap, arith, drop, get_or, length, length-drop, map, take}
use Rattle.std.proofs.lemmas.List.{drop-drop, drop-take, drop_more, length-take-le, take-map, take-take, take_rest}
use Rattle.std.specs.List.{drop-map, slice_range}

pub length-part : {X : Type 0} (xs : List X) (from to : ℕ) → to ≤ length xs → length (slice_range xs from to) ≡ to - from
length-part xs from to le = length-take-le (to - from) (drop from xs) (omega (arith, le, length-drop from xs))

-- what ends within a part
pub part-within : {X : Type 0} (xs : List X) (start end to : ℕ) → start ≤ end → end ≤ length xs → to ≤ length (slice_range xs start end) → start + to ≤ end
part-within xs start end to order within fits = omega (arith, order, fits, length-part xs start end within)

-- what comes first
pub part-first : {X : Type 0} (xs : List X) (from to : ℕ) (d : X) → from < to → to ≤ length xs → slice_range xs from to ≡ get_or xs from d ∷ slice_range xs (from + 1) to
part-first xs from to d lt le =
    let e : to - from ≡ suc (to - (from + 1)) = omega (arith, lt) in
    ap (λ n. take n (drop from xs)) e ∙ ap (take (suc (to - (from + 1)))) (drop_more xs from d (omega (arith, lt, le)))

-- the first ones of a part
pub part-take : {X : Type 0} (xs : List X) (from to count : ℕ) → from + count ≤ to → take count (slice_range xs from to) ≡ slice_range xs from (from + count)
part-take xs from to count le =
    let e : count ≡ (from + count) - from = omega arith in
    take-take count (to - from) (drop from xs) (omega (arith, le)) ∙ ap (λ n. take n (drop from xs)) e

-- and those after them
pub part-drop : {X : Type 0} (xs : List X) (from to count : ℕ) → from + count ≤ to → drop count (slice_range xs from to) ≡ slice_range xs (from + count) to
part-drop xs from to count le =
    let e : to - from ≡ count + (to - (from + count)) = omega (arith, le) in
    ap (λ n. drop count (take n (drop from xs))) e
    ∙ drop-take count (to - (from + count)) (drop from xs)
    ∙ ap (take (to - (from + count))) (drop-drop count from xs)

-- a part of a part
pub part-part : {X : Type 0} (xs : List X) (start end from to : ℕ) → from ≤ to → start + to ≤ end → slice_range (slice_range xs start end) from to ≡ slice_range xs (start + from) (start + to)
part-part xs start end from to le within =
    let e : (start + from) + (to - from) ≡ start + to = omega (arith, le) in
    ap (take (to - from)) (part-drop xs start end from (omega (arith, le, within)))
    ∙ part-take xs (start + from) end (to - from) (omega (arith, le, within))
    ∙ ap (slice_range xs (start + from)) e

-- a part up to the end
pub part-rest : {X : Type 0} (xs : List X) (from : ℕ) → slice_range xs from (length xs) ≡ drop from xs
part-rest xs from = take_rest xs from

pub part-map : {X Y : Type 0} (f : X → Y) (xs : List X) (from to : ℕ) → slice_range (map f xs) from to ≡ map f (slice_range xs from to)
part-map f xs from to = ap (take (to - from)) (drop-map f from xs) ∙ take-map f (to - from) (drop from xs)
