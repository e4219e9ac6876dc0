-- What few bytes are by their ends.
use Rattle.std.proofs.Common.{◌≡◌, ◌≤◌, ◌-◌, ◌*◌, ◌++◌, ℕ, List, length, ap, ◌∙◌, drop, take, arith}
use Rattle.std.proofs.lemmas.List.{length-append, length-drop, length-take-le, take-append-drop, take-append-le, take-take}
use Rattle.std.proofs.lemmas.Slice.{take-put_mid}
use borrow.Rule.Slice.PartMut.{put_mid}

-- the first bytes and the last ones, which are all of them, one upon the other
pub all-by_ends : (bytes front rest back : List ℕ) (count : ℕ) → count ≤ length bytes → length bytes ≤ 2 * count
    → front ≡ take count bytes → back ≡ drop (length bytes - count) bytes
    → take (length bytes) (put_mid (length bytes - count) (length bytes - (length bytes - count)) (front ++ rest) back) ≡ bytes
all-by_ends bytes front rest back count within all first last =
    let at = length bytes - count in
    let front-length : length front ≡ count = ap length first ∙ length-take-le count bytes within in
    let back-length : length back ≡ count = omega (arith, ap length last, length-drop at bytes, within) in
    let before : take at (front ++ rest) ≡ take at bytes =
    take-append-le at front rest (omega (arith, front-length, all)) ∙ ap (take at) first ∙ take-take at count bytes (omega (arith, all)) in
    take-put_mid at (length bytes - at) (front ++ rest) back (length bytes) (omega (arith, back-length, within)) (omega (arith, front-length, all, length-append front rest))
    ∙ (λ i. before i ++ last i)
    ∙ take-append-drop at bytes
