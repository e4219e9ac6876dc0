-- Texts that stand among bytes, and one more.
use Rattle.std.proofs.Common.{◌≡◌, ◌∙◌, ◌≤◌, ◌-◌, ℕ, List, [], ◌∷◌, ◌++◌, length, take, drop, slice_range, refl, ap, arith}
use Rattle.std.proofs.Math.Seq.{drop-append_seam, take-length}
use Rattle.std.proofs.lemmas.List.{drop-append-le, length-append, length-drop, map-append, take-append-le}
use Rattle.std.proofs.lemmas.List.Elements.{All-append, All-cons, All-head, All-nil, All-tail}
use Rattle.idl_base.specs.Spans.{AreWithin, piece, pieces}
use Rattle.idl_base.specs.declared.texts.ByteRange.{ByteRange}

-- what stands up to a place stays with more bytes behind
pub slice_range-more : (xs ys : List ℕ) (from to : ℕ) → from ≤ to → to ≤ length xs → slice_range (xs ++ ys) from to ≡ slice_range xs from to
slice_range-more xs ys from to order within =
    ap (take (to - from)) (drop-append-le from xs ys (omega (arith, order, within)))
    ∙ take-append-le (to - from) (drop from xs) ys (omega (arith, order, within, length-drop from xs))

-- the bytes behind others
pub slice_range-behind : (xs ys : List ℕ) → slice_range (xs ++ ys) (length xs) (length (xs ++ ys)) ≡ ys
slice_range-behind xs ys =
    let count : length (xs ++ ys) - length xs ≡ length ys = omega (arith, length-append xs ys) in
    ap (take (length (xs ++ ys) - length xs)) (drop-append_seam xs ys) ∙ ap (λ n. take n ys) count ∙ take-length ys

-- a span within bytes
abbrev IsWithin : List ℕ → ByteRange → Type 0
IsWithin bytes span = (span.from ≤ span.to) × (span.to ≤ length bytes)

-- texts stay as they are with more bytes behind
pub pieces-more : (bytes more : List ℕ) (spans : List ByteRange) → AreWithin bytes spans → pieces (bytes ++ more) spans ≡ pieces bytes spans
pieces-more bytes more [] are = refl
pieces-more bytes more (span ∷ spans) are =
    let here : IsWithin bytes span = All-head (IsWithin bytes) span spans are in
    ap (λ p. p ∷ pieces (bytes ++ more) spans) (slice_range-more bytes more span.from span.to here.0 here.1)
    ∙ ap (λ ps. piece bytes span ∷ ps) (pieces-more bytes more spans (All-tail (IsWithin bytes) span spans are))

-- so do their spans
pub within-more : (bytes more : List ℕ) (spans : List ByteRange) → AreWithin bytes spans → AreWithin (bytes ++ more) spans
within-more bytes more [] are = All-nil (IsWithin (bytes ++ more))
within-more bytes more (span ∷ spans) are =
    let here : IsWithin bytes span = All-head (IsWithin bytes) span spans are in
    let there : IsWithin (bytes ++ more) span = (here.0, omega (arith, here.1, length-append bytes more)) in
    All-cons (IsWithin (bytes ++ more)) span spans there (within-more bytes more spans (All-tail (IsWithin bytes) span spans are))

-- one text more stands behind the others
pub within-one : (bytes text : List ℕ) (spans : List ByteRange) (span : ByteRange) → span.from ≡ length bytes → span.to ≡ length (bytes ++ text)
    → AreWithin bytes spans → AreWithin (bytes ++ text) (spans ++ span ∷ [])
within-one bytes text spans span from to are =
    let here : IsWithin (bytes ++ text) span = (omega (arith, from, to, length-append bytes text), omega (arith, to)) in
    All-append (IsWithin (bytes ++ text)) spans (span ∷ []) (within-more bytes text spans are)
    (All-cons (IsWithin (bytes ++ text)) span [] here (All-nil (IsWithin (bytes ++ text))))

pub pieces-one : (bytes text : List ℕ) (spans : List ByteRange) (span : ByteRange) → span.from ≡ length bytes → span.to ≡ length (bytes ++ text)
    → AreWithin bytes spans → pieces (bytes ++ text) (spans ++ span ∷ []) ≡ pieces bytes spans ++ text ∷ []
pieces-one bytes text spans span from to are =
    map-append (piece (bytes ++ text)) spans (span ∷ [])
    ∙ ap (λ ps. ps ++ piece (bytes ++ text) span ∷ []) (pieces-more bytes text spans are)
    ∙ ap (λ p. pieces bytes spans ++ p ∷ []) (ap (λ n. slice_range (bytes ++ text) n span.to) from ∙ ap (slice_range (bytes ++ text) (length bytes)) to ∙ slice_range-behind bytes text)
