-- Lines whose bytes stand together, and one more.
use Rattle.std.proofs.Common.{◌≡◌, ◌∙◌, ◌≤◌, ℕ, List, [], ◌∷◌, ◌++◌, length, slice_range, sym, ap, subst, arith}
use Rattle.std.specs.List.{All}
use Rattle.std.proofs.lemmas.List.{length-append}
use Rattle.std.proofs.lemmas.List.Elements.{All-append, All-cons, All-head, All-nil, All-tail, All-weaker}
use Rattle.idl_base.specs.Spans.{AreWithin, piece, pieces}
use Rattle.idl_base.specs.declared.texts.ByteRange.{ByteRange}
use Rattle.idl_base.proofs.SpanLemmas as texts
use Rattle.idl_base.proofs.SpanLemmas.{slice_range-behind, slice_range-more}
use Rattle.idl_source.specs.texts.Line.{IsLine}
use Rattle.idl_source.specs.texts.Lines.{AreLines}

-- a line stands at a span
abbrev IsLineAt : List ℕ → ByteRange → Type 0
IsLineAt bytes span = (span.from ≤ span.to) × (span.to ≤ length bytes) × IsLine (piece bytes span)

within : (bytes : List ℕ) (spans : List ByteRange) → AreLines bytes spans → AreWithin bytes spans
within bytes spans are = All-weaker (IsLineAt bytes) (λ span. (span.from ≤ span.to) × (span.to ≤ length bytes)) (λ span here. (here.0, here.1)) spans are

-- lines stay where they are with more bytes behind
pub lines-more : (bytes more : List ℕ) (spans : List ByteRange) → AreLines bytes spans → AreLines (bytes ++ more) spans
lines-more bytes more [] are = All-nil (IsLineAt (bytes ++ more))
lines-more bytes more (span ∷ spans) are =
    let here : IsLineAt bytes span = All-head (IsLineAt bytes) span spans are in
    let there : IsLineAt (bytes ++ more) span = (here.0, omega (arith, here.1, length-append bytes more), subst IsLine (sym (slice_range-more bytes more span.from span.to here.0 here.1)) here.2) in
    All-cons (IsLineAt (bytes ++ more)) span spans there (lines-more bytes more spans (All-tail (IsLineAt bytes) span spans are))

-- one line more stands behind the others
pub lines-one : (bytes line : List ℕ) (spans : List ByteRange) (span : ByteRange) → span.from ≡ length bytes → span.to ≡ length (bytes ++ line)
    → IsLine line → AreLines bytes spans → AreLines (bytes ++ line) (spans ++ span ∷ [])
lines-one bytes line spans span from to is are =
    let same : piece (bytes ++ line) span ≡ line = ap (λ n. slice_range (bytes ++ line) n span.to) from ∙ ap (slice_range (bytes ++ line) (length bytes)) to ∙ slice_range-behind bytes line in
    let here : IsLineAt (bytes ++ line) span = (omega (arith, from, to, length-append bytes line), omega (arith, to), subst IsLine (sym same) is) in
    All-append (IsLineAt (bytes ++ line)) spans (span ∷ []) (lines-more bytes line spans are)
    (All-cons (IsLineAt (bytes ++ line)) span [] here (All-nil (IsLineAt (bytes ++ line))))

pub pieces-one : (bytes line : List ℕ) (spans : List ByteRange) (span : ByteRange) → span.from ≡ length bytes → span.to ≡ length (bytes ++ line)
    → AreLines bytes spans → pieces (bytes ++ line) (spans ++ span ∷ []) ≡ pieces bytes spans ++ line ∷ []
pieces-one bytes line spans span from to are = texts.pieces-one bytes line spans span from to (within bytes spans are)
