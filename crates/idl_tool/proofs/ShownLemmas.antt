-- Texts that are shown piece by piece.
use Rattle.std.proofs.Common.{◌≡◌, ◌∙◌, ◌+◌, ◌-◌, ◌<◌, ◌≤◌, ◌++◌, [], ℕ, Bool, Err, List, Ok, Result, ap, arith, drop, length, length-drop, sym, take}
use Rattle.std.specs.Prelude.{OnOk, is_ok, if◌then◌else◌}
use Rattle.std.proofs.lemmas.List.{drop-drop, nil_from_length, take_rest}
use Rattle.bstr.specs.Utf8.{decoded}
use Rattle.bstr.proofs.lemmas.PieceLemmas.{piece-bounds, pieces-nil, pieces-step}
use Rattle.idl_tool.specs.Report.{shown_first, shown_pieces, shown_text}

-- a piece has a byte, and ends within the text
pub piece-within : (text : List ℕ) (at size : ℕ) → at < length text → size ≡ (decoded (take (length text - at) (drop at text))).size → (1 ≤ size) × (at + size ≤ length text)
piece-within text at size within is =
    let bounds = piece-bounds (drop at text) (omega (arith, length-drop at text)) in
    let same : size ≡ (decoded (drop at text)).size = is ∙ ap (λ (rest : List ℕ). (decoded rest).size) (take_rest text at) in
    (omega (arith, bounds.0, same), omega (arith, bounds.2, same, length-drop at text, within))

-- what is shown of a text is that of its first piece, and of what is behind
pub shown-more : (is_line : Bool) (text : List ℕ) (at size : ℕ) → at < length text → size ≡ (decoded (take (length text - at) (drop at text))).size
    → shown_text is_line (drop at text) ≡ shown_first is_line (take (length text - at) (drop at text)) ++ shown_text is_line (drop (at + size) text)
shown-more is_line text at size within is =
    let rest = drop at text in
    let n = (decoded rest).size in
    let whole = take_rest text at in
    let same : size ≡ n = is ∙ ap (λ (r : List ℕ). (decoded r).size) whole in
    ap (λ ps. shown_pieces is_line ps rest) (pieces-step rest (omega (arith, length-drop at text)))
    ∙ ap (λ r. shown_first is_line rest ++ shown_text is_line r) (drop-drop n at text)
    ∙ ap (λ (r : List ℕ). shown_first is_line r ++ shown_text is_line (drop (at + n) text)) (sym whole)
    ∙ ap (λ m. shown_first is_line (take (length text - at) rest) ++ shown_text is_line (drop (at + m) text)) (sym same)

pub shown-end : (is_line : Bool) (text : List ℕ) (at : ℕ) → length text ≤ at → shown_text is_line (drop at text) ≡ []
shown-end is_line text at past =
    ap (shown_text is_line) (nil_from_length (drop at text) (omega (arith, length-drop at text))) ∙ ap (λ ps. shown_pieces is_line ps []) pieces-nil

-- what is behind a text, where there is memory
pub grown-on_ok : {T E X : Type 0} {new : List X} (full left : List X) (r : Result T E) → new ≡ (if is_ok r then full else left) → OnOk r (new ≡ full)
grown-on_ok full left (Ok x) e = e
grown-on_ok full left (Err x) e = tt
