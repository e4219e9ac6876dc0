-- Columns, piece by piece.
use Rattle.std.proofs.Common.{◌≡◌, ◌∙◌, ◌+◌, ◌-◌, ◌<◌, ◌≤◌, leb, true, false, ℕ, List, [], ◌∷◌, Option, length, take, drop, ap, arith, length-drop}
use Rattle.std.proofs.lemmas.Bool.{cond-true, cond-false}
use Rattle.std.proofs.lemmas.Bool.Decides.{nat_tests}
use Rattle.std.proofs.lemmas.List.{drop-drop, nil_from_length, take_rest}
use Rattle.bstr.specs.Utf8.{decoded, pieces}
use Rattle.bstr.proofs.lemmas.PieceLemmas.{piece-bounds, pieces-nil, pieces-step}
use Rattle.idl_editor.specs.Columns.{run_size, run_units, units}
use Rattle.idl_editor.specs.declared.column.Encoding.{Encoding}

-- the piece that begins at a column
pub at-column : (line : List ℕ) (column : ℕ) → column < length line → pieces (drop column line) ≡ decoded (drop column line) ∷ pieces (drop (column + (decoded (drop column line)).size) line)
at-column line column within =
    pieces-step (drop column line) (omega (arith, length-drop column line))
    ∙ ap (λ rest. decoded (drop column line) ∷ pieces rest) (drop-drop (decoded (drop column line)).size column line)

-- it has a byte, and ends within the line
pub piece-within : (line : List ℕ) (column : ℕ) → column < length line → (1 ≤ (decoded (drop column line)).size) × (column + (decoded (drop column line)).size ≤ length line)
piece-within line column within =
    let bounds = piece-bounds (drop column line) (omega (arith, length-drop column line)) in
    (bounds.0, omega (arith, bounds.2, length-drop column line, within))

-- no piece begins at the end
pub at-end : (line : List ℕ) (column : ℕ) → length line ≤ column → pieces (drop column line) ≡ []
at-end line column past = ap pieces (nil_from_length (drop column line) (omega (arith, length-drop column line))) ∙ pieces-nil

-- a piece that has room is in the run
pub run-more : (encoding : Encoding) (left column : ℕ) (line : List ℕ) → column < length line → units encoding (decoded (drop column line)) ≤ left
    → run_size encoding left (pieces (drop column line))
    ≡ (decoded (drop column line)).size + run_size encoding (left - units encoding (decoded (drop column line))) (pieces (drop (column + (decoded (drop column line)).size) line))
run-more encoding left column line within room =
    let fits : leb (units encoding (decoded (drop column line))) left ≡ true = grind (arith, nat_tests) in
    ap (run_size encoding left) (at-column line column within) ∙ cond-true _ _ _ fits

-- and one without ends it
pub run-stops : (encoding : Encoding) (left column : ℕ) (line : List ℕ) → column < length line → left < units encoding (decoded (drop column line))
    → run_size encoding left (pieces (drop column line)) ≡ 0
run-stops encoding left column line within over =
    let fits : leb (units encoding (decoded (drop column line))) left ≡ false = grind (arith, nat_tests) in
    ap (run_size encoding left) (at-column line column within) ∙ cond-false _ _ _ fits

pub run-end : (encoding : Encoding) (left column : ℕ) (line : List ℕ) → length line ≤ column → run_size encoding left (pieces (drop column line)) ≡ 0
run-end encoding left column line past = ap (run_size encoding left) (at-end line column past)

-- the units that a piece takes, and those behind it
pub units-more : (encoding : Encoding) (column : ℕ) (line : List ℕ) → column < length line
    → run_units encoding (pieces (drop column line)) ≡ units encoding (decoded (drop column line)) + run_units encoding (pieces (drop (column + (decoded (drop column line)).size) line))
units-more encoding column line within = ap (run_units encoding) (at-column line column within)

pub units-end : (encoding : Encoding) (column : ℕ) (line : List ℕ) → length line ≤ column → run_units encoding (pieces (drop column line)) ≡ 0
units-end encoding column line past = ap (run_units encoding) (at-end line column past)

-- what was decoded at a column is the piece that begins there
pub piece-size : (line : List ℕ) (column size : ℕ) → size ≡ (decoded (take (length line - column) (drop column line))).size → size ≡ (decoded (drop column line)).size
piece-size line column size is = is ∙ ap (λ rest. (decoded rest).size) (take_rest line column)

pub piece-units : (encoding : Encoding) (line : List ℕ) (column size n : ℕ) (char : Option ℕ) → char ≡ (decoded (take (length line - column) (drop column line))).char
    → size ≡ (decoded (take (length line - column) (drop column line))).size → n ≡ units encoding (record { char = char; size = size }) → n ≡ units encoding (decoded (drop column line))
piece-units encoding line column size n char a b is =
    is ∙ (λ i. units encoding (record { char = a i; size = b i })) ∙ ap (λ rest. units encoding (decoded rest)) (take_rest line column)
