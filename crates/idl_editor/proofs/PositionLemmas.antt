-- Where lines begin.
use Rattle.std.proofs.Common.{◌≡◌, ◌∙◌, ◌+◌, ◌-◌, ◌<◌, ◌≤◌, ℕ, zero, suc, true, false, List, [], length, drop, get_or, refl, sym, ap, arith, length-drop, zero-add}
use Rattle.std.proofs.lemmas.List.{drop-drop, nil_from_length}
use Rattle.std.proofs.lemmas.List.Sums.{position_or_len_is}
use Rattle.idl_editor.specs.Positions.{end_size, is_break, line_size, line_start, whole_size}

-- behind the text there is nothing to go over
pub whole-none : whole_size [] ≡ 0
unfolding whole_size
whole-none = refl

pub start-none : (line : ℕ) → line_start line [] ≡ 0
unfolding line_start
start-none zero = refl
start-none (suc line) = ap (λ n. n + line_start line (drop n [])) whole-none ∙ zero-add (line_start line []) ∙ start-none line

pub start-zero : (text : List ℕ) → line_start 0 text ≡ 0
unfolding line_start
start-zero text = refl

-- a line more
pub start-more : (line : ℕ) (text : List ℕ) → line_start (suc line) text ≡ whole_size text + line_start line (drop (whole_size text) text)
unfolding line_start
start-more line text = refl

-- a line and its end are all of its bytes and those of its end
pub whole-parts : (text : List ℕ) → whole_size text ≡ line_size text + end_size (drop (line_size text) text)
unfolding whole_size
whole-parts text = refl

-- past the text each line begins at its end
pub start-past : (line start : ℕ) (text : List ℕ) → length text ≤ start → line_start line (drop start text) ≡ 0
start-past line start text past =
    ap (line_start line) (nil_from_length (drop start text) (omega (arith, length-drop start text))) ∙ start-none line

-- from one line to the next
pub start-step : (line done start : ℕ) (text : List ℕ) → done < line
    → line_start (line - done) (drop start text) ≡ whole_size (drop start text) + line_start (line - (done + 1)) (drop (start + whole_size (drop start text)) text)
start-step line done start text more =
    let next : line - done ≡ suc (line - (done + 1)) = omega arith in
    ap (λ n. line_start n (drop start text)) next
    ∙ start-more (line - (done + 1)) (drop start text)
    ∙ ap (λ rest. whole_size (drop start text) + line_start (line - (done + 1)) rest) (drop-drop (whole_size (drop start text)) start text)

-- the first byte that ends a line, and none
pub size-is : (text : List ℕ) (size : ℕ) → size ≤ length text → ((k : ℕ) → k < size → is_break (get_or text k 0) ≡ false) → (size < length text → is_break (get_or text size 0) ≡ true) → size ≡ line_size text
size-is text size within before at = sym (position_or_len_is is_break text size 0 within before at)

-- the parts of a line that are found
pub whole-is : (text : List ℕ) (size end : ℕ) → size ≡ line_size text → end ≡ end_size (drop size text) → size + end ≡ whole_size text
whole-is text size end is ends =
    (λ i. is i + ends i) ∙ ap (λ n. line_size text + end_size (drop n text)) is ∙ sym (whole-parts text)
