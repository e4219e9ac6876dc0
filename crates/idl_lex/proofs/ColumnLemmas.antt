-- The joined text from a byte on, and what comes after its gaps.
use Rattle.std.proofs.Common.{◌≡◌, ◌∙◌, ◌<◌, ◌≤◌, ◌+◌, ◌++◌, ℕ, zero, suc, Bool, true, false, None, Some, List, [], ◌∷◌, drop, get_or, length, length-append, length-drop, refl, sym, ap, arith}
use Rattle.std.proofs.lemmas.List.{drop_all, drop_more}
use Rattle.idl_source.specs.texts.Line.{newline}
use Rattle.idl_lex.specs.bytes.Columns.{bytes_in, bytes_left, ending, gap_length, gaps_after, standing, text_from, text_of_line}
use Rattle.idl_lex.specs.bytes.Scan.{step_of, taken}
use Rattle.idl_lex.specs.declared.bytes.state.Inside.{Inside}
use Rattle.idl_lex.specs.declared.bytes.text_left.LineLeft.{LineLeft}
use Rattle.idl_lex.specs.declared.bytes.text_left.TextByte.{TextByte}

-- ---- the bytes that are left of a line

-- what is left behind so many bytes
pub drop-some : (n : ℕ) (bytes : List ℕ) → 0 < length (drop n bytes) → n < length bytes
drop-some zero [] some = absurd (omega (arith, some))
drop-some zero (b ∷ bytes) some = omega arith
drop-some (suc n) [] some = absurd (omega (arith, some))
drop-some (suc n) (b ∷ bytes) some = let rest = drop-some n bytes some in omega (arith, rest)

pub length-standing : (number column : ℕ) (bytes : List ℕ) → length (standing number column bytes) ≡ length bytes
unfolding standing
length-standing number column [] = refl
length-standing number column (b ∷ bytes) = ap (λ n. suc n) (length-standing number (column + 1) bytes)

pub some-left : (left : LineLeft) → 0 < length (bytes_left left) → left.column < length (left.bytes.now ++ ending left.ends)
some-left left some =
    let bytes = left.bytes.now ++ ending left.ends in
    drop-some left.column bytes (omega (arith, some, length-standing left.number left.column (drop left.column bytes)))

pub none-left : (left : LineLeft) → length (left.bytes.now ++ ending left.ends) ≤ left.column → bytes_left left ≡ []
unfolding standing
none-left left past = ap (standing left.number left.column) (drop_all left.column (left.bytes.now ++ ending left.ends) past)

pub passed-left : (left : LineLeft) → bytes_left left ≡ [] → length (left.bytes.now ++ ending left.ends) ≤ left.column
passed-left left none =
    let bytes = left.bytes.now ++ ending left.ends in
    omega (arith, ap length none, length-standing left.number left.column (drop left.column bytes), length-drop left.column bytes)

pub length-ended : (bytes : List ℕ) → length (bytes ++ ending true) ≡ length bytes + 1
length-ended bytes = length-append bytes (ending true)

pub length-open : (bytes : List ℕ) → length (bytes ++ ending false) ≡ length bytes
length-open bytes = length-append bytes (ending false) ∙ omega arith

-- the first of them
pub first-left : (left rest : LineLeft) (b : ℕ) → left.column < length (left.bytes.now ++ ending left.ends) → b ≡ get_or (left.bytes.now ++ ending left.ends) left.column 0
    → rest ≡ record left { column = left.column + 1 } → bytes_left left ≡ record { byte = b; line = left.number; column = left.column } ∷ bytes_left rest
unfolding standing
first-left left rest b within is behind =
    ap (standing left.number left.column) (drop_more (left.bytes.now ++ ending left.ends) left.column 0 within)
    ∙ (λ i. record { byte = sym is i; line = left.number; column = left.column } ∷ bytes_left (sym behind i))

-- a byte of the line, or the newline that ends it
pub byte-there : (bytes : List ℕ) (ends : Bool) (n : ℕ) → n < length bytes → get_or bytes n 0 ≡ get_or (bytes ++ ending ends) n 0
byte-there [] ends n within = absurd (omega (arith, within))
byte-there (b ∷ bytes) ends zero within = refl
byte-there (b ∷ bytes) ends (suc n) within = byte-there bytes ends n (omega (arith, within))

pub newline-there : (bytes : List ℕ) (ends : Bool) (n : ℕ) → length bytes ≤ n → n < length (bytes ++ ending ends) → newline ≡ get_or (bytes ++ ending ends) n 0
newline-there [] false n past within = absurd (omega (arith, within))
newline-there [] true zero past within = refl
newline-there [] true (suc n) past within = absurd (omega (arith, within))
newline-there (b ∷ bytes) ends zero past within = absurd (omega (arith, past))
newline-there (b ∷ bytes) ends (suc n) past within = newline-there bytes ends n (omega (arith, past)) (omega (arith, within))

-- ---- the text from a byte of a line on

abbrev pub left_of : LineLeft → List (List ℕ) → List TextByte
left_of left later = bytes_left left ++ text_from (left.number + 1) later

pub no_lines : (lines : List (List ℕ)) → length lines < 1 → lines ≡ []
no_lines [] none = refl
no_lines (l ∷ lines) none = absurd (omega (arith, none))

pub left_of-none : (left : LineLeft) (later : List (List ℕ)) → bytes_left left ≡ [] → later ≡ [] → left_of left later ≡ []
unfolding text_from
left_of-none left later passed none = (λ i. passed i ++ text_from (left.number + 1) (none i))

-- the line after one that is passed
pub left_of-next : (left here : LineLeft) (next : List ℕ) (later rest : List (List ℕ)) → bytes_left left ≡ [] → 1 ≤ length later → next ≡ get_or later 0 next → rest ≡ drop 1 later
    → here.number ≡ left.number + 1 → bytes_left here ≡ standing (left.number + 1) 0 (text_of_line next rest) → left_of here rest ≡ left_of left later
unfolding text_from
left_of-next left here next [] rest passed some is behind number all = absurd (omega (arith, some))
left_of-next left here next (l ∷ later) rest passed some is behind number all =
    (λ i. (all ∙ (λ j. standing (left.number + 1) 0 (text_of_line (is j) (behind j)))) i ++ text_from (number i + 1) (behind i))
    ∙ sym (ap (λ (bs : List TextByte). bs ++ text_from (left.number + 1) (l ∷ later)) passed)

-- ---- gaps

pub gaps_after-drop : (n : ℕ) (text : List TextByte) → gaps_after n text ≡ gaps_after 0 (drop n text)
unfolding gaps_after
gaps_after-drop zero text = refl
gaps_after-drop (suc n) [] = refl
gaps_after-drop (suc n) (b ∷ text) = gaps_after-drop n text

pub gaps_after-none : (text : List TextByte) → gap_length (bytes_in text) ≡ 0 → gaps_after 0 text ≡ text
unfolding gaps_after
gaps_after-none [] none = refl
gaps_after-none (b ∷ text) none = ap (λ k. elim k [ zero ↦ b ∷ text | suc n ↦ gaps_after n text ]) none

pub gaps_after-some : (text : List TextByte) (n : ℕ) → gap_length (bytes_in text) ≡ n → 1 ≤ n → gaps_after 0 text ≡ gaps_after 0 (drop n text)
unfolding gaps_after
gaps_after-some text zero is some = absurd (omega (arith, some))
gaps_after-some [] (suc n) is some = absurd (omega (arith, is))
gaps_after-some (b ∷ text) (suc n) is some =
    ap (λ k. elim k [ zero ↦ b ∷ text | suc m ↦ gaps_after m text ]) is ∙ gaps_after-drop n text

-- ---- pieces

-- what is taken of a text goes on behind its first byte
pub taken-on : (s t : Inside) (text : List TextByte) (b : TextByte) (rest : List TextByte) → text ≡ b ∷ rest → step_of s b.byte ≡ Some t
    → drop (taken t (bytes_in rest)) rest ≡ drop (taken s (bytes_in text)) text
unfolding taken
taken-on s t text b rest is next =
    sym (ap (λ (x : List TextByte). drop (taken s (bytes_in x)) x) is
    ∙ ap (λ o. drop (elim o [ None ↦ 0 | Some u ↦ suc (taken u (bytes_in rest)) ]) (b ∷ rest)) next)

-- or ends before it
pub taken-no_more : (s : Inside) (text : List TextByte) (b : TextByte) (rest : List TextByte) → text ≡ b ∷ rest → step_of s b.byte ≡ None → drop (taken s (bytes_in text)) text ≡ text
unfolding taken
taken-no_more s text b rest is none =
    ap (λ (x : List TextByte). drop (taken s (bytes_in x)) x) is
    ∙ ap (λ o. drop (elim o [ None ↦ 0 | Some u ↦ suc (taken u (bytes_in rest)) ]) (b ∷ rest)) none
    ∙ sym is
