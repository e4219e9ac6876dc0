-- The states in which a piece is read, and the step that a byte makes.
use Rattle.std.specs.Prelude.{ℕ, zero, suc, nat_eq, Bool, true, false, not, ◌&&◌, ◌||◌, List, [], ◌∷◌, if◌then◌else◌, Option, None, Some}
use Rattle.std.specs.Option.{option_map}
use Rattle.idl_source.specs.texts.Line.{newline}
use Rattle.idl_lex.specs.bytes.Byte.{is_digit, is_word_start, is_word_byte, is_quote, is_x, is_e, is_sign}
use Rattle.idl_lex.specs.bytes.Piece.{is_pair}
use Rattle.idl_lex.specs.declared.bytes.state.Inside.{Inside}
use Rattle.idl_lex.specs.declared.bytes.state.Inside.TheVariants.{Word, Wide, Zero, Number, Dot, Literal, Slash, Line, Block, Mark, Whole}

abbrev pub start_of : ℕ → Inside
start_of b =
    if is_word_start b then (if nat_eq b 76 then Wide else Word)
    else (if nat_eq b 48 then Zero
    else (if is_digit b then Number false false
    else (if nat_eq b 46 then Dot
    else (if is_quote b then Literal b false
    else (if nat_eq b 47 then Slash
    else Mark b)))))

abbrev pub number_step : Bool → Bool → ℕ → Option Inside
number_step hexadecimal after_e b =
    if is_word_byte b || nat_eq b 46 || (after_e && is_sign b)
    then Some (Number hexadecimal (is_e b && not hexadecimal)) else None

abbrev pub literal_step : ℕ → Bool → ℕ → Option Inside
literal_step quote escaped b =
    if nat_eq b newline then None
    else (if escaped then Some (Literal quote false)
    else (if nat_eq b quote then Some Whole
    else Some (Literal quote (nat_eq b 92))))

abbrev pub step_of : Inside → ℕ → Option Inside
step_of Word b = if is_word_byte b then Some Word else None
step_of Wide b =
    if is_quote b then Some (Literal b false) else (if is_word_byte b then Some Word else None)
step_of Zero b = if is_x b then Some (Number true false) else number_step false false b
step_of (Number hexadecimal after_e) b = number_step hexadecimal after_e b
step_of Dot b = if is_digit b then Some (Number false false) else None
step_of (Literal quote escaped) b = literal_step quote escaped b
step_of Slash b =
    if nat_eq b 47 then Some Line else (if nat_eq b 42 then Some (Block false) else None)
step_of Line b = if nat_eq b newline then None else Some Line
step_of (Block after_star) b =
    if after_star && nat_eq b 47 then Some Whole else Some (Block (nat_eq b 42))
step_of (Mark a) b = if is_pair a b then Some Whole else None
step_of Whole b = None

-- how many bytes are taken from a state on
unfoldable pub taken : Inside → List ℕ → ℕ
taken s [] = 0
taken s (b ∷ rest) = elim (step_of s b) [ None ↦ 0 | Some t ↦ suc (taken t rest) ]

-- how many bytes an included file's name has after its `<`, if it is closed on its line
unfoldable pub header_len : List ℕ → Option ℕ
header_len [] = None
header_len (b ∷ rest) =
    if nat_eq b newline then None
    else (if nat_eq b 62 then Some 1 else option_map (λ n. suc n) (header_len rest))

-- where the last `>` ends, by whether a first byte is one and where the last one of the others
-- ends; 0 where there is none
abbrev pub closing_after : Bool → ℕ → ℕ
closing_after is_closing zero = if is_closing then 1 else 0
closing_after is_closing (suc n) = suc (suc n)

unfoldable pub closing_end : List ℕ → ℕ
closing_end [] = 0
closing_end (b ∷ rest) = closing_after (nat_eq b 62) (closing_end rest)

-- how many bytes the longest piece has after its first one
abbrev pub further : Bool → ℕ → List ℕ → ℕ
further includes b rest =
    if includes && nat_eq b 60
    then (elim (header_len rest) [ None ↦ taken (start_of b) rest | Some n ↦ n ])
    else taken (start_of b) rest
