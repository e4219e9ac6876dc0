-- A piece within a line, and a comment that goes on past it.
use Rattle.std.proofs.Common.{◌≡◌, ◌∙◌, ◌+◌, ◌++◌, ℕ, suc, nat_eq, Bool, true, false, not, ◌&&◌, ◌||◌, if◌then◌else◌, List, [], ◌∷◌, length, take, Option, None, Some, refl, sym, ap, subst, arith}
use Rattle.std.proofs.lemmas.Bool.{eqb-true, false≢true}
use Rattle.std.specs.Option.{option_map}
use Rattle.idl_source.proofs.IdlBase.Bools.{and-false, not-true}
use Rattle.idl_source.specs.texts.Line.{newline}
use Rattle.idl_lex.specs.bytes.Byte.{is_digit, is_word_start, is_word_byte, is_quote, is_x, is_e, is_sign}
use Rattle.idl_lex.specs.bytes.Context.{ends_block}
use Rattle.idl_lex.specs.tokens.Lexer.{is_open, opens}
use Rattle.idl_lex.specs.bytes.Piece.{is_pair}
use Rattle.idl_lex.specs.bytes.Scan.{start_of, number_step, step_of, taken, header_len, further}
use Rattle.idl_lex.specs.declared.bytes.state.Inside.{Inside}
use Rattle.idl_lex.specs.declared.bytes.state.Inside.TheVariants.{Word, Wide, Zero, Number, Dot, Literal, Slash, Line, Block, Mark, Whole}

-- inside a comment, or where one may begin
abbrev may_open : Inside → Bool
may_open Word = false
may_open Wide = false
may_open Zero = false
may_open (Number hexadecimal after_e) = false
may_open Dot = false
may_open (Literal quote escaped) = false
may_open Slash = true
may_open Line = false
may_open (Block after_star) = true
may_open (Mark a) = false
may_open Whole = false

-- inside a comment
abbrev is_block : Inside → Bool
is_block Word = false
is_block Wide = false
is_block Zero = false
is_block (Number hexadecimal after_e) = false
is_block Dot = false
is_block (Literal quote escaped) = false
is_block Slash = false
is_block Line = false
is_block (Block after_star) = true
is_block (Mark a) = false
is_block Whole = false

-- all bytes are taken, and a comment is open after them
abbrev open_after : Inside → List ℕ → Bool
open_after s [] = is_block s
open_after s (b ∷ bs) = elim (step_of s b) [ None ↦ false | Some t ↦ open_after t bs ]

-- a test of what a step leads to
abbrev leads : (Inside → Bool) → Option Inside → Bool
leads test None = false
leads test (Some t) = test t

leads-if : (c : Bool) (t : Inside) → may_open t ≡ false → leads may_open (if c then Some t else None) ≡ false
leads-if true t closed = closed
leads-if false t closed = refl

leads-number : (h e : Bool) (b : ℕ) → leads may_open (number_step h e b) ≡ false
leads-number h e b = leads-if (is_word_byte b || nat_eq b 46 || (e && is_sign b)) (Number h (is_e b && not h)) refl

leads-zero : (c : Bool) (b : ℕ) → leads may_open (if c then Some (Number true false) else number_step false false b) ≡ false
leads-zero true b = refl
leads-zero false b = leads-number false false b

leads-wide : (quote word : Bool) (b : ℕ) → leads may_open (if quote then Some (Literal b false) else (if word then Some Word else None)) ≡ false
leads-wide true word b = refl
leads-wide false true b = refl
leads-wide false false b = refl

leads-literal : (newline escaped closing backslash : Bool) (quote : ℕ)
    → leads may_open (if newline then None else (if escaped then Some (Literal quote false) else (if closing then Some Whole else Some (Literal quote backslash)))) ≡ false
leads-literal true escaped closing backslash quote = refl
leads-literal false true closing backslash quote = refl
leads-literal false false true backslash quote = refl
leads-literal false false false backslash quote = refl

leads-line : (newline : Bool) → leads may_open (if newline then None else Some Line) ≡ false
leads-line true = refl
leads-line false = refl

-- what may not open a comment never does
leads-closed : (s : Inside) (b : ℕ) → may_open s ≡ false → leads may_open (step_of s b) ≡ false
leads-closed Word b e = leads-if (is_word_byte b) Word refl
leads-closed Wide b e = leads-wide (is_quote b) (is_word_byte b) b
leads-closed Zero b e = leads-zero (is_x b) b
leads-closed (Number hexadecimal after_e) b e = leads-number hexadecimal after_e b
leads-closed Dot b e = leads-if (is_digit b) (Number false false) refl
leads-closed (Literal quote escaped) b e = leads-literal (nat_eq b newline) escaped (nat_eq b quote) (nat_eq b 92) quote
leads-closed Slash b e = cc
leads-closed Line b e = leads-line (nat_eq b newline)
leads-closed (Block after_star) b e = cc
leads-closed (Mark a) b e = leads-if (is_pair a b) Whole refl
leads-closed Whole b e = refl

is_block-closed : (s : Inside) → may_open s ≡ false → is_block s ≡ false
is_block-closed Word e = refl
is_block-closed Wide e = refl
is_block-closed Zero e = refl
is_block-closed (Number hexadecimal after_e) e = refl
is_block-closed Dot e = refl
is_block-closed (Literal quote escaped) e = refl
is_block-closed Slash e = refl
is_block-closed Line e = refl
is_block-closed (Block after_star) e = cc
is_block-closed (Mark a) e = refl
is_block-closed Whole e = refl

open_after-step : (o : Option Inside) (bs : List ℕ) → ((t : Inside) → may_open t ≡ false → open_after t bs ≡ false) → leads may_open o ≡ false
    → (elim o [ None ↦ false | Some t ↦ open_after t bs ]) ≡ false
open_after-step None bs ih e = refl
open_after-step (Some t) bs ih e = ih t e

open_after-closed : (s : Inside) (bs : List ℕ) → may_open s ≡ false → open_after s bs ≡ false
open_after-closed s [] e = is_block-closed s e
open_after-closed s (b ∷ bs) e = open_after-step (step_of s b) bs (λ t h. open_after-closed t bs h) (leads-closed s b e)

-- no piece but a comment goes on over a newline
number-newline : (h e : Bool) → number_step h e newline ≡ None
number-newline h true = refl
number-newline h false = refl

pair-newline : (c : Bool) (a : ℕ) → nat_eq a newline ≡ c → is_pair a newline ≡ false
pair-newline true a e = ap (λ x. is_pair x newline) (eqb-true a newline e)
pair-newline false a e = ap (λ c. (c && (nat_eq a 58 || nat_eq a 60 || nat_eq a 62 || nat_eq a 35 || nat_eq a 38 || nat_eq a 124 || nat_eq a 61)) || false) e

step_of-newline : (s : Inside) → is_block s ≡ false → step_of s newline ≡ None
step_of-newline Word e = refl
step_of-newline Wide e = refl
step_of-newline Zero e = refl
step_of-newline (Number hexadecimal after_e) e = number-newline hexadecimal after_e
step_of-newline Dot e = refl
step_of-newline (Literal quote escaped) e = refl
step_of-newline Slash e = refl
step_of-newline Line e = refl
step_of-newline (Block after_star) e = cc
step_of-newline (Mark a) e = ap (λ c. if c then Some Whole else None) (pair-newline (nat_eq a newline) a refl)
step_of-newline Whole e = refl

taken-step : (o : Option Inside) (bs cs : List ℕ) → ((t : Inside) → open_after t bs ≡ false → taken t cs ≡ taken t bs) → (elim o [ None ↦ false | Some t ↦ open_after t bs ]) ≡ false
    → ◌≡◌ {A = ℕ} (elim o [ None ↦ 0 | Some t ↦ suc (taken t cs) ]) (elim o [ None ↦ 0 | Some t ↦ suc (taken t bs) ])
taken-step None bs cs ih e = refl
taken-step (Some t) bs cs ih e = ap (λ n. suc n) (ih t e)

-- so it ends where it would if the line were all
taken-newline : (s : Inside) (bs rest : List ℕ) → open_after s bs ≡ false → taken s (bs ++ newline ∷ rest) ≡ taken s bs
unfolding taken
taken-newline s [] rest e = ap (λ o. elim o [ None ↦ 0 | Some t ↦ suc (taken t rest) ]) (step_of-newline s e)
taken-newline s (b ∷ bs) rest e = taken-step (step_of s b) bs (bs ++ newline ∷ rest) (λ t h. taken-newline t bs rest h) e

header-cases : (newline greater : Bool) (o p : Option ℕ) → o ≡ p
    → (if newline then None else (if greater then Some 1 else option_map (λ n. suc n) o)) ≡ (if newline then None else (if greater then Some 1 else option_map (λ n. suc n) p))
header-cases newline greater o p e = ap (λ q. if newline then None else (if greater then Some 1 else option_map (λ n. suc n) q)) e

header_len-line : (bs rest : List ℕ) → header_len (bs ++ newline ∷ rest) ≡ header_len bs
unfolding header_len
header_len-line [] rest = refl
header_len-line (b ∷ bs) rest = header-cases (nat_eq b newline) (nat_eq b 62) (header_len (bs ++ newline ∷ rest)) (header_len bs) (header_len-line bs rest)

further-cases : (c : Bool) (b : ℕ) (o p : Option ℕ) (m n : ℕ) → o ≡ p → m ≡ n
    → (if c then (elim o [ None ↦ m | Some k ↦ k ]) else m) ≡ (if c then (elim p [ None ↦ n | Some k ↦ k ]) else n)
further-cases c b o p m n e f =
    ap (λ q. if c then (elim q [ None ↦ m | Some k ↦ k ]) else m) e ∙ ap (λ x. if c then (elim p [ None ↦ x | Some k ↦ k ]) else x) f

-- a piece that opens no comment ends on its line
further-line : (includes : Bool) (b : ℕ) (bs rest : List ℕ) → open_after (start_of b) bs ≡ false → further includes b (bs ++ newline ∷ rest) ≡ further includes b bs
further-line includes b bs rest e =
    further-cases (includes && nat_eq b 60) b (header_len (bs ++ newline ∷ rest)) (header_len bs) (taken (start_of b) (bs ++ newline ∷ rest)) (taken (start_of b) bs)
    (header_len-line bs rest) (taken-newline (start_of b) bs rest e)

-- a comment: it is open after bytes where they don't close it
open-whole : (bs : List ℕ) → open_after Whole bs ≡ false
open-whole bs = open_after-closed Whole bs refl

open-block-cases : (ends star : Bool) (bs : List ℕ) → ((s : Bool) → open_after (Block s) bs ≡ not (ends_block s bs))
    → (elim (if ends then Some Whole else Some (Block star)) [ None ↦ false | Some t ↦ open_after t bs ]) ≡ not (if ends then true else ends_block star bs)
open-block-cases true star bs ih = open-whole bs
open-block-cases false star bs ih = ih star

open_after-block : (s : Bool) (bs : List ℕ) → open_after (Block s) bs ≡ not (ends_block s bs)
open_after-block s [] = refl
open_after-block s (b ∷ bs) = open-block-cases (s && nat_eq b 47) (nat_eq b 42) bs (λ t. open_after-block t bs)

-- what is taken of a comment closes it, if all of the text does
closing-cases : (ends star : Bool) (b : ℕ) (bs : List ℕ) (s : Bool) → ((t : Bool) → ends_block t (take (taken (Block t) bs) bs) ≡ ends_block t bs) → (s && nat_eq b 47) ≡ ends → nat_eq b 42 ≡ star
    → ends_block s (take (elim (if ends then Some Whole else Some (Block star)) [ None ↦ 0 | Some t ↦ suc (taken t bs) ]) (b ∷ bs)) ≡ (if ends then true else ends_block star bs)
closing-cases true star b bs s ih e f = ap (λ c. if c then true else ends_block (nat_eq b 42) (take (taken Whole bs) bs)) e
closing-cases false star b bs s ih e f =
    ap (λ c. if c then true else ends_block (nat_eq b 42) (take (taken (Block star) bs) bs)) e
    ∙ ap (λ t. ends_block t (take (taken (Block star) bs) bs)) f
    ∙ ih star

pub ends_block-taken : (s : Bool) (bs : List ℕ) → ends_block s (take (taken (Block s) bs) bs) ≡ ends_block s bs
unfolding taken
ends_block-taken s [] = refl
ends_block-taken s (b ∷ bs) = closing-cases (s && nat_eq b 47) (nat_eq b 42) b bs s (λ t. ends_block-taken t bs) refl refl

-- a comment that isn't closed takes all bytes, and goes on
all-cases : (ends star : Bool) (bs : List ℕ) (n : ℕ) → ((t : Bool) → ends_block t bs ≡ false → taken (Block t) bs ≡ n) → (if ends then true else ends_block star bs) ≡ false
    → (elim (if ends then Some Whole else Some (Block star)) [ None ↦ 0 | Some t ↦ suc (taken t bs) ]) ≡ suc n
all-cases true star bs n ih e = cc
all-cases false star bs n ih e = ap (λ m. suc m) (ih star e)

pub taken-open : (s : Bool) (bs : List ℕ) → ends_block s bs ≡ false → taken (Block s) bs ≡ length bs
unfolding taken
taken-open s [] e = refl
taken-open s (b ∷ bs) e = all-cases (s && nat_eq b 47) (nat_eq b 42) bs (length bs) (λ t h. taken-open t bs h) e

over-cases : (ends star : Bool) (bs rest : List ℕ) → ((t : Bool) → ends_block t bs ≡ false → taken (Block t) (bs ++ newline ∷ rest) ≡ length bs + suc (taken (Block false) rest))
    → (if ends then true else ends_block star bs) ≡ false
    → (elim (if ends then Some Whole else Some (Block star)) [ None ↦ 0 | Some t ↦ suc (taken t (bs ++ newline ∷ rest)) ]) ≡ suc (length bs) + suc (taken (Block false) rest)
over-cases true star bs rest ih e = cc
over-cases false star bs rest ih e = let h = ih star e in omega (arith, h)

newline-block : (s : Bool) (rest : List ℕ) → (elim (if (s && false) then Some Whole else Some (Block false)) [ None ↦ 0 | Some t ↦ suc (taken t rest) ]) ≡ 0 + suc (taken (Block false) rest)
newline-block true rest = omega arith
newline-block false rest = omega arith

pub taken-over : (s : Bool) (bs rest : List ℕ) → ends_block s bs ≡ false → taken (Block s) (bs ++ newline ∷ rest) ≡ length bs + suc (taken (Block false) rest)
unfolding taken
taken-over s [] rest e = newline-block s rest
taken-over s (b ∷ bs) rest e = over-cases (s && nat_eq b 47) (nat_eq b 42) bs rest (λ t h. taken-over t bs rest h) e

-- it is closed where the rest closes it
ends-newline : (s : Bool) (rest : List ℕ) → (if (s && false) then true else ends_block false rest) ≡ ends_block false rest
ends-newline true rest = refl
ends-newline false rest = refl

ends-over-cases : (ends star : Bool) (bs rest : List ℕ) → ((t : Bool) → ends_block t bs ≡ false → ends_block t (bs ++ newline ∷ rest) ≡ ends_block false rest)
    → (if ends then true else ends_block star bs) ≡ false → (if ends then true else ends_block star (bs ++ newline ∷ rest)) ≡ ends_block false rest
ends-over-cases true star bs rest ih e = cc
ends-over-cases false star bs rest ih e = ih star e

pub ends_block-over : (s : Bool) (bs rest : List ℕ) → ends_block s bs ≡ false → ends_block s (bs ++ newline ∷ rest) ≡ ends_block false rest
ends_block-over s [] rest e = ends-newline s rest
ends_block-over s (b ∷ bs) rest e = ends-over-cases (s && nat_eq b 47) (nat_eq b 42) bs rest (λ t h. ends_block-over t bs rest h) e

-- one that is closed on its line ends there
closed-cases : (ends star : Bool) (bs cs : List ℕ) → ((t : Bool) → ends_block t bs ≡ true → ends_block t (bs ++ cs) ≡ true)
    → (if ends then true else ends_block star bs) ≡ true → (if ends then true else ends_block star (bs ++ cs)) ≡ true
closed-cases true star bs cs ih e = refl
closed-cases false star bs cs ih e = ih star e

pub ends_block-closed : (s : Bool) (bs cs : List ℕ) → ends_block s bs ≡ true → ends_block s (bs ++ cs) ≡ true
ends_block-closed s [] cs e = cc
ends_block-closed s (b ∷ bs) cs e = closed-cases (s && nat_eq b 47) (nat_eq b 42) bs cs (λ t h. ends_block-closed t bs cs h) e

pub taken-closed : (s : Bool) (bs rest : List ℕ) → ends_block s bs ≡ true → taken (Block s) (bs ++ newline ∷ rest) ≡ taken (Block s) bs
taken-closed s bs rest e = taken-newline (Block s) bs rest (open_after-block s bs ∙ ap not e)

-- a first piece is a comment that isn't closed exactly where one is open after all bytes
slash-cases : (line block : Bool) (c : ℕ) (cs : List ℕ) → nat_eq c 47 ≡ line → nat_eq c 42 ≡ block
    → opens (take (elim (if line then Some Line else (if block then Some (Block false) else None)) [ None ↦ 0 | Some t ↦ suc (taken t cs) ]) (c ∷ cs))
    ≡ (elim (if line then Some Line else (if block then Some (Block false) else None)) [ None ↦ false | Some t ↦ open_after t cs ])
slash-cases true true c cs e f = absurd (let x = eqb-true c 47 e in let y = eqb-true c 42 f in omega (arith, x, y))
slash-cases true false c cs e f = ap (λ x. if x then not (ends_block false (take (taken Line cs) cs)) else false) f ∙ sym (open_after-closed Line cs refl)
slash-cases false true c cs e f =
    ap (λ x. if x then not (ends_block false (take (taken (Block false) cs) cs)) else false) f
    ∙ ap not (ends_block-taken false cs)
    ∙ sym (open_after-block false cs)
slash-cases false false c cs e f = refl

opens-slash : (bs : List ℕ) → opens (take (taken Slash bs) bs) ≡ open_after Slash bs
unfolding taken
opens-slash [] = refl
opens-slash (c ∷ cs) = slash-cases (nat_eq c 47) (nat_eq c 42) c cs refl refl

start-closed : (word wide nought digit dot quote : Bool) (b : ℕ)
    → may_open (if word then (if wide then Wide else Word) else (if nought then Zero else (if digit then Number false false else (if dot then Dot else (if quote then Literal b false else Mark b))))) ≡ false
start-closed true true nought digit dot quote b = refl
start-closed true false nought digit dot quote b = refl
start-closed false wide true digit dot quote b = refl
start-closed false wide false true dot quote b = refl
start-closed false wide false false true quote b = refl
start-closed false wide false false false true b = refl
start-closed false wide false false false false b = refl

start_of-closed : (b : ℕ) → nat_eq b 47 ≡ false → may_open (start_of b) ≡ false
start_of-closed b e =
    ap (λ c. may_open (if is_word_start b then (if nat_eq b 76 then Wide else Word) else (if nat_eq b 48 then Zero else (if is_digit b then Number false false else (if nat_eq b 46 then Dot
    else (if is_quote b then Literal b false else (if c then Slash else Mark b))))))) e
    ∙ start-closed (is_word_start b) (nat_eq b 76) (nat_eq b 48) (is_digit b) (nat_eq b 46) (is_quote b) b

is_open-cases : (slash includes : Bool) (b : ℕ) (bs : List ℕ) → nat_eq b 47 ≡ slash → is_open (b ∷ take (further includes b bs) bs) ≡ open_after (start_of b) bs
is_open-cases true includes b bs e =
    subst (λ x. is_open (x ∷ take (further includes x bs) bs) ≡ open_after (start_of x) bs) (sym (eqb-true b 47 e))
    (ap (λ c. opens (take (if c then (elim (header_len bs) [ None ↦ taken Slash bs | Some n ↦ n ]) else taken Slash bs) bs)) (and-false includes) ∙ opens-slash bs)
is_open-cases false includes b bs e =
    ap (λ c. if c then opens (take (further includes b bs) bs) else false) e ∙ sym (open_after-closed (start_of b) bs (start_of-closed b e))

pub is_open-further : (includes : Bool) (b : ℕ) (bs : List ℕ) → is_open (b ∷ take (further includes b bs) bs) ≡ open_after (start_of b) bs
is_open-further includes b bs = is_open-cases (nat_eq b 47) includes b bs refl

-- a comment that isn't closed in these bytes
pub record Opened (b : ℕ) (bs : List ℕ) : Type 0 where
  pub rest : List ℕ
  pub slash : b ≡ 47
  pub star : bs ≡ 42 ∷ rest
  pub unclosed : ends_block false rest ≡ false

Opened-star : (line block : Bool) (c : ℕ) (cs : List ℕ) → nat_eq c 42 ≡ block
    → (elim (if line then Some Line else (if block then Some (Block false) else None)) [ None ↦ false | Some t ↦ open_after t cs ]) ≡ true → Opened 47 (c ∷ cs)
Opened-star true block c cs f e = absurd (false≢true (sym (open_after-closed Line cs refl) ∙ e))
Opened-star false true c cs f e =
    record { rest = cs; slash = refl; star = ap (λ x. x ∷ cs) (eqb-true c 42 f); unclosed = not-true (ends_block false cs) (sym (open_after-block false cs) ∙ e) }
Opened-star false false c cs f e = absurd (false≢true e)

Opened-slash : (bs : List ℕ) → open_after Slash bs ≡ true → Opened 47 bs
Opened-slash [] e = absurd (false≢true e)
Opened-slash (c ∷ cs) e = Opened-star (nat_eq c 47) (nat_eq c 42) c cs refl e

Opened-cases : (slash : Bool) (b : ℕ) (bs : List ℕ) → nat_eq b 47 ≡ slash → open_after (start_of b) bs ≡ true → Opened b bs
Opened-cases true b bs f e = subst (λ x. Opened x bs) (sym (eqb-true b 47 f)) (Opened-slash bs (subst (λ x. open_after (start_of x) bs ≡ true) (eqb-true b 47 f) e))
Opened-cases false b bs f e = absurd (false≢true (sym (open_after-closed (start_of b) bs (start_of-closed b f)) ∙ e))

pub Opened-piece : (includes : Bool) (b : ℕ) (bs : List ℕ) → is_open (b ∷ take (further includes b bs) bs) ≡ true → Opened b bs
Opened-piece includes b bs e = Opened-cases (nat_eq b 47) b bs refl (sym (is_open-further includes b bs) ∙ e)

-- a piece of a line that isn't such a comment is the text's
pub further-closed : (includes : Bool) (b : ℕ) (bs rest : List ℕ) → is_open (b ∷ take (further includes b bs) bs) ≡ false → further includes b (bs ++ newline ∷ rest) ≡ further includes b bs
further-closed includes b bs rest e = further-line includes b bs rest (sym (is_open-further includes b bs) ∙ e)

-- and such a comment goes on
pub further-open : (includes : Bool) (cs rest : List ℕ) → ends_block false cs ≡ false
    → further includes 47 (42 ∷ cs ++ newline ∷ rest) ≡ suc (length cs + suc (taken (Block false) rest))
unfolding taken
further-open includes cs rest e =
    ap (λ c. if c then (elim (header_len (42 ∷ cs ++ newline ∷ rest)) [ None ↦ taken Slash (42 ∷ cs ++ newline ∷ rest) | Some n ↦ n ]) else taken Slash (42 ∷ cs ++ newline ∷ rest)) (and-false includes)
    ∙ ap (λ n. suc n) (taken-over false cs rest e)
