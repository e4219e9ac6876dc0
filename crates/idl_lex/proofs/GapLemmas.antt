-- Gaps are the pieces that are no tokens, and a text with columns is the joined text.
use Rattle.std.proofs.Common.{◌≡◌, ◌∙◌, ◌+◌, ◌++◌, ℕ, zero, suc, nat_eq, Bool, true, false, ◌&&◌, None, Some, if◌then◌else◌, List, [], ◌∷◌, append-nil, length, take, refl, sym, ap}
use Rattle.std.proofs.lemmas.Bool.{eqb-true, false≢true}
use Rattle.std.proofs.lemmas.List.{map-append}
use Rattle.idl_source.specs.texts.Line.{newline}
use Rattle.idl_lex.proofs.KindLaws.WordLemmas.{further-plain, further-white}
use Rattle.idl_lex.proofs.LineLemmas.{ends_block-taken, taken-open}
use Rattle.idl_lex.specs.bytes.Byte.{is_space}
use Rattle.idl_lex.specs.bytes.Columns.{bytes_in, gap_length, placed_text, standing, text_from, text_of_line}
use Rattle.idl_lex.specs.bytes.Context.{closes, ends_block, is_gap}
use Rattle.idl_lex.specs.bytes.Scan.{further, taken}
use Rattle.idl_lex.specs.bytes.Text.{Placed, bytes_of, front, is_continued, joined, numbered}
use Rattle.idl_lex.specs.kinds.Kind.{begins_block, begins_star}
use Rattle.idl_lex.specs.declared.bytes.state.Inside.TheVariants.{Block, Line, Slash}
use Rattle.idl_lex.specs.declared.bytes.text_left.TextByte.{TextByte}

-- ---- the joined text

placed_text-standing : (number column : ℕ) (bytes : List ℕ) → placed_text (standing number column bytes) ≡ numbered number bytes
unfolding standing
placed_text-standing number column [] = refl
placed_text-standing number column (b ∷ bytes) = ap (λ (ps : List Placed). record { byte = b; line = number } ∷ ps) (placed_text-standing number (column + 1) bytes)

placed_text-append : (a b : List TextByte) → placed_text (a ++ b) ≡ placed_text a ++ placed_text b
placed_text-append a b = map-append (λ (b : TextByte). record { byte = b.byte; line = b.line }) a b

pub placed_text-from : (number : ℕ) (lines : List (List ℕ)) → placed_text (text_from number lines) ≡ joined number lines
unfolding text_from joined
placed_text-from number [] = refl
placed_text-from number (bytes ∷ []) =
    placed_text-append (standing number 0 (bytes ++ newline ∷ [])) []
    ∙ append-nil (placed_text (standing number 0 (bytes ++ newline ∷ [])))
    ∙ placed_text-standing number 0 (bytes ++ newline ∷ [])
placed_text-from number (bytes ∷ next ∷ lines) =
    placed_text-append (standing number 0 (text_of_line bytes (next ∷ lines))) (text_from (number + 1) (next ∷ lines))
    ∙ (λ i. placed_text-standing number 0 (text_of_line bytes (next ∷ lines)) i ++ placed_text-from (number + 1) (next ∷ lines) i)
    ∙ by (is_continued bytes)
  where
    by : (b : Bool) → numbered number (if b then front bytes else bytes ++ newline ∷ []) ++ joined (number + 1) (next ∷ lines)
        ≡ (if b then numbered number (front bytes) ++ joined (number + 1) (next ∷ lines) else numbered number (bytes ++ newline ∷ []) ++ joined (number + 1) (next ∷ lines))
    by true = refl
    by false = refl

pub bytes_of-placed_text : (text : List TextByte) → bytes_of (placed_text text) ≡ bytes_in text
bytes_of-placed_text [] = refl
bytes_of-placed_text (b ∷ text) = ap (λ bs. b.byte ∷ bs) (bytes_of-placed_text text)

pub bytes_in-take : (n : ℕ) (text : List TextByte) → bytes_in (take n text) ≡ take n (bytes_in text)
bytes_in-take zero text = refl
bytes_in-take (suc n) [] = refl
bytes_in-take (suc n) (b ∷ text) = ap (λ bs. b.byte ∷ bs) (bytes_in-take n text)

-- ---- gaps

-- what a piece takes behind a `/` closes a comment, if all that stands there does
closes-cases : (line block : Bool) (c : ℕ) (cs : List ℕ) → nat_eq c 47 ≡ line → nat_eq c 42 ≡ block
    → closes (take (elim (if line then Some Line else (if block then Some (Block false) else None)) [ None ↦ 0 | Some t ↦ suc (taken t cs) ]) (c ∷ cs)) ≡ (if line then true else (if block then ends_block false cs else false))
closes-cases true block c cs e f = ap (λ x. if x then true else (if nat_eq c 42 then ends_block false (take (taken Line cs) cs) else false)) e
closes-cases false true c cs e f =
    ap (λ x. if x then true else (if nat_eq c 42 then ends_block false (take (taken (Block false) cs) cs) else false)) e
    ∙ ap (λ x. if x then ends_block false (take (taken (Block false) cs) cs) else false) f
    ∙ ends_block-taken false cs
closes-cases false false c cs e f = refl

closes-taken : (bs : List ℕ) → closes (take (taken Slash bs) bs) ≡ closes bs
unfolding taken
closes-taken [] = refl
closes-taken (c ∷ cs) = closes-cases (nat_eq c 47) (nat_eq c 42) c cs refl refl

further-slash : (includes : Bool) (b : ℕ) (bs : List ℕ) → nat_eq b 47 ≡ true → further includes b bs ≡ taken Slash bs
further-slash includes b bs slash = ap (λ x. further includes x bs) (eqb-true b 47 slash) ∙ further-plain includes 47 bs refl

-- what a text begins with is a gap just where its first piece is one, and as long
gap-cases : (white slash : Bool) (includes : Bool) (b : ℕ) (bs : List ℕ) → is_space b ≡ white → nat_eq b 47 ≡ slash
    → (if white then 1 else (if slash && closes bs then suc (taken Slash bs) else 0))
    ≡ (if (if white then true else (if slash then closes (take (further includes b bs) bs) else false)) then suc (further includes b bs) else 0)
gap-cases true slash includes b bs e f = ap (λ n. suc n) (sym (further-white includes b bs e))
gap-cases false true includes b bs e f =
    let n : further includes b bs ≡ taken Slash bs = further-slash includes b bs f in
    ap (λ c. if c then suc (taken Slash bs) else 0) (sym (closes-taken bs))
    ∙ ap (λ k. if closes (take k bs) then suc k else 0) (sym n)
gap-cases false false includes b bs e f = refl

pub gap_length-piece : (includes : Bool) (b : ℕ) (bs : List ℕ) → gap_length (b ∷ bs) ≡ (if is_gap (b ∷ take (further includes b bs) bs) then suc (further includes b bs) else 0)
gap_length-piece includes b bs = gap-cases (is_space b) (nat_eq b 47) includes b bs refl refl

-- a comment that is no gap goes to the end of the text
open-cases : (line block : Bool) (c : ℕ) (cs : List ℕ) → nat_eq c 47 ≡ line → nat_eq c 42 ≡ block
    → (if line then true else (if block then ends_block false cs else false)) ≡ false
    → begins_block (47 ∷ take (elim (if line then Some Line else (if block then Some (Block false) else None)) [ None ↦ 0 | Some t ↦ suc (taken t cs) ]) (c ∷ cs)) ≡ true
    → ◌≡◌ {A = ℕ} (elim (if line then Some Line else (if block then Some (Block false) else None)) [ None ↦ 0 | Some t ↦ suc (taken t cs) ]) (suc (length cs))
open-cases true block c cs e f gap begins = absurd (false≢true (sym gap))
open-cases false true c cs e f gap begins = ap (λ n. suc n) (taken-open false cs gap)
open-cases false false c cs e f gap begins = absurd (false≢true begins)

taken-slash-open : (bs : List ℕ) → closes bs ≡ false → begins_block (47 ∷ take (taken Slash bs) bs) ≡ true → taken Slash bs ≡ length bs
unfolding taken
taken-slash-open [] gap begins = refl
taken-slash-open (c ∷ cs) gap begins = open-cases (nat_eq c 47) (nat_eq c 42) c cs refl refl gap begins

begins-slash : (slash : Bool) (b : ℕ) (bs : List ℕ) → nat_eq b 47 ≡ slash → begins_block (b ∷ bs) ≡ true → slash ≡ true
begins-slash true b bs e begins = refl
begins-slash false b bs e begins = absurd (false≢true (ap (λ c. c && begins_star bs) (sym e) ∙ begins))

gap-slash : (white : Bool) (rest : List ℕ) → (if white then true else closes rest) ≡ false → closes rest ≡ false
gap-slash true rest e = absurd (false≢true (sym e))
gap-slash false rest e = e

pub further-unclosed : (includes : Bool) (b : ℕ) (bs : List ℕ) → is_gap (b ∷ take (further includes b bs) bs) ≡ false → begins_block (b ∷ take (further includes b bs) bs) ≡ true → further includes b bs ≡ length bs
further-unclosed includes b bs gap begins =
    let slash : nat_eq b 47 ≡ true = begins-slash (nat_eq b 47) b (take (further includes b bs) bs) refl begins in
    let n : further includes b bs ≡ taken Slash bs = further-slash includes b bs slash in
    let is : b ≡ 47 = eqb-true b 47 slash in
    let unclosed : closes bs ≡ false =
    sym (closes-taken bs) ∙ ap (λ k. closes (take k bs)) (sym n)
    ∙ gap-slash (is_space b) (take (further includes b bs) bs) (sym (ap (λ c. if is_space b then true else (if c then closes (take (further includes b bs) bs) else false)) slash) ∙ gap) in
    n ∙ taken-slash-open bs unclosed (ap (λ x. begins_block (x ∷ take (taken Slash bs) bs)) (sym is) ∙ ap (λ k. begins_block (b ∷ take k bs)) (sym n) ∙ begins)
