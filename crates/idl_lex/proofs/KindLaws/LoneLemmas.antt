-- A mark that stands alone: its piece, its token and what stands behind it are told by its byte.
use Rattle.std.proofs.Common.{◌≡◌, ◌∙◌, ◌++◌, ℕ, ◌+◌, ◌<◌, nat_eq, Bool, true, false, ◌||◌, List, [], ◌∷◌, length, drop, get_or, refl, sym, ap, subst, arith}
use Rattle.std.proofs.lemmas.Bool.{false≢true, eqb-true}
use Rattle.idl_lex.proofs.TokensLemmas.{EndsAt, piece_of, piece_of-cons, tokens_after-piece_of}
use Rattle.idl_lex.proofs.KindLaws.WordLemmas.{further-plain, unpaired}
use Rattle.idl_lex.specs.bytes.Context.{context_after, is_include}
use Rattle.idl_lex.specs.tokens.Lexer.{ended, is_open}
use Rattle.idl_lex.specs.tokens.Logical.{line_at}
use Rattle.idl_lex.specs.kinds.Marks.{is_lone_mark}
use Rattle.idl_lex.specs.bytes.Scan.{start_of, taken, further}
use Rattle.idl_lex.specs.bytes.Text.{Placed, bytes_of}
use Rattle.idl_lex.specs.tokens.Tokens.{token_if, token_of, tokens_after}
use Rattle.idl_lex.specs.declared.bytes.context.Context.{Context}

-- the lone marks
record Lone (P : ℕ → Type 0) : Type 0 where
  semicolon : P 59
  comma : P 44
  open_brace : P 123
  close_brace : P 125
  open_parenthesis : P 40
  close_parenthesis : P 41
  open_bracket : P 91
  close_bracket : P 93

-- one of some bytes, or another
either : (P : ℕ → Type 0) (b n : ℕ) (others same : Bool) → nat_eq b n ≡ same → P n → (others ≡ true → P b) → others || same ≡ true → P b
either P b n true same e here there h = there refl
either P b n false true e here there h = subst P (sym (eqb-true b n e)) here
either P b n false false e here there h = absurd (false≢true h)

one_of : (P : ℕ → Type 0) → Lone P → (b : ℕ) → is_lone_mark b ≡ true → P b
one_of P lone b h =
    either P b 93 _ (nat_eq b 93) refl lone.close_bracket
    (either P b 91 _ (nat_eq b 91) refl lone.open_bracket
    (either P b 41 _ (nat_eq b 41) refl lone.close_parenthesis
    (either P b 40 _ (nat_eq b 40) refl lone.open_parenthesis
    (either P b 125 _ (nat_eq b 125) refl lone.close_brace
    (either P b 123 _ (nat_eq b 123) refl lone.open_brace
    (either P b 44 (nat_eq b 59) (nat_eq b 44) refl lone.comma
    (λ e. subst P (sym (eqb-true b 59 e)) lone.semicolon))))))) h

-- the longest piece that begins with it
lone-taken : (bs : List ℕ) → Lone (λ b. taken (start_of b) bs ≡ 0)
unfolding taken
lone-taken [] = record { semicolon = refl; comma = refl; open_brace = refl; close_brace = refl; open_parenthesis = refl; close_parenthesis = refl; open_bracket = refl; close_bracket = refl }
lone-taken (b ∷ bs) = record {
  semicolon = unpaired (nat_eq 59 b) (nat_eq b 61) bs;
  comma = unpaired (nat_eq 44 b) (nat_eq b 61) bs;
  open_brace = unpaired (nat_eq 123 b) (nat_eq b 61) bs;
  close_brace = unpaired (nat_eq 125 b) (nat_eq b 61) bs;
  open_parenthesis = unpaired (nat_eq 40 b) (nat_eq b 61) bs;
  close_parenthesis = unpaired (nat_eq 41 b) (nat_eq b 61) bs;
  open_bracket = unpaired (nat_eq 91 b) (nat_eq b 61) bs;
  close_bracket = unpaired (nat_eq 93 b) (nat_eq b 61) bs;
}

lone-less : (b : ℕ) → is_lone_mark b ≡ true → nat_eq b 60 ≡ false
lone-less b h = one_of (λ b. nat_eq b 60 ≡ false)
    (record { semicolon = refl; comma = refl; open_brace = refl; close_brace = refl; open_parenthesis = refl; close_parenthesis = refl; open_bracket = refl; close_bracket = refl }) b h

lone-closed : (b : ℕ) → is_lone_mark b ≡ true → is_open (b ∷ []) ≡ false
lone-closed b h = one_of (λ b. is_open (b ∷ []) ≡ false)
    (record { semicolon = refl; comma = refl; open_brace = refl; close_brace = refl; open_parenthesis = refl; close_parenthesis = refl; open_bracket = refl; close_bracket = refl }) b h

lone-token : (c : Context) (line b : ℕ) → is_lone_mark b ≡ true → token_if c (b ∷ []) line ≡ token_of c (b ∷ []) line ∷ []
lone-token c line b h = one_of (λ b. token_if c (b ∷ []) line ≡ token_of c (b ∷ []) line ∷ [])
    (record { semicolon = refl; comma = refl; open_brace = refl; close_brace = refl; open_parenthesis = refl; close_parenthesis = refl; open_bracket = refl; close_bracket = refl }) b h

-- the tokens from it on
pub tokens_after-lone : (c : Context) (line : List Placed) (i last_number : ℕ) (rest : List Placed) → i < length line → is_lone_mark (get_or (bytes_of line) i 0) ≡ true
    → tokens_after c 0 (drop i line ++ ended last_number rest)
    ≡ token_of c (get_or (bytes_of line) i 0 ∷ []) (line_at line i)
    ∷ tokens_after (context_after c (get_or (bytes_of line) i 0 ∷ [])) 0 (drop (i + 1) line ++ ended last_number rest)
tokens_after-lone c line i last_number rest lt lone =
    let b = get_or (bytes_of line) i 0 in
    let bs = drop (i + 1) (bytes_of line) in
    let none : further (is_include c.beginning) b bs ≡ 0 =
    further-plain (is_include c.beginning) b bs (lone-less b lone) ∙ one_of (λ b. taken (start_of b) bs ≡ 0) (lone-taken bs) b lone in
    let is : EndsAt c line i (i + 1) = omega (arith, none) in
    let piece : piece_of line i (i + 1) ≡ b ∷ [] = piece_of-cons line i (i + 1) 0 lt (omega arith) in
    tokens_after-piece_of c line i (i + 1) last_number rest lt is (ap is_open piece ∙ lone-closed b lone)
    ∙ ap (λ bs. token_if c bs (line_at line i) ++ tokens_after (context_after c bs) 0 (drop (i + 1) line ++ ended last_number rest)) piece
    ∙ ap (λ ts. ts ++ tokens_after (context_after c (b ∷ [])) 0 (drop (i + 1) line ++ ended last_number rest)) (lone-token c (line_at line i) b lone)
