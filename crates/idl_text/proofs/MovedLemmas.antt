-- Tokens don't depend on the numbers of lines but for the number that each has.
use Rattle.std.proofs.Common.{◌≡◌, ◌∙◌, ◌+◌, ◌-◌, ◌++◌, ◌∷◌, ℕ, zero, suc, Bool, true, false, List, [], take, refl, sym, ap, arith}
use Rattle.std.specs.Prelude.{if◌then◌else◌}
use Rattle.std.proofs.lemmas.List.{map-append, take-map}
use Rattle.std.proofs.lemmas.Simd.{map-map}
use Rattle.idl_source.specs.texts.Line.{newline}
use Rattle.idl_lex.specs.bytes.Context.{context_after, is_gap, is_include}
use Rattle.idl_text.specs.Moved.{moved_byte, moved_text, moved_token, moved_tokens}
use Rattle.idl_lex.specs.bytes.Piece.{is_piece, longest}
use Rattle.idl_lex.specs.bytes.Text.{Placed, bytes_of, front, is_continued, joined, numbered}
use Rattle.idl_lex.specs.tokens.Tokens.{piece_rest, spelled, token_if, token_of, tokens_after, tokens_in}
use Rattle.idl_lex.specs.declared.bytes.context.Context.{Context}
use Rattle.idl_lex.specs.declared.tokens.token.PlacedToken.{PlacedToken}

-- ---- texts

-- the bytes of a moved text are its own
bytes_of-moved : (down : ℕ) (text : List Placed) → bytes_of (moved_text down text) ≡ bytes_of text
bytes_of-moved down [] = refl
bytes_of-moved down (p ∷ text) = ap (λ bytes. p.byte ∷ bytes) (bytes_of-moved down text)

-- and so are those of a beginning of it
bytes_of-take-moved : (down n : ℕ) (text : List Placed) → bytes_of (take n (moved_text down text)) ≡ bytes_of (take n text)
bytes_of-take-moved down n text = ap bytes_of (take-map (moved_byte down) n text) ∙ bytes_of-moved down (take n text)

-- bytes of a line further down
numbered-moved : (down number : ℕ) (bytes : List ℕ) → numbered (number + down) bytes ≡ moved_text down (numbered number bytes)
numbered-moved down number [] = refl
numbered-moved down number (b ∷ bytes) = ap (λ text. record { byte = b; line = number + down } ∷ text) (numbered-moved down number bytes)

next_number : (down number : ℕ) → (number + down) + 1 ≡ (number + 1) + down
next_number down number = omega arith

-- the joined text of lines further down
pub joined-moved : (down number : ℕ) (lines : List (List ℕ)) → joined (number + down) lines ≡ moved_text down (joined number lines)
unfolding joined
joined-moved down number [] = refl
joined-moved down number (bytes ∷ []) = numbered-moved down number (bytes ++ newline ∷ [])
joined-moved down number (bytes ∷ next ∷ lines) = by (is_continued bytes) (ap (λ n. joined n (next ∷ lines)) (next_number down number) ∙ joined-moved down (number + 1) (next ∷ lines))
  where
    by : (b : Bool) → joined ((number + down) + 1) (next ∷ lines) ≡ moved_text down (joined (number + 1) (next ∷ lines))
        → (if b then numbered (number + down) (front bytes) ++ joined ((number + down) + 1) (next ∷ lines) else numbered (number + down) (bytes ++ newline ∷ []) ++ joined ((number + down) + 1) (next ∷ lines))
        ≡ moved_text down (if b then numbered number (front bytes) ++ joined (number + 1) (next ∷ lines) else numbered number (bytes ++ newline ∷ []) ++ joined (number + 1) (next ∷ lines))
    by true later = (λ i. numbered-moved down number (front bytes) i ++ later i) ∙ sym (map-append (moved_byte down) (numbered number (front bytes)) (joined (number + 1) (next ∷ lines)))
    by false later = (λ i. numbered-moved down number (bytes ++ newline ∷ []) i ++ later i) ∙ sym (map-append (moved_byte down) (numbered number (bytes ++ newline ∷ [])) (joined (number + 1) (next ∷ lines)))

-- ---- tokens

-- the token that a piece is
token_if-moved : (down : ℕ) (c : Context) (piece : List ℕ) (line : ℕ) → token_if c piece (line + down) ≡ moved_tokens down (token_if c piece line)
token_if-moved down c piece line = by (is_gap piece)
  where
    by : (b : Bool) → (if b then [] else token_of c (spelled piece) (line + down) ∷ []) ≡ moved_tokens down (if b then [] else token_of c (spelled piece) line ∷ [])
    by true = refl
    by false = refl

-- the tokens from a piece on, by its bytes and how many are after its first
abbrev from_piece_of : Context → ℕ → List Placed → List ℕ → ℕ → List PlacedToken
from_piece_of c line text piece rest = token_if c piece line ++ tokens_after (context_after c piece) rest text

-- the tokens of a moved text are its own, moved
pub tokens_after-moved : (down : ℕ) (c : Context) (n : ℕ) (text : List Placed) → tokens_after c n (moved_text down text) ≡ moved_tokens down (tokens_after c n text)
unfolding tokens_after
tokens_after-moved down c n [] = refl
tokens_after-moved down c (suc n) (p ∷ text) = tokens_after-moved down c n text
tokens_after-moved down c zero (p ∷ text) =
    let here : ℕ = piece_rest c p text in
    let rest : piece_rest c (moved_byte down p) (moved_text down text) ≡ here =
    ap (λ bytes. longest (is_piece (is_include c.beginning)) (p.byte ∷ bytes) - 1) (bytes_of-moved down text) in
    let piece : List ℕ = p.byte ∷ bytes_of (take here text) in
    let same : p.byte ∷ bytes_of (take (piece_rest c (moved_byte down p) (moved_text down text)) (moved_text down text)) ≡ piece =
    ap (λ k. p.byte ∷ bytes_of (take k (moved_text down text))) rest ∙ ap (λ bytes. p.byte ∷ bytes) (bytes_of-take-moved down here text) in
    (λ i. from_piece_of c (p.line + down) (moved_text down text) (same i) (rest i))
    ∙ (λ i. token_if-moved down c piece p.line i ++ tokens_after-moved down (context_after c piece) here text i)
    ∙ sym (map-append (moved_token down) (token_if c piece p.line) (tokens_after (context_after c piece) here text))

-- ---- tokens elsewhere

-- they are the same
pub tokens_in-moved : (down : ℕ) (tokens : List PlacedToken) → tokens_in (moved_tokens down tokens) ≡ tokens_in tokens
tokens_in-moved down tokens = map-map (λ (t : PlacedToken). t.token) (moved_token down) tokens
