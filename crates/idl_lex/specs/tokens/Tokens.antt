-- The tokens of a text: each piece is the longest that can begin at its place, and those that are
-- no tokens are dropped.
use Rattle.std.specs.Prelude.{◌≡◌, Bool, true, ⊤, ℕ, zero, suc, ◌-◌, List, [], ◌∷◌, ◌++◌, codes, map, not, take, if◌then◌else◌}
use Rattle.std.specs.List.{prefix_len}
use Rattle.std.specs.Str.{bytes_eq}
use Rattle.idl_lex.specs.bytes.Context.{line_start, is_nothing, is_include, is_gap, context_after}
use Rattle.idl_lex.specs.kinds.Kind.{begins_block}
use Rattle.idl_lex.specs.bytes.Piece.{is_piece, longest}
use Rattle.idl_lex.specs.bytes.Text.{Placed, bytes_of, joined}
use Rattle.idl_lex.specs.declared.bytes.context.Context.{Context}
use Rattle.idl_lex.specs.declared.tokens.token.PlacedToken.{PlacedToken}

-- a token, as contracts see it: its bytes as written
abbrev pub Token : Type 0
Token = List ℕ

-- the token with this spelling where it stands: on this line, and with this before it
abbrev pub token_of : Context → List ℕ → ℕ → PlacedToken
token_of c spelling line =
    record {
      token = spelling;
      line = line;
      starts_line = is_nothing c.beginning;
      follows_word =
          c.follows_word;
    }

-- a token as it is spelled: a comment that isn't closed is `/*`
abbrev pub spelled : List ℕ → List ℕ
spelled piece = if begins_block piece then codes "/*" else piece

-- the token that a piece is, if it is one
abbrev pub token_if : Context → List ℕ → ℕ → List PlacedToken
token_if c piece line = if is_gap piece then [] else token_of c (spelled piece) line ∷ []

-- how many bytes the longest piece has after its first one
abbrev pub piece_rest : Context → Placed → List Placed → ℕ
piece_rest c first text =
    longest (is_piece (is_include c.beginning)) (first.byte ∷ bytes_of text) - 1

-- the tokens after the first n bytes
unfoldable pub tokens_after : Context → ℕ → List Placed → List PlacedToken
tokens_after c n [] = []
tokens_after c (suc n) (p ∷ text) = tokens_after c n text
tokens_after c zero (p ∷ text) =
    token_if c (p.byte ∷ bytes_of (take (piece_rest c p text) text)) p.line
    ++ tokens_after (context_after c (p.byte ∷ bytes_of (take (piece_rest c p text) text)))
    (piece_rest c p text) text

-- the tokens of a file of these lines, the first of which has the number 1
unfoldable pub tokens_of : List (List ℕ) → List PlacedToken
tokens_of lines = tokens_after line_start zero (joined 1 lines)

-- what the tokens are, wherever they stand
abbrev pub tokens_in : List PlacedToken → List Token
tokens_in tokens = map (λ t. t.token) tokens

-- how many tokens stand on a line after its first one: those before the next token that starts a
-- line
abbrev pub followers_on_line : List PlacedToken → ℕ
followers_on_line tokens = prefix_len (λ t. not t.starts_line) tokens

-- the lines of the tokens after the first n
abbrev pub lines_after : ℕ → List PlacedToken → List (List PlacedToken)
lines_after n [] = []
lines_after (suc n) (t ∷ tokens) = lines_after n tokens
lines_after zero (t ∷ tokens) =
    (t ∷ take (followers_on_line tokens) tokens) ∷ lines_after (followers_on_line tokens) tokens

-- tokens by lines
unfoldable pub lines_of : List PlacedToken → List (List PlacedToken)
lines_of tokens = lines_after zero tokens

-- a line of text: it begins with no `#`
abbrev pub is_text : List PlacedToken → Bool
is_text [] = true
is_text (t ∷ tokens) = not (bytes_eq t.token (codes "#"))

-- the first of them starts a line, if there is one
abbrev pub BeginsLine : List PlacedToken → Type 0
BeginsLine [] = ⊤
BeginsLine (t ∷ tokens) = t.starts_line ≡ true
