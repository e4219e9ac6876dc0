-- What tokens stand in a text, as a relation: pieces end to end are the text, and none of them can
-- be longer.
use Rattle.std.specs.Prelude.{◌≡◌, ℕ, suc, ◌<◌, ◌≤◌, true, false, List, [], ◌∷◌, ◌++◌, length, take, drop}
use Rattle.idl_lex.specs.bytes.Context.{is_include, context_after}
use Rattle.idl_lex.specs.bytes.Piece.{is_piece}
use Rattle.idl_lex.specs.bytes.Text.{Placed, bytes_of}
use Rattle.idl_lex.specs.tokens.Tokens.{token_if}
use Rattle.idl_lex.specs.declared.bytes.context.Context.{Context}
use Rattle.idl_lex.specs.declared.tokens.token.PlacedToken.{PlacedToken}

-- the first n bytes of a text
abbrev pub first_bytes : ℕ → List Placed → List ℕ
first_bytes n text = bytes_of (take n text)

-- the first n bytes are a piece, and no more of them are
pub record IsLongest (c : Context) (text : List Placed) (n : ℕ) : Type 0 where
  pub within : n ≤ length text
  pub is : is_piece (is_include c.beginning) (first_bytes n text) ≡ true
  pub no_longer : (m : ℕ) → n < m → m ≤ length text
      → is_piece (is_include c.beginning) (first_bytes m text) ≡ false

-- the tokens of a text before which this stands on its line: those of its longest first piece, and
-- of the text after it
pub data AreTokensOf : Context → List Placed → List PlacedToken → Type 0 where
  nothing : (c : Context) → AreTokensOf c [] []
  piece : (c : Context) (p : Placed) (text : List Placed) (n : ℕ) (tokens : List PlacedToken)
      → IsLongest c (p ∷ text) (suc n)
      → AreTokensOf (context_after c (first_bytes (suc n) (p ∷ text))) (drop n text) tokens
      → AreTokensOf c (p ∷ text) (token_if c (first_bytes (suc n) (p ∷ text)) p.line ++ tokens)
