-- Brackets that stand in one another.
use Rattle.std.specs.Prelude.{ℕ, zero, suc, List, [], ◌∷◌, Option, None, Some, Bool, true, false, IsTrue}
use Rattle.idl_lex.specs.declared.kinds.mark.Mark.TheVariants.{OpenBrace, OpenParenthesis, OpenBracket, Less, CloseBrace, CloseParenthesis, CloseBracket, Greater}
use Rattle.idl_tree.specs.Lexeme.{Lexeme, Lexemes, Punctuation}

-- what a token is among brackets
pub data Side : Type 0 where
  Opening : Side
  Closing : Side
  Neither : Side

abbrev pub side_of : Lexeme → Side
side_of (Punctuation OpenBrace) = Opening
side_of (Punctuation OpenParenthesis) = Opening
side_of (Punctuation OpenBracket) = Opening
side_of (Punctuation Less) = Opening
side_of (Punctuation CloseBrace) = Closing
side_of (Punctuation CloseParenthesis) = Closing
side_of (Punctuation CloseBracket) = Closing
side_of (Punctuation Greater) = Closing
side_of _ = Neither

-- how many levels are left behind a token, if it doesn't open one where none is left
abbrev pub left_behind : Side → ℕ → Option ℕ
left_behind Opening zero = None
left_behind Opening (suc levels) = Some levels
left_behind Closing levels = Some (suc levels)
left_behind Neither levels = Some levels

-- where so many levels are left, no bracket of these tokens opens one more
abbrev pub is_within : Option ℕ → Lexemes → Bool
is_within None tokens = false
is_within (Some levels) [] = true
is_within (Some levels) (t ∷ tokens) = is_within (left_behind (side_of t) levels) tokens

abbrev pub IsWithin : ℕ → Lexemes → Type 0
IsWithin levels tokens = IsTrue (is_within (Some levels) tokens)
