-- Texts of a file: lines that follow one another, no directive among them, and the words that stand
-- in them first.
-- Words may be given more than once: who asks for each word of a text asks for no more than for
-- each of these, in their order.
use Rattle.std.specs.Prelude.{◌≡◌, ◌⊎◌, ◌<◌, ◌≤◌, ℕ, false, List, [], ◌∷◌, ◌++◌, drop, get_or, length, map, take}
use Rattle.std.specs.List.{All, Contains}
use Rattle.idl_lex.specs.kinds.Word.{is_word}
use Rattle.idl_lex.specs.tokens.Tokens.{Token, lines_of}
use Rattle.idl_lex.specs.declared.tokens.token.PlacedToken.{PlacedToken}
use Rattle.idl_text.specs.Line.{Text, lines_from}
use Rattle.idl_text.specs.declared.texts.table.TextSpan.{TextSpan}
use Rattle.idl_text.specs.declared.texts.table.TextTable.{TextTable}

-- a token that is no word, or one of these
abbrev pub IsMet : List Token → PlacedToken → Type 0
IsMet words t = (is_word t.token ≡ false) ⊎ Contains words t.token

-- a token that is spelled so stands in a text behind such as are met
pub record Brings (text : List PlacedToken) (met : List Token) (word : Token) : Type 0 where
  pub front : List PlacedToken
  pub first : PlacedToken
  pub behind : List PlacedToken
  pub all : text ≡ front ++ first ∷ behind
  pub is : first.token ≡ word
  pub known : All (IsMet met) front

-- The words of a text, in the order in which they stand there first: each of them behind no others
-- than those before it.
pub record AreWordsOf (text : List PlacedToken) (words : List Token) : Type 0 where
  pub each :
      (index : ℕ) → index < length words → Brings text (take index words) (get_or words index [])
  pub all : All (IsMet words) text

-- so many of these tokens come first that are lines of text, and they have these words
pub record BeginsText (tokens : List PlacedToken) (count : ℕ) (found : List Token) : Type 0 where
  pub within : count ≤ length tokens
  pub lines :
      lines_from tokens ≡ map Text (lines_of (take count tokens)) ++ lines_from (drop count tokens)
  pub words : AreWordsOf (take count tokens) found

-- a text of a file with these tokens
pub record IsTextOf (tokens : List PlacedToken) (text : TextSpan) : Type 0 where
  pub some : 0 < text.count
  pub is : BeginsText (drop text.from tokens) text.count text.words.items

abbrev pub AreTextsOf : List PlacedToken → TextTable → Type 0
AreTextsOf tokens table = All (IsTextOf tokens) table.texts.items
