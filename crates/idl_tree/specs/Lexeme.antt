-- Tokens, as the grammar knows them.
use Rattle.std.specs.Prelude.{ℕ, List, [], ◌∷◌, map, Option, None, Some}
use Rattle.idl_lex.specs.kinds.Kind.{kind_of, name_of}
use Rattle.idl_lex.specs.kinds.Literal.{literal_value}
use Rattle.idl_lex.specs.kinds.Number.{integer_value}
use Rattle.idl_lex.specs.declared.kinds.keyword.Keyword.{Keyword}
use Rattle.idl_lex.specs.declared.kinds.kind.TokenKind.{TokenKind}
use Rattle.idl_lex.specs.declared.kinds.kind.TokenKind.TheVariants as kind
use Rattle.idl_lex.specs.declared.kinds.mark.Mark.{Mark}

-- A keyword, a mark, an identifier without its escape, a literal by its value, or what stands in
-- no tree.
pub data Lexeme : Type 0 where
  Word : Keyword → Lexeme
  Punctuation : Mark → Lexeme
  Identifier : List ℕ → Lexeme
  Integer : ℕ → Lexeme
  Character : ℕ → Lexeme
  WideCharacter : ℕ → Lexeme
  Text : List ℕ → Lexeme
  WideText : List ℕ → Lexeme
  Other : Lexeme

abbrev pub Lexemes : Type 0
Lexemes = List Lexeme

-- what has this value, if there is one
abbrev pub valued : {A : Type 0} → (A → Lexeme) → Option A → Lexeme
valued lexeme None = Other
valued lexeme (Some value) = lexeme value

-- the one of these characters, if they are one
abbrev pub only_one : List ℕ → Option ℕ
only_one (c ∷ []) = Some c
only_one others = None

abbrev pub one_character : Option (List ℕ) → Option ℕ
one_character None = None
one_character (Some characters) = only_one characters

-- what the grammar knows of a token of this kind
abbrev pub lexeme_by : TokenKind → List ℕ → Lexeme
lexeme_by (kind.Accepted keyword) token = Word keyword
lexeme_by (kind.Punctuation mark) token = Punctuation mark
lexeme_by kind.Identifier token = valued Identifier (name_of token)
lexeme_by kind.Escaped token = valued Identifier (name_of token)
lexeme_by kind.Integer token = valued Integer (integer_value token)
lexeme_by kind.Character token = valued Character (one_character (literal_value token))
lexeme_by kind.WideCharacter token = valued WideCharacter (one_character (literal_value token))
lexeme_by kind.String token = valued Text (literal_value token)
lexeme_by kind.WideString token = valued WideText (literal_value token)
lexeme_by others token = Other

-- what the grammar knows of a token, which is its bytes
unfoldable pub lexeme_of : List ℕ → Lexeme
lexeme_of token = lexeme_by (kind_of token) token

-- tokens, as the grammar knows them
abbrev pub lexemes : List (List ℕ) → Lexemes
lexemes tokens = map lexeme_of tokens
