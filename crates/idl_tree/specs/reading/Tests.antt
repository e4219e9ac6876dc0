-- Single tokens.
use Rattle.std.specs.Prelude.{ℕ, List, length, drop, Option, Some, None, Result, Ok, Err, Bool, false}
use denote.Enum.Bare.{sameb}
use Rattle.idl_lex.specs.contracts.kinds.keyword.Keyword.{the_type as the_keywords}
use Rattle.idl_lex.specs.contracts.kinds.mark.Mark.{the_type as the_marks}
use Rattle.idl_lex.specs.declared.kinds.keyword.Keyword.{Keyword}
use Rattle.idl_lex.specs.declared.kinds.mark.Mark.{Mark}
use Rattle.idl_tree.specs.Lexeme.{Lexeme, Word, Punctuation, Identifier}
use Rattle.idl_tree.specs.reading.Reading.{Reader, ◌>>=◌, first, expect}

abbrev pub is_mark : Mark → Option Lexeme → Bool
is_mark m (Some (Punctuation found)) = sameb the_marks found m
is_mark m _ = false

abbrev pub is_word : Keyword → Option Lexeme → Bool
is_word k (Some (Word found)) = sameb the_keywords found k
is_word k _ = false

-- the keyword that a token is
abbrev pub keyword_of : Option Lexeme → Option Keyword
keyword_of (Some (Word keyword)) = Some keyword
keyword_of _ = None

-- a keyword that says it all
abbrev pub by_word : {A : Type 0} → Keyword → A → Reader A
by_word keyword value ts = expect (is_word keyword) ts >>= λ rest. Ok (value, rest)

abbrev pub picked : {A : Type 0} → Option A → List Lexeme → Result (A × List Lexeme) ℕ
picked None ts = Err (length ts)
picked (Some a) ts = Ok (a, drop 1 ts)

-- the token's value, if it has one
abbrev pub pick : {A : Type 0} → (Option Lexeme → Option A) → Reader A
pick f ts = picked (f (first ts)) ts

abbrev pub identifier_of : Option Lexeme → Option (List ℕ)
identifier_of (Some (Identifier s)) = Some s
identifier_of _ = None

abbrev pub identifier_at : Reader (List ℕ)
identifier_at = pick identifier_of
