-- The next token.
use Rattle.std.specs.Prelude.{ℕ, List, Option, Some, None, Ok}
use Rattle.idl_lex.specs.declared.kinds.mark.Mark.{Mark}
use Rattle.idl_tree.specs.Lexeme.{Lexeme, Punctuation}
use Rattle.idl_tree.specs.reading.Reading.{Reader, ◌>>=◌, expect}
use Rattle.idl_tree.specs.reading.Tests.{is_mark}

-- the mark that a token is
abbrev pub mark_of : Option Lexeme → Option Mark
mark_of (Some (Punctuation mark)) = Some mark
mark_of _ = None

-- what was read, with a mark behind it
abbrev pub closed_with : {A : Type 0} → Mark → A → Reader A
closed_with mark read ts = expect (is_mark mark) ts >>= λ rest. Ok (read, rest)
