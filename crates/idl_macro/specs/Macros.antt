-- The macros of a root.
use Rattle.std.specs.Prelude.{ℕ, List, Option, None, Some}
use Rattle.std.specs.Map.{lookup}
use Rattle.std.specs.Str.{bytes_eq}
use Rattle.idl_memo.specs.Query.{Done, Ask}
use Rattle.idl_event.specs.Expanding.{Expanding}
use Rattle.idl_event.specs.declared.asked.key.RootAnswer.{RootAnswer}
use Rattle.idl_event.specs.declared.asked.key.RootAnswer.TheVariants as answer
use Rattle.idl_event.specs.declared.asked.key.RootKey.TheVariants as key
use Rattle.idl_lex.specs.tokens.Tokens.{Token, tokens_in, tokens_of}

-- what the root itself has said of words: the tokens of a macro's body, or nothing where the macro
-- was removed
abbrev pub Definitions : Type 0
Definitions = List (List ℕ × Option (List Token))

-- the tokens of a macro's body, which is a file of one line
abbrev pub body_in : Option RootAnswer → Option (List Token)
body_in None = None
body_in (Some (answer.Macro text)) = Some (tokens_in (tokens_of text))
body_in (Some (answer.File text)) = None
body_in (Some (answer.Search directories)) = None

-- the macro with this word: what the root said of it, else what is answered
unfoldable pub macro_of : Definitions → List ℕ → Expanding (Option (List Token))
macro_of definitions word = elim (lookup (bytes_eq word) definitions) [
  | None ↦ Ask (key.Macro word) (λ found. Done (body_in found))
  | Some body ↦ Done body
]
