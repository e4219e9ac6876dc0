-- The lines of a file, as the preprocessor reads them.
use Rattle.std.specs.Prelude.{ℕ, List, [], ◌∷◌, codes, map, if◌then◌else◌, unwrap_or}
use Rattle.std.specs.Str.{bytes_eq}
use Rattle.idl_lex.specs.tokens.Tokens.{lines_of, tokens_of}
use Rattle.idl_lex.specs.kinds.WordTable.{value_of}
use Rattle.idl_lex.specs.declared.tokens.token.PlacedToken.{PlacedToken}
use Rattle.idl_text.specs.declared.groups.kind.DirectiveKind.{DirectiveKind}
use Rattle.idl_text.specs.declared.groups.kind.DirectiveKind.TheVariants.{Alone, Opening, Elif, Else, Endif}
use Rattle.idl_text.specs.declared.groups.kind.Plain.TheVariants.{Include, Define, Undef, Error, Pragma, Ignored, Unknown}
use Rattle.idl_text.specs.declared.groups.kind.Test.TheVariants.{If, Ifdef, Ifndef}

-- a directive: its kind, the number of its line, its word, and the tokens after that
pub record Directive : Type 0 where
  pub kind : DirectiveKind
  pub line : ℕ
  pub word : PlacedToken
  pub operands : List PlacedToken

-- a line: tokens of the text, the null directive (`#` alone), or a directive
pub data Line : Type 0 where
  Text : List PlacedToken → Line
  NullDirective : ℕ → Line
  Directed : Directive → Line

-- the words of directives, each with its kind
unfoldable pub words : List (List ℕ × DirectiveKind)
words =
    (codes "include", Alone Include) ∷ (codes "define", Alone Define) ∷ (codes "undef", Alone Undef)
    ∷ (codes "if", Opening If) ∷ (codes "ifdef", Opening Ifdef) ∷ (codes "ifndef", Opening Ifndef)
    ∷ (codes "elif", Elif) ∷ (codes "else", Else) ∷ (codes "endif", Endif)
    ∷ (codes "error", Alone Error) ∷ (codes "pragma", Alone Pragma)
    ∷ (codes "warning", Alone Ignored) ∷ (codes "ident", Alone Ignored) ∷ []

-- the kind of the directive with this word
abbrev pub directive_kind : List ℕ → DirectiveKind
directive_kind word = unwrap_or (value_of words word) (Alone Unknown)

-- the line after a `#` with this number
abbrev pub after_hash : ℕ → List PlacedToken → Line
after_hash line [] = NullDirective line
after_hash line (word ∷ operands) =
    Directed (record
    { kind = directive_kind word.token; line = line; word = word; operands = operands })

-- a line of these tokens: a directive where the first is `#`
abbrev pub read : List PlacedToken → Line
read [] = Text []
read (t ∷ tokens) =
    if bytes_eq t.token (codes "#") then after_hash t.line tokens else Text (t ∷ tokens)

-- the lines of these tokens, which begin one
abbrev pub lines_from : List PlacedToken → List Line
lines_from tokens = map read (lines_of tokens)

-- the lines of a file
abbrev pub lines_in : List (List ℕ) → List Line
lines_in text = lines_from (tokens_of text)
