-- Literals, by the kinds of their tokens.
use Rattle.std.specs.Prelude.{ℕ, List, [], ◌∷◌, Bool, true, false, is_some, Ok}
use Rattle.idl_lex.specs.kinds.Kind.{kind_of}
use Rattle.idl_lex.specs.declared.kinds.kind.TokenKind.{TokenKind}
use Rattle.idl_lex.specs.declared.kinds.kind.TokenKind.TheVariants as kind
use Rattle.idl_tree.specs.reading.ReadConstruction.{all_with}
use Rattle.idl_tree.specs.reading.ReadExpression.{wide_text_of, single_of, single_literal}
use Rattle.idl_tree.specs.reading.Reading.{Reader, ◌>>=◌}
use Rattle.idl_tree.specs.reading.Tests.{pick}
use Rattle.idl_tree.specs.declared.literal.Literal.{Literal}
use Rattle.idl_tree.specs.declared.several.Several.{Several}

abbrev pub is_text_kind : TokenKind → Bool
is_text_kind kind.String = true
is_text_kind others = false

abbrev pub is_wide_text_kind : TokenKind → Bool
is_wide_text_kind kind.WideString = true
is_wide_text_kind others = false

-- a narrow string literal comes first
abbrev pub is_at_text : List (List ℕ) → Bool
is_at_text [] = false
is_at_text (token ∷ rest) = is_text_kind (kind_of token)

-- a wide string literal comes first
abbrev pub is_at_wide_text : List (List ℕ) → Bool
is_at_wide_text [] = false
is_at_wide_text (token ∷ rest) = is_wide_text_kind (kind_of token)

-- one or more wide string literals
abbrev pub wide_text_at : Reader (Several (List ℕ))
wide_text_at = all_with (λ t. is_some (wide_text_of t)) (pick wide_text_of)

-- a literal that is one token
abbrev pub single_at : Reader Literal
single_at ts = pick single_of ts >>= λ s. Ok (single_literal s.0, s.1)
