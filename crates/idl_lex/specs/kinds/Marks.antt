-- The marks.
use Rattle.std.specs.Prelude.{ℕ, Bool, ◌||◌, List, [], ◌∷◌, codes, nat_eq, Option}
use Rattle.idl_lex.specs.kinds.WordTable.{value_of}
use Rattle.idl_lex.specs.declared.kinds.mark.Mark.TheVariants.{Semicolon, Comma, OpenBrace, CloseBrace, OpenParenthesis, CloseParenthesis, ColonColon, Colon, Less, Greater, Equals, OpenBracket, CloseBracket, Plus, Minus, Star, Slash, Percent, Tilde, Bar, Caret, Ampersand, ShiftLeft, ShiftRight}
use Rattle.idl_lex.specs.declared.kinds.mark.PreprocessorMark.TheVariants.{Hash, HashHash, Exclamation, Question, Dot, AndAnd, OrOr, EqualsEquals, NotEquals, LessEquals, GreaterEquals}
use Rattle.idl_lex.specs.declared.kinds.kind.TokenKind.{TokenKind}
use Rattle.idl_lex.specs.declared.kinds.kind.TokenKind.TheVariants.{Punctuation, Preprocessing}

-- each mark and its kind: those of the language, and those that the preprocessor alone knows
unfoldable pub marks : List (List ℕ × TokenKind)
marks =
    (codes ";", Punctuation Semicolon) ∷ (codes ",", Punctuation Comma)
    ∷ (codes "{", Punctuation OpenBrace)
    ∷ (codes "}", Punctuation CloseBrace) ∷ (codes "(", Punctuation OpenParenthesis)
    ∷ (codes ")", Punctuation CloseParenthesis)
    ∷ (codes "::", Punctuation ColonColon) ∷ (codes ":", Punctuation Colon)
    ∷ (codes "<", Punctuation Less)
    ∷ (codes ">", Punctuation Greater) ∷ (codes "=", Punctuation Equals)
    ∷ (codes "[", Punctuation OpenBracket)
    ∷ (codes "]", Punctuation CloseBracket) ∷ (codes "+", Punctuation Plus)
    ∷ (codes "-", Punctuation Minus)
    ∷ (codes "*", Punctuation Star) ∷ (codes "/", Punctuation Slash)
    ∷ (codes "%", Punctuation Percent)
    ∷ (codes "~", Punctuation Tilde) ∷ (codes "|", Punctuation Bar) ∷ (codes "^", Punctuation Caret)
    ∷ (codes "&", Punctuation Ampersand) ∷ (codes "<<", Punctuation ShiftLeft)
    ∷ (codes ">>", Punctuation ShiftRight)
    ∷ (codes "#", Preprocessing Hash) ∷ (codes "##", Preprocessing HashHash)
    ∷ (codes "!", Preprocessing Exclamation)
    ∷ (codes "?", Preprocessing Question) ∷ (codes ".", Preprocessing Dot)
    ∷ (codes "&&", Preprocessing AndAnd)
    ∷ (codes "||", Preprocessing OrOr) ∷ (codes "==", Preprocessing EqualsEquals)
    ∷ (codes "!=", Preprocessing NotEquals)
    ∷ (codes "<=", Preprocessing LessEquals) ∷ (codes ">=", Preprocessing GreaterEquals) ∷ []

-- the kind of the mark that is spelled so
abbrev pub mark_kind : List ℕ → Option TokenKind
mark_kind spelling = value_of marks spelling

-- a mark that no byte behind it makes another token: one of ; , { } ( ) [ ]
abbrev pub is_lone_mark : ℕ → Bool
is_lone_mark b =
    nat_eq b 59 || nat_eq b 44 || nat_eq b 123 || nat_eq b 125 || nat_eq b 40 || nat_eq b 41
    || nat_eq b 91 || nat_eq b 93
