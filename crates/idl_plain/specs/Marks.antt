-- The marks, those of the language apart from those that the preprocessor alone knows; and the letters
-- behind a backslash.
use Rattle.std.specs.Prelude.{ℕ, List, [], ◌∷◌, codes}
use Rattle.idl_lex.specs.declared.kinds.mark.Mark.{Mark}
use Rattle.idl_lex.specs.declared.kinds.mark.Mark.TheVariants.{Ampersand, Bar, Caret, CloseBrace, CloseBracket, CloseParenthesis, Colon, ColonColon, Comma, Equals, Greater, Less, Minus, OpenBrace, OpenBracket, OpenParenthesis, Percent, Plus, Semicolon, ShiftLeft, ShiftRight, Slash, Star, Tilde}
use Rattle.idl_lex.specs.declared.kinds.mark.PreprocessorMark.{PreprocessorMark}
use Rattle.idl_lex.specs.declared.kinds.mark.PreprocessorMark.TheVariants.{AndAnd, Dot, EqualsEquals, Exclamation, GreaterEquals, Hash, HashHash, LessEquals, NotEquals, OrOr, Question}

abbrev pub punctuation : List (List ℕ × Mark)
punctuation =
    (codes ";", Semicolon) ∷ (codes ",", Comma) ∷ (codes "{", OpenBrace) ∷ (codes "}", CloseBrace)
    ∷ (codes "(", OpenParenthesis) ∷ (codes ")", CloseParenthesis) ∷ (codes "::", ColonColon)
    ∷ (codes ":", Colon) ∷ (codes "<", Less) ∷ (codes ">", Greater) ∷ (codes "=", Equals)
    ∷ (codes "[", OpenBracket) ∷ (codes "]", CloseBracket) ∷ (codes "+", Plus) ∷ (codes "-", Minus)
    ∷ (codes "*", Star) ∷ (codes "/", Slash) ∷ (codes "%", Percent) ∷ (codes "~", Tilde)
    ∷ (codes "|", Bar) ∷ (codes "^", Caret) ∷ (codes "&", Ampersand) ∷ (codes "<<", ShiftLeft)
    ∷ (codes ">>", ShiftRight) ∷ []

abbrev pub preprocessing : List (List ℕ × PreprocessorMark)
preprocessing =
    (codes "#", Hash) ∷ (codes "##", HashHash) ∷ (codes "!", Exclamation) ∷ (codes "?", Question)
    ∷ (codes ".", Dot) ∷ (codes "&&", AndAnd) ∷ (codes "||", OrOr) ∷ (codes "==", EqualsEquals)
    ∷ (codes "!=", NotEquals) ∷ (codes "<=", LessEquals) ∷ (codes ">=", GreaterEquals) ∷ []

-- each letter, and the character that it stands for
abbrev pub letters : List (ℕ × ℕ)
letters =
    (110, 10) ∷ (116, 9) ∷ (118, 11) ∷ (98, 8) ∷ (114, 13) ∷ (102, 12) ∷ (97, 7) ∷ (92, 92)
    ∷ (63, 63) ∷ (39, 39) ∷ (34, 34) ∷ []
