-- What each mark counts as in a condition.
use Rattle.std.specs.Prelude.{ℕ, List, Option, Some}
use Rattle.idl_macro.specs.declared.conditions.operator.Operator.TheVariants as op
use Rattle.idl_macro.specs.declared.conditions.symbol.ConditionSymbol.{ConditionSymbol}
use Rattle.idl_macro.specs.declared.conditions.symbol.ConditionSymbol.TheVariants.{Operator, Not, Complement, Open, Close, Other}
use Rattle.idl_lex.specs.kinds.Marks.{mark_kind}
use Rattle.idl_lex.specs.declared.kinds.kind.TokenKind.{TokenKind}
use Rattle.idl_lex.specs.declared.kinds.kind.TokenKind.TheVariants.{Punctuation, Preprocessing}
use Rattle.idl_lex.specs.declared.kinds.mark.Mark.{Mark}
use Rattle.idl_lex.specs.declared.kinds.mark.Mark.TheVariants as mark
use Rattle.idl_lex.specs.declared.kinds.mark.PreprocessorMark.{PreprocessorMark}
use Rattle.idl_lex.specs.declared.kinds.mark.PreprocessorMark.TheVariants as preprocessor

-- a mark of IDL
abbrev pub symbol_of_mark : Mark → ConditionSymbol
symbol_of_mark mark.OpenParenthesis = Open
symbol_of_mark mark.CloseParenthesis = Close
symbol_of_mark mark.Tilde = Complement
symbol_of_mark mark.Star = Operator op.Multiply
symbol_of_mark mark.Slash = Operator op.Divide
symbol_of_mark mark.Percent = Operator op.Remainder
symbol_of_mark mark.Plus = Operator op.Add
symbol_of_mark mark.Minus = Operator op.Subtract
symbol_of_mark mark.ShiftLeft = Operator op.ShiftLeft
symbol_of_mark mark.ShiftRight = Operator op.ShiftRight
symbol_of_mark mark.Less = Operator op.Less
symbol_of_mark mark.Greater = Operator op.Greater
symbol_of_mark mark.Ampersand = Operator op.BitAnd
symbol_of_mark mark.Caret = Operator op.BitXor
symbol_of_mark mark.Bar = Operator op.BitOr
symbol_of_mark _ = Other

-- a mark that the preprocessor alone knows
abbrev pub symbol_of_preprocessor_mark : PreprocessorMark → ConditionSymbol
symbol_of_preprocessor_mark preprocessor.Exclamation = Not
symbol_of_preprocessor_mark preprocessor.LessEquals = Operator op.LessOrEqual
symbol_of_preprocessor_mark preprocessor.GreaterEquals = Operator op.GreaterOrEqual
symbol_of_preprocessor_mark preprocessor.EqualsEquals = Operator op.Equal
symbol_of_preprocessor_mark preprocessor.NotEquals = Operator op.NotEqual
symbol_of_preprocessor_mark preprocessor.AndAnd = Operator op.And
symbol_of_preprocessor_mark preprocessor.OrOr = Operator op.Or
symbol_of_preprocessor_mark _ = Other

abbrev pub symbol_of_kind : Option TokenKind → ConditionSymbol
symbol_of_kind (Some (Punctuation m)) = symbol_of_mark m
symbol_of_kind (Some (Preprocessing m)) = symbol_of_preprocessor_mark m
symbol_of_kind _ = Other

-- what the mark with this spelling counts as; any other text is no symbol of a condition
abbrev pub mark_of : List ℕ → ConditionSymbol
mark_of spelling = symbol_of_kind (mark_kind spelling)
