-- The rules of a token beside those before it, the last first.
use Rattle.std.specs.Prelude.{Bool, true, false, ◌++◌, List, ◌∷◌}
use Rattle.idl_fault.specs.declared.code.Code.{Code}
use Rattle.idl_fault.specs.declared.code.Code.TheVariants.{LeftOut, LikeKeyword, MixedWidths, NestedTooDeep}
use Rattle.idl_lex.specs.declared.kinds.keyword.Keyword.TheVariants.{Const, Double, Float, Long}
use Rattle.idl_lex.specs.declared.kinds.kind.TokenKind.{TokenKind}
use Rattle.idl_lex.specs.declared.kinds.kind.TokenKind.TheVariants.{Accepted, Refused, String, WideString}
use Rattle.idl_unit.specs.TokenRules.{bad_codes, code_if, is_miscased, is_too_deep}

-- a string literal directly behind one of the other width
abbrev pub is_mixed : TokenKind → List TokenKind → Bool
is_mixed WideString (String ∷ before) = true
is_mixed String (WideString ∷ before) = true
is_mixed kind before = false

-- a keyword that is left out, and a constant of a floating type
abbrev pub is_refused : TokenKind → List TokenKind → Bool
is_refused Refused before = true
is_refused (Accepted Float) (Accepted Const ∷ before) = true
is_refused (Accepted Double) (Accepted Const ∷ before) = true
is_refused (Accepted Double) (Accepted Long ∷ Accepted Const ∷ before) = true
is_refused kind before = false

abbrev pub codes_behind : List TokenKind → TokenKind → List Code
codes_behind before kind =
    bad_codes kind
    ++ (code_if (is_mixed kind before) MixedWidths
    ++ (code_if (is_refused kind before) LeftOut
    ++ (code_if (is_too_deep (kind ∷ before)) NestedTooDeep
    ++ code_if (is_miscased kind) LikeKeyword)))
