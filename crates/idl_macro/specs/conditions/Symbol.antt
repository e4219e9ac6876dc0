-- What a token counts as in a condition, by its spelling.
use Rattle.std.specs.Prelude.{ℕ, List, if◌then◌else◌, Option, None, Some}
use Rattle.idl_macro.specs.conditions.Mark.{mark_of}
use Rattle.idl_macro.specs.conditions.Number.{integer}
use Rattle.idl_macro.specs.declared.conditions.symbol.ConditionSymbol.{ConditionSymbol}
use Rattle.idl_macro.specs.declared.conditions.symbol.ConditionSymbol.TheVariants.{Number, Name}
use Rattle.idl_lex.specs.kinds.Word.{is_word}

abbrev pub number_or_mark : List ℕ → Option ℕ → ConditionSymbol
number_or_mark spelling None = mark_of spelling
number_or_mark spelling (Some value) = Number value

-- a word is a name, a keyword too
abbrev pub symbol_of : List ℕ → ConditionSymbol
symbol_of spelling = if is_word spelling then Name else number_or_mark spelling (integer spelling)
