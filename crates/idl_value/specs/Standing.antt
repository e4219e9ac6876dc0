-- The tokens of an expression at which a fault may stand.
use Rattle.std.specs.Prelude.{Bool, true, false, not, [], ◌∷◌}
use Rattle.idl_tree.specs.idl_lex.declared.kinds.keyword.Keyword.{Keyword}
use Rattle.idl_tree.specs.idl_lex.declared.kinds.keyword.Keyword.TheVariants as word
use Rattle.idl_tree.specs.idl_lex.declared.kinds.mark.Mark.{Mark}
use Rattle.idl_tree.specs.idl_lex.declared.kinds.mark.Mark.TheVariants as mark
use Rattle.idl_tree.specs.Lexeme.{Lexemes, Word, Punctuation, Identifier, Other}

abbrev pub is_operator : Mark → Bool
is_operator mark.Bar = true
is_operator mark.Caret = true
is_operator mark.Ampersand = true
is_operator mark.ShiftLeft = true
is_operator mark.ShiftRight = true
is_operator mark.Plus = true
is_operator mark.Minus = true
is_operator mark.Star = true
is_operator mark.Slash = true
is_operator mark.Percent = true
is_operator mark.Tilde = true
is_operator other = false

abbrev pub is_truth : Keyword → Bool
is_truth word.True = true
is_truth word.False = true
is_truth other = false

abbrev pub is_colons : Mark → Bool
is_colons mark.ColonColon = true
is_colons other = false

-- whether `::` comes first
abbrev pub goes_on : Lexemes → Bool
goes_on (Punctuation m ∷ rest) = is_colons m
goes_on others = false

-- the first of these is an operator, a literal, or the last part of a name
abbrev pub bears : Lexemes → Bool
bears [] = false
bears (Identifier name ∷ rest) = not (goes_on rest)
bears (Punctuation m ∷ rest) = is_operator m
bears (Word w ∷ rest) = is_truth w
bears (Other ∷ rest) = false
bears (literal ∷ rest) = true
