-- One or more.
use Rattle.std.specs.Prelude.{[], ◌∷◌, ◌++◌, flat_map, Option, None, Some}
use Rattle.idl_lex.specs.declared.kinds.mark.Mark.TheVariants.{Comma}
use Rattle.idl_tree.specs.Lexeme.{Lexemes, Punctuation}
use Rattle.idl_tree.specs.declared.several.Several.{Several}

-- x/","
abbrev pub spell_listed : {X : Type 0} → (X → Lexemes) → Several X → Lexemes
spell_listed spell xs = spell xs.first ++ flat_map (λ x. Punctuation Comma ∷ spell x) xs.rest

-- x+
abbrev pub spell_all : {X : Type 0} → (X → Lexemes) → Several X → Lexemes
spell_all spell xs = spell xs.first ++ flat_map spell xs.rest

-- [x]
abbrev pub spell_if : {X : Type 0} → (X → Lexemes) → Option X → Lexemes
spell_if spell None = []
spell_if spell (Some x) = spell x
