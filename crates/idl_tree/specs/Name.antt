-- Scoped names.
use Rattle.std.specs.Prelude.{Bool, true, false, [], ◌∷◌, ◌++◌, flat_map}
use Rattle.idl_lex.specs.declared.kinds.mark.Mark.TheVariants.{ColonColon}
use Rattle.idl_tree.specs.Lexeme.{Lexemes, Punctuation, Identifier}
use Rattle.idl_tree.specs.declared.name.ScopedName.{ScopedName}

abbrev pub spell_leading : Bool → Lexemes
spell_leading true = Punctuation ColonColon ∷ []
spell_leading false = []

-- name = ["::"] ID ( "::" ID )*
abbrev pub spell_name : ScopedName → Lexemes
spell_name n =
    spell_leading n.is_global
    ++ (Identifier n.first
    ∷ flat_map (λ part. Punctuation ColonColon ∷ Identifier part ∷ []) n.rest)
