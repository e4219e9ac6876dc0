-- How many tokens a name is, and the bounds of its parts.
use Rattle.std.proofs.Common.{◌≡◌, ℕ, suc, ◌+◌, ◌*◌, Bool, true, false, cond, List, [], ◌∷◌, ◌++◌, length, flat_map, refl, ap, arith}
use Rattle.idl_tree.specs.NameParts.{last_at}
use Rattle.idl_lex.specs.declared.kinds.mark.Mark.TheVariants.{ColonColon}
use Rattle.idl_tree.specs.Interface.{spell_text}
use Rattle.idl_tree.specs.Lexeme.{Lexemes, Punctuation, Identifier, Text}
use Rattle.idl_tree.specs.Name.{spell_leading, spell_name}
use Rattle.idl_tree.specs.declared.name.ScopedName.{ScopedName}
use Rattle.idl_tree.specs.declared.several.Several.{Several}

parts-length : (parts : List (List ℕ)) → length (flat_map (λ part. Punctuation ColonColon ∷ Identifier part ∷ []) parts) ≡ 2 * length parts
parts-length [] = refl
parts-length (part ∷ parts) = let rest = parts-length parts in omega (arith, rest)

leading-length : (b : Bool) (tokens : Lexemes) → length (spell_leading b ++ tokens) ≡ cond b 1 0 + length tokens
leading-length true tokens = omega arith
leading-length false tokens = omega arith

-- behind a name's last part
pub behind_name : (at : ℕ) (name : ScopedName) → last_at at name + 1 ≡ at + length (spell_name name)
behind_name at name =
    let all = leading-length name.is_global (Identifier name.first ∷ flat_map (λ part. Punctuation ColonColon ∷ Identifier part ∷ []) name.rest) in
    let rest = parts-length name.rest in
    omega (arith, all, rest)

singles-length : (pieces : List (List ℕ)) → length (flat_map (λ piece. Text piece ∷ []) pieces) ≡ length pieces
singles-length [] = refl
singles-length (piece ∷ pieces) = ap suc (singles-length pieces)

-- how many tokens joined literals are
pub text-length : (text : Several (List ℕ)) → length (spell_text text) ≡ 1 + length text.rest
text-length text = let rest = singles-length text.rest in omega (arith, rest)
