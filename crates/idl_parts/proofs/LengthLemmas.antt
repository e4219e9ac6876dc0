-- How many tokens string literals are.
use Rattle.std.proofs.Common.{◌≡◌, ◌∙◌, ◌+◌, [], ◌∷◌, length, ap, arith}
use Rattle.std.proofs.lemmas.List.{length-map}
use Rattle.std.proofs.lemmas.List.Concat.{flat_map_single}
use Rattle.idl_tree.specs.Lexeme.{Lexeme}
use Rattle.idl_tree.specs.Several.{spell_all}
use Rattle.idl_tree.specs.declared.several.Several.{Several}

-- one token each
pub length-spell_all : {X : Type 0} (f : X → Lexeme) (xs : Several X) → length (spell_all (λ x. f x ∷ []) xs) ≡ length xs.rest + 1
length-spell_all f xs =
    let e = ap length (flat_map_single f xs.rest) ∙ length-map xs.rest f in
    omega (arith, e)
