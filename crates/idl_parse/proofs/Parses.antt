-- What a whole reading says of the tokens of the code.
use Rattle.std.proofs.Common.{◌≡◌, ℕ, ◌+◌, ◌<◌, List, [], ◌∷◌, length, Ok, Err, subst, arith}
use Rattle.std.proofs.lemmas.List.{length-map}
use Rattle.idl_tree.specs.reading.Fault.{IsFaultAt}
use Rattle.idl_tree.specs.Lexeme.{Lexeme, Lexemes, lexeme_of, lexemes}
use Rattle.idl_tree.specs.reading.ReadUnit.{unit_at}
use Rattle.idl_tree.specs.Unit.{spell}
use Rattle.idl_tree.specs.declared.unit.Tree.{Tree}

enough : (tokens : List (List ℕ)) → length (lexemes tokens) < length tokens + 1
enough tokens = omega (arith, length-map tokens lexeme_of)

pub fault_found : ((n : ℕ) (tokens : Lexemes) (left : ℕ) → length tokens < n → unit_at n tokens ≡ Err left → IsFaultAt spell tokens left)
    → (tokens : List (List ℕ)) (left : ℕ) → unit_at (length tokens + 1) (lexemes tokens) ≡ Err left → IsFaultAt spell (lexemes tokens) left
fault_found law tokens left read = law (length tokens + 1) (lexemes tokens) left (enough tokens) read

pub rest_found : ((n : ℕ) (tokens : Lexemes) (tree : Tree) (next : Lexeme) (more : Lexemes) → length tokens < n → unit_at n tokens ≡ Ok (tree, next ∷ more) → IsFaultAt spell tokens (length (next ∷ more)))
    → (tokens rest : List (List ℕ)) (tree : Tree) → unit_at (length tokens + 1) (lexemes tokens) ≡ Ok (tree, lexemes rest) → 0 < length rest → IsFaultAt spell (lexemes tokens) (length rest)
rest_found law tokens [] tree read some = absurd (omega (arith, some))
rest_found law tokens (t ∷ rest) tree read some =
    subst (IsFaultAt spell (lexemes tokens)) (length-map (t ∷ rest) lexeme_of) (law (length tokens + 1) (lexemes tokens) tree (lexeme_of t) (lexemes rest) (enough tokens) read)
