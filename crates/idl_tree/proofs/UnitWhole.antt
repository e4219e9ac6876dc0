-- What reading of a whole unit says: the tree that is spelled so, or where no tree goes on.
use Rattle.std.proofs.Common.{Err, Ok, [], length, ℕ, ◌<◌, ◌∷◌, ◌≡◌}
use Rattle.idl_tree.specs.reading.Fault.{IsFaultAt}
use Rattle.idl_tree.specs.Lexeme.{Lexeme, Lexemes}
use Rattle.idl_tree.specs.reading.ReadUnit.{unit_at}
use Rattle.idl_tree.specs.Unit.{spell}
use Rattle.idl_tree.specs.declared.unit.Tree.{Tree}
use Rattle.idl_tree.proofs.ReadAgain.UnitAgain.{unit_again}
use Rattle.idl_tree.proofs.Readers.UnitLaws.{unit_laws}
use Rattle.idl_tree.proofs.Whole.{whole_fault, whole_found, whole_rest, whole_unique}

-- a unit of which nothing is left is the spelling of its tree
pub unit_found : (n : ℕ) (ts : Lexemes) (t : Tree) → length ts < n → unit_at n ts ≡ Ok (t, []) → ts ≡ spell t
unit_found = whole_found spell unit_at unit_laws unit_again

-- no two trees have one spelling
pub unit_unique : (a b : Tree) → spell a ≡ spell b → a ≡ b
unit_unique = whole_unique spell unit_at unit_laws unit_again

-- where reading fails is where no tree goes on
pub unit_fault : (n : ℕ) (ts : Lexemes) (k : ℕ) → length ts < n → unit_at n ts ≡ Err k → IsFaultAt spell ts k
unit_fault = whole_fault spell unit_at unit_laws unit_again

-- where tokens are left no tree goes on
pub unit_rest : (n : ℕ) (ts : Lexemes) (t : Tree) (next : Lexeme) (rest : Lexemes) → length ts < n → unit_at n ts ≡ Ok (t, next ∷ rest) → IsFaultAt spell ts (length (next ∷ rest))
unit_rest = whole_rest spell unit_at unit_laws unit_again
