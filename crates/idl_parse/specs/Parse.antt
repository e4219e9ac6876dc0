-- The tree of a unit, and the fault of one that has none.
-- The reader tells the place at which a unit stops being a beginning, since whether tokens are one
-- can't be computed as it is said. That it is the place in the words of beginnings is the law
-- `stopping`.
use Rattle.std.specs.Prelude.{◌≡◌, ◌≢◌, ◌⊎◌, ◌+◌, ◌-◌, ℕ, Bool, List, [], ◌∷◌, ◌++◌, length, take, is_some, None, Some, if◌then◌else◌}
use Rattle.idl_fault.specs.declared.code.Code.TheVariants.{PragmaInside, MalformedPragma}
use Rattle.idl_lex.specs.tokens.Tokens.{Token}
use Rattle.idl_parse.specs.declared.fault.SyntaxFault.{SyntaxFault}
use Rattle.idl_parse.specs.declared.fault.SyntaxFault.TheVariants as fault
use Rattle.idl_tree.specs.reading.Fault.{Begins}
use Rattle.idl_tree.specs.Lexeme.{Lexemes, lexemes}
use Rattle.idl_tree.specs.Pragma.{pragma_of}
use Rattle.idl_tree.specs.Unit.{spell}
use Rattle.idl_tree.specs.declared.unit.Tree.{Tree}
use Rattle.idl_unit.specs.Faults.{least_fault}
use Rattle.idl_unit.specs.TokenRules.{fault_at, token_faults}
use Rattle.idl_unit.specs.declared.fault.Fault.{Fault}

-- the faults of a pragma that stands inside a unit of tokens or outside, at the word `pragma`
abbrev pub pragma_faults : List Token → Bool → List Fault
pragma_faults tokens inside =
    (if inside then fault_at 0 PragmaInside ∷ [] else [])
    ++ (if is_some (pragma_of tokens) then [] else fault_at 0 MalformedPragma ∷ [])

-- the tokens before the one with this number are the beginning of a tree, and through it they are
-- none
abbrev pub BeginsUpTo : Lexemes → ℕ → Type 0
BeginsUpTo tokens n = Begins spell (take n tokens) × (Begins spell (take (n + 1) tokens) → ⊥)

-- No tree has this spelling. The token with this number is the first such that the tokens through
-- it are no beginning of a tree; or all of them are the beginning of one, and it is the last.
abbrev pub StopsAt : List Token → ℕ → Type 0
StopsAt tokens n =
    ((tree : Tree) → lexemes tokens ≢ spell tree)
    × (BeginsUpTo (lexemes tokens) n ⊎ (Begins spell (lexemes tokens) × (n ≡ length tokens - 1)))

-- why tokens have no tree: the least of what the rules find, or else where they stop being the
-- beginning of one; want of memory says nothing
abbrev pub IsFaultOf : List Token → SyntaxFault → Type 0
IsFaultOf tokens fault.Memory = Unit {0}
IsFaultOf tokens (fault.Rule f) = least_fault (token_faults tokens) ≡ Some f
IsFaultOf tokens (fault.NoTree left) =
    (least_fault (token_faults tokens) ≡ None) × StopsAt tokens (length tokens - left)
