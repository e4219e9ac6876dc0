-- Operators with operands.
use Rattle.std.specs.Prelude.{List, Option, is_some}
use Rattle.idl_tree.specs.Lexeme.{Lexeme}
use Rattle.idl_tree.specs.reading.ReadExpression.{step_with}
use Rattle.idl_tree.specs.reading.Reading.{Reader, many_of}

abbrev pub steps_with : {O A : Type 0} → (Option Lexeme → Option O) → Reader A
    → Reader (List (O × A))
steps_with operator operand = many_of (λ t. is_some (operator t)) (step_with operator operand)
