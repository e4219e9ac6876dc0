use Rattle.std.proofs.Common.{length, ◌≤◌, is_some}
use Rattle.idl_tree.specs.Lexeme.{lexemes}
use Rattle.idl_tree.specs.reading.ReadExpression.{wide_text_of}
use Rattle.idl_tree.specs.reading.Reading.{many_of}
use Rattle.idl_tree.specs.reading.Tests.{pick}
use Rattle.idl_syntax.proofs.Turns.{Turns}
use Rattle.idl_syntax.proofs.literal.more_wide_text.Given as goal

abbrev pub invariant-pieces : goal.invariant-pieces
invariant-pieces l = record {
  turns : Turns (λ t. is_some (wide_text_of t)) (pick wide_text_of) l.pieces.items (lexemes l.rest) (many_of (λ t. is_some (wide_text_of t)) (pick wide_text_of) (lexemes l.fn.tokens));
  long : length l.rest ≤ length l.fn.tokens;
}

abbrev pub decreases-pieces : goal.decreases-pieces
decreases-pieces l = length l.rest
