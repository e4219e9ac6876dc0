use Rattle.std.proofs.Common.{length, ◌≤◌}
use Rattle.idl_lex.specs.declared.kinds.mark.Mark.TheVariants.{Comma}
use Rattle.idl_tree.specs.Lexeme.{lexemes}
use Rattle.idl_tree.specs.reading.ReadExpression.{behind_with}
use Rattle.idl_tree.specs.reading.Reading.{many_of}
use Rattle.idl_tree.specs.reading.Tests.{is_mark}
use Rattle.idl_syntax.proofs.Turns.{Turns}
use Rattle.idl_syntax.proofs.production.more_listed.Given as goal

abbrev pub invariant-trees : goal.invariant-trees
invariant-trees g l =
    let reader = behind_with Comma (g.P.Production.reader l.fn.production) in
    record {
      turns : Turns (is_mark Comma) reader l.trees.items (lexemes l.rest) (many_of (is_mark Comma) reader (lexemes l.fn.tokens));
      long : length l.rest ≤ length l.fn.tokens;
    }

abbrev pub decreases-trees : goal.decreases-trees
decreases-trees g l = length l.rest
