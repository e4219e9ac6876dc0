use Rattle.std.proofs.Common.{length, ◌≤◌}
use Rattle.idl_tree.specs.Lexeme.{lexemes}
use Rattle.idl_tree.specs.reading.Reading.{many_of}
use Rattle.idl_syntax.proofs.Turns.{Turns}
use Rattle.idl_syntax.proofs.production.many.Given as goal

abbrev pub invariant-trees : goal.invariant-trees
invariant-trees g l =
    let begins = g.P.Series.begins l.fn.production in
    let reader = g.P.Production.reader l.fn.production in
    record {
      turns : Turns begins reader l.trees.items (lexemes l.rest) (many_of begins reader (lexemes l.fn.tokens));
      long : length l.rest ≤ length l.fn.tokens;
    }

abbrev pub decreases-trees : goal.decreases-trees
decreases-trees g l = length l.rest
