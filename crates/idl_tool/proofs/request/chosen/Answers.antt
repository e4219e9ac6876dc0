use Rattle.std.proofs.Common.{rules}
use Rattle.clap.specs.Words.{found_of, rows_of}
use Rattle.idl_tool.proofs.request.chosen.Goals as goal

pub returns-in-Some-clause-asked : goal.returns-in-Some-clause-asked
returns-in-Some-clause-asked c =
    (rows_of (found_of c.in-Some.explain.now), (c.requires.taken, search rules), c.in_ok-values_of.ensures)
