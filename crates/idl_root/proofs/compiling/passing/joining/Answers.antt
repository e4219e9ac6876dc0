use Rattle.std.proofs.Common.{List, subst, sym}
use Rattle.idl_env.specs.Facts.{UnitFacts}
use Rattle.idl_root.proofs.FrontLemmas.{compares-front, passed-front}
use Rattle.idl_root.proofs.PassedLemmas.{compares-more, passed-more, passed-none}
use Rattle.idl_root.proofs.PiecesLemmas.{facts-inside}
use Rattle.idl_root.specs.Passed.{ArePassed, Compares}
use Rattle.idl_root_blocks.specs.Blocks.{Block, Nothing}
use Rattle.idl_root.proofs.compiling.passing.joining.Goals as goal

pub returns-clause-none : goal.returns-clause-none
returns-clause-none c = passed-none c.passing.ensures.none c.passing.ensures.both

pub returns-clause-front : goal.returns-clause-front
returns-clause-front c = passed-front c.passing.ensures.none c.passing.ensures.both c.enough.ensures c.walked.ensures c.more_turns.ensures

pub returns-clause-block : goal.returns-clause-block
returns-clause-block c = λ facts inside pieces kept between new keeping at behind has first second.
    passed-more c.passing.ensures.none c.passing.ensures.both c.enough.ensures c.walked.ensures c.more_turns.ensures facts (Block inside Nothing) pieces kept between new keeping at behind has first
    (subst (λ (fs : List UnitFacts). ArePassed fs pieces between at new behind) (sym (facts-inside inside Nothing facts)) second)

pub returns-clause-compares_front : goal.returns-clause-compares_front
returns-clause-compares_front c = compares-front

pub returns-clause-compares_block : goal.returns-clause-compares_block
returns-clause-compares_block c = λ facts inside pieces kept between old at new has is first second.
    compares-more facts (Block inside Nothing) pieces kept between old at new has is first
    (subst (λ (fs : List UnitFacts). Compares fs pieces between at new) (sym (facts-inside inside Nothing facts)) second)
