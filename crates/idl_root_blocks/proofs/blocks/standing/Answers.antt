use Rattle.idl_root_blocks.proofs.Wholes.{stand-over}
use Rattle.idl_root_blocks.specs.Blocks.{parts_of}
use Rattle.idl_root_blocks.proofs.blocks.standing.Goals as goal

pub returns-clause-here : goal.returns-clause-here
returns-clause-here c = λ before text whole told turns count. c.walked.ensures before (parts_of text) whole told turns count

pub returns-clause-pieces : goal.returns-clause-pieces
returns-clause-pieces c = λ facts pieces cut told turns count.
    stand-over c.walked.ensures c.more_turns.ensures pieces facts cut told (record { turns = turns; count = count })
