use Rattle.idl_root.proofs.OpenLemmas.{all-block, all-boundary, all-more, all-unit, left-block}
use Rattle.idl_root.proofs.kept.noting.noting.Goals as goal

pub returns-clause-boundary : goal.returns-clause-boundary
returns-clause-boundary c = all-boundary c.enough.ensures c.walked.ensures c.more_turns.ensures c.logging.ensures.boundaries

pub returns-clause-unit : goal.returns-clause-unit
returns-clause-unit c = all-unit c.enough.ensures c.walked.ensures c.more_turns.ensures c.logging.ensures.unit

pub returns-clause-block : goal.returns-clause-block
returns-clause-block c = all-block c.enough.ensures c.walked.ensures c.more_turns.ensures c.logging.ensures.block

pub returns-clause-more : goal.returns-clause-more
returns-clause-more c = all-more c.enough.ensures c.walked.ensures c.more_turns.ensures

pub returns-clause-left : goal.returns-clause-left
returns-clause-left c = left-block c.logging.ensures.left
