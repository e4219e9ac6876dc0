use Rattle.idl_asked.proofs.BlockLaws.{each-block}
use Rattle.idl_asked.proofs.block_laws.blocks_of_roots.Goals as goal

pub returns : goal.returns
returns c = λ facts pieces cut told turns count.
    each-block c.taking.ensures.here facts pieces cut (c.standing.ensures.pieces facts pieces cut told turns count)
