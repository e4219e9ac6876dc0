use Rattle.std.proofs.lemmas.List.{nil_from_length}
use Rattle.idl_root_blocks.specs.Blocks.{cut}
use Rattle.idl_root_blocks.specs.Finding.{blocks_in}
use Rattle.idl_root_blocks.specs.Units.{text_of}
use Rattle.idl_root_blocks.proofs.Units.{blocks-all}
use Rattle.idl_root_blocks.proofs.finding.+blocks_in.Goals as goal

pub returns-clause-blocks : goal.returns-clause-blocks
returns-clause-blocks t c =
    blocks-all c.units.left.now c.units.count (blocks_in (cut (text_of c.args.units.now))) (nil_from_length c.units.left.now c.in_default.ensures.cases) c.units.invariant.0
