use Rattle.idl_root_blocks.proofs.Noting.{noted-on}
use Rattle.idl_root_blocks.proofs.logs.noting_on.Goals as goal

pub returns : goal.returns
returns c = noted-on
