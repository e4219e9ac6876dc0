use Rattle.idl_root_blocks.proofs.Cuts.{cut-blocks, cut-one, cut-whole}
use Rattle.idl_root_blocks.proofs.pieces.cutting.Goals as goal

pub returns-clause-whole : goal.returns-clause-whole
returns-clause-whole c = λ text. cut-whole text

pub returns-clause-blocks : goal.returns-clause-blocks
returns-clause-blocks c = λ text. cut-blocks text

pub returns-clause-one : goal.returns-clause-one
returns-clause-one c = λ pieces h. cut-one pieces h
