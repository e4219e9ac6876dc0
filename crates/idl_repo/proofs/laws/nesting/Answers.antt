use Rattle.idl_repo.proofs.NestingLaws.{arrays-nested, text-nested, text-plain}
use Rattle.idl_repo.proofs.laws.nesting.Goals as goal
use Rattle.idl_entity.specs.declared.data_type.Layer.TheVariants.{Array, Sequence}

pub returns-clause-plain : goal.returns-clause-plain
returns-clause-plain c = text-plain

pub returns-clause-sequence : goal.returns-clause-sequence
returns-clause-sequence c = λ bank n t. text-nested bank (Sequence n) t

pub returns-clause-array : goal.returns-clause-array
returns-clause-array c = λ bank n t. text-nested bank (Array n) t

pub returns-clause-lengths : goal.returns-clause-lengths
returns-clause-lengths c = arrays-nested
