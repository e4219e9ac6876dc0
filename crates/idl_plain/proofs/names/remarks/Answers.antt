use Rattle.idl_plain.proofs.NameLaws.{remark-told}
use Rattle.idl_plain.proofs.names.remarks.Goals as goal

pub returns : goal.returns
returns c = λ purpose at t e. remark-told at t e purpose
