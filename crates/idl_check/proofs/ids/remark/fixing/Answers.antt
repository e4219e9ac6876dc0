use Rattle.idl_env.specs.declared.additions.addition.Addition.TheVariants.{Identifies}
use Rattle.idl_check.proofs.ids.remark.fixing.Goals as goal

pub returns : goal.returns
returns c = λ i. Identifies (c.in_ok-path.ensures.cases i) (c.in_ok-identity.ensures i)
