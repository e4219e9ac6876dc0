use Rattle.std.proofs.Common.{false, ap}
use Rattle.idl_prep.specs.Pass.{begun}
use Rattle.idl_prep.proofs.walk.branch.skip_group.Goals as goal

pub returns : goal.returns
returns c = ap (λ o. begun o false false) c.in_ok-opener.ensures
