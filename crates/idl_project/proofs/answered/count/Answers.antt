use Rattle.std.proofs.Common.{ap, arith, length}
use Rattle.idl_project.proofs.answered.count.Goals as goal

pub returns : goal.returns
returns c =
    let all = ap length c.text.ensures in
    omega (arith, all, c.len-count.ensures.value, c.len-count.type_inv)
