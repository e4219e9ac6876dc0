use Rattle.std.proofs.Common.{drop, length-drop, arith}
use Rattle.idl_unit.proofs.FrontLemmas.{units-left}
use Rattle.idl_unit.proofs.cut.Cut.first_len.Goals as goal

pub returns-after-more-clause-cut : goal.returns-after-more-clause-cut
returns-after-more-clause-cut c =
    let s = c.args.self.now in
    let left = drop s.taken s.text.now in
    let more = c.more.invariant in
    units-left left c.more.count c.more.len more.count (λ e. omega (arith, length-drop s.taken s.text.now)) more.cut
