use Rattle.std.proofs.Common.{rules}
use Rattle.idl_base.proofs.Exactness.{pointwise_exact}
use Rattle.idl_map.proofs.list.SharedListPartialEq.eq.Goals as goal

pub returns-clause-exact : goal.returns-clause-exact
returns-clause-exact g c =
    pointwise_exact g.T.PartialEq.eq g.met.T.Eq.laws g.met.T.Datum.same c.args.self.now c.args.other.now c.are_one.result (search rules)
