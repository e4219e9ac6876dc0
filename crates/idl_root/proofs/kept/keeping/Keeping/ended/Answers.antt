use Rattle.std.proofs.Common.{subst}
use Rattle.std.specs.Prelude.{IfSome}
use Rattle.idl_root.specs.Followed.{IsFollowed}
use Rattle.idl_root.proofs.TakenLemmas.{some-weaker}
use Rattle.idl_root.proofs.kept.keeping.Keeping.ended.Goals as goal

pub returns-in-Some-clause-reprinting : goal.returns-in-Some-clause-reprinting
returns-in-Some-clause-reprinting c =
    some-weaker c.reprinting.result _ _
    (λ r told lists facts entries k printed.
    told lists c.args.self.earlier facts entries
    (subst (λ o. IfSome o (λ f. IsFollowed lists c.args.self.earlier f facts)) c.in-Some.is k) printed)
    c.reprinting.ensures
