use Rattle.std.proofs.Common.{subst}
use Rattle.std.specs.Prelude.{IfSome}
use Rattle.std.proofs.lemmas.Result.{IfOk-weaker}
use Rattle.idl_root.specs.Followed.{IsFollowed}
use Rattle.idl_root.proofs.TakenLemmas.{some-weaker}
use Rattle.idl_root.proofs.kept.keeping.across.Goals as goal

pub returns-in-Some : goal.returns-in-Some
returns-in-Some c =
    IfOk-weaker c.across.result _ _
    (λ found is lists earlier k.
    some-weaker found _ _
    (λ f more. more lists earlier (subst (λ o. IfSome o (λ f. IsFollowed lists earlier f c.args.env.now)) c.in-Some.is k)) is)
    c.across.ensures
