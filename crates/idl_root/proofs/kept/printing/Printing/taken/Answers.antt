use Rattle.std.proofs.Common.{subst}
use Rattle.std.specs.Prelude.{IfSome}
use Rattle.idl_root.specs.Followed.{AreBeside}
use Rattle.idl_root.proofs.TakenLemmas.{found-weaker}
use Rattle.idl_root.proofs.kept.printing.Printing.taken.Goals as goal

pub returns-in-Some-clause-again : goal.returns-in-Some-clause-again
returns-in-Some-clause-again c =
    found-weaker c.take_again.result _ _
    (λ k again facts p. again facts (subst (λ o. IfSome o (λ r. AreBeside c.args.kept.now.lists r facts)) c.in-Some.is p))
    c.take_again.ensures.again

pub returns-in-Some-clause-rest : goal.returns-in-Some-clause-rest
returns-in-Some-clause-rest c = λ lists facts p.
    c.take_again.ensures.rest lists facts (subst (λ o. IfSome o (λ r. AreBeside lists r facts)) c.in-Some.is p)
