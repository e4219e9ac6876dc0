use Rattle.idl_finding.proofs.OrderLemmas.{at-in_order, in_order-rises}
use Rattle.idl_root.proofs.compiling.laws.ordering.Goals as goal

pub returns-clause-order : goal.returns-clause-order
returns-clause-order c = in_order-rises

pub returns-clause-kept : goal.returns-clause-kept
returns-clause-kept c = λ found n. at-in_order n found
