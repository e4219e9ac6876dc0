use Rattle.std.proofs.Common.{◌≡◌, length}
use Rattle.std.specs.Option.{option_cmp}
use Rattle.idl_store.specs.Order.{logs_cmp}
use Rattle.idl_store.proofs.order.order_of_logs.Given as goal

-- what is left of the two comes in the order in which they do
abbrev pub invariant-entries : goal.invariant-entries
invariant-entries g l = logs_cmp (option_cmp g.B.Answer.Ord.cmp) l.these l.those ≡ logs_cmp (option_cmp g.B.Answer.Ord.cmp) l.log l.other

abbrev pub decreases-entries : goal.decreases-entries
decreases-entries g l = length l.these
