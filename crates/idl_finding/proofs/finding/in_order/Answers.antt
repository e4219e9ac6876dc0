use Rattle.std.proofs.Common.{rules}
use Rattle.std.proofs.lemmas.List.Sorted.{IsNonDecreasingBy-from_sort_by_key, answers_always}
use Rattle.idl_finding.proofs.OrderLemmas.{in_order-sorted}
use Rattle.idl_finding.proofs.finding.in_order.Goals as goal

pub returns : goal.returns
returns c =
    in_order-sorted c.args.found.items c.sort_by_key.new.self.items
    (IsNonDecreasingBy-from_sort_by_key (λ f. f.event) _ c.in_ok-sort_by_key.ensures.sorted (λ a r q k. search rules))
    (c.in_ok-sort_by_key.ensures.stable (λ f. f.event) (answers_always _ _ _ (λ f a r g h. search rules)))
