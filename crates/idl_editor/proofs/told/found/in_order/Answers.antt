use Rattle.std.proofs.Common.{rules}
use Rattle.std.proofs.lemmas.List.Sorted.{IsNonDecreasingBy-from_sort_by_key, answers_always}
use Rattle.idl_editor.specs.declared.told.found.RootFinding.{RootFinding}
use Rattle.idl_editor.proofs.FoundLemmas.{in-order}
use Rattle.idl_editor.proofs.told.found.in_order.Goals as goal

pub returns : goal.returns
returns c =
    in-order c.args.found.now c.in_ok-ordered.ordered.items c.sort_by_key.new.self.items c.in_ok-ordered.ensures
    (IsNonDecreasingBy-from_sort_by_key (λ (r : RootFinding). r.finding.now.place.line) _ c.in_ok-sort_by_key.ensures.sorted (λ a r q k. search rules))
    (c.in_ok-sort_by_key.ensures.stable (λ (r : RootFinding). r.finding.now.place.line) (answers_always _ _ _ (λ f a r g h. search rules)))
