use Rattle.std.proofs.Common.{◌∙◌, All, IsPermutation, ap, reverse, rules, subst, sym}
use Rattle.std.proofs.lemmas.List.{reverse-reverse}
use Rattle.std.proofs.lemmas.List.Sorted.{All-permutation, IsNonDecreasingBy-from_sort_by_key, IsPermutation-reverse, answers_always}
use Rattle.std.specs.List.Sorted.{IsNonDecreasingBy}
use Rattle.idl_related.specs.FirstDeclared.{KeepsOrder}
use Rattle.idl_related.specs.Related.{AreOfFinding}
use Rattle.idl_related.specs.declared.told.RelatedPlaces.{RelatedPlaces}
use Rattle.idl_related.proofs.judged.JudgedUnits.told_backwards.Goals as goal

pub returns-clause-told : goal.returns-clause-told
returns-clause-told c =
    let are : RelatedPlaces → Type 0 = λ (t : RelatedPlaces). AreOfFinding c.args.self.expansion.now t.related in
    let sorted = c.sort_by_key.new.self.items in
    subst (All are) (sym c.reverse.ensures.items)
    (All-permutation are sorted (reverse sorted) (IsPermutation-reverse sorted)
    (All-permutation are c.args.self.told.items sorted c.in_ok-sort_by_key.ensures.permutation c.requires.told))

pub returns-clause-permutation : goal.returns-clause-permutation
returns-clause-permutation c =
    let sorted = c.sort_by_key.new.self.items in
    subst (IsPermutation c.args.self.told.items) (sym (ap reverse c.reverse.ensures.items ∙ reverse-reverse sorted)) c.in_ok-sort_by_key.ensures.permutation

pub returns-clause-ordered : goal.returns-clause-ordered
returns-clause-ordered c =
    let sorted = c.sort_by_key.new.self.items in
    subst (IsNonDecreasingBy (λ (t : RelatedPlaces). t.event)) (sym (ap reverse c.reverse.ensures.items ∙ reverse-reverse sorted))
    (IsNonDecreasingBy-from_sort_by_key (λ (t : RelatedPlaces). t.event) sorted c.in_ok-sort_by_key.ensures.sorted (λ a r q k. search rules))

pub returns-clause-kept : goal.returns-clause-kept
returns-clause-kept c =
    let sorted = c.sort_by_key.new.self.items in
    subst (KeepsOrder c.args.self.told.items) (sym (ap reverse c.reverse.ensures.items ∙ reverse-reverse sorted))
    (c.in_ok-sort_by_key.ensures.stable (λ (t : RelatedPlaces). t.event) (answers_always _ _ _ (λ f a r g h. search rules)))
