use Rattle.std.proofs.Common.{◌∙◌, ◌++◌, List, [], IfOk, IsPermutation, ap, map, reverse, subst}
use Rattle.std.proofs.lemmas.List.Sorted.{IsPermutation-map}
use Rattle.std.specs.List.Sorted.{IsNonDecreasingBy}
use Rattle.idl_related.specs.FirstDeclared.{AreOfFaults, KeepsOrder, no_units, told_after, without_other_places}
use Rattle.idl_related.specs.Judged.{AreOfFindings, units_before}
use Rattle.idl_related.specs.Related.{HasRedeclaration}
use Rattle.idl_related.specs.declared.told.RelatedPlaces.{RelatedPlaces}
use Rattle.idl_related.proofs.FirstDeclaredLemmas.{IfOk-both, kept-without}
use Rattle.idl_related.proofs.related.told_of.Goals as goal
use Rattle.idl_unit.specs.Units.{units_of}

pub returns-clause-told : goal.returns-clause-told
returns-clause-told c =
    subst (λ events. IfOk c.told_backwards.result (λ told. AreOfFindings events told.items))
    (c.in_ok-pass_all.ensures.expansion ∙ c.in_ok-all.ensures.expansion) c.told_backwards.ensures.told

pub returns-clause-first_declared : goal.returns-clause-first_declared
returns-clause-first_declared c =
    let first = c.in_ok-all.all in
    let last = c.pass_all.new.self in
    let start = c.in_ok-all.ensures in
    let rises : List RelatedPlaces → Type 0 = IsNonDecreasingBy (λ (t : RelatedPlaces). t.event) in
    IfOk-both c.told_backwards.result (λ told. IsPermutation last.told.items (reverse told.items))
    (λ told. rises (reverse told.items) × KeepsOrder last.told.items (reverse told.items))
    (λ told. HasRedeclaration c.args.findings.now → AreOfFaults c.args.expansion.now (reverse told.items))
    (λ told permutation order asks.
    let are =
    c.in_ok-pass_all.ensures.told (start.asks ∙ asks)
    ∙ ap (λ l. map without_other_places l ++ told_after first.expansion.now (units_before first [] 0) (units_of first.expansion.now)) start.empty.1
    ∙ ap (λ names. told_after first.expansion.now (record { facts = []; names = names; number = 0 }) (units_of first.expansion.now)) start.empty.0
    ∙ ap (λ events. told_after events no_units (units_of events)) start.expansion in
    record {
      are = subst (λ l. IsPermutation l (map without_other_places (reverse told.items))) are (IsPermutation-map without_other_places last.told.items (reverse told.items) permutation);
      ordered = order.0;
      kept = subst (λ l. KeepsOrder l (map without_other_places (reverse told.items))) are (kept-without last.told.items (reverse told.items) order.1);
    })
    c.told_backwards.ensures.permutation
    (IfOk-both c.told_backwards.result (λ told. rises (reverse told.items)) (λ told. KeepsOrder last.told.items (reverse told.items))
    (λ told. rises (reverse told.items) × KeepsOrder last.told.items (reverse told.items)) (λ told ordered kept. (ordered, kept)) c.told_backwards.ensures.ordered
    c.told_backwards.ensures.kept)
