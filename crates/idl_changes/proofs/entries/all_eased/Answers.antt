use Rattle.std.proofs.Common.{◌≡◌, ◌∙◌, ◌++◌, ◌∷◌, [], List, append-nil, append_assoc, ap, arith, length, map, refl, rules, sym}
use Rattle.std.specs.Vec.Iter.{into_iter_items}
use Rattle.std.proofs.lemmas.List.{map_push}
use Rattle.idl_changes.specs.Rows.{eased}
use Rattle.idl_changes.specs.declared.change.Difference.{Difference}
use Rattle.idl_changes.specs.declared.rows.Weights.{Weights}
use Rattle.idl_changes.proofs.StepLemmas.{none-left}
use Rattle.idl_changes.proofs.entries.all_eased.Goals as goal

pub loop-difference-init : goal.loop-difference-init
loop-difference-init c = record { all = refl; counted = search rules; told = c.new-all.ensures.items }

pub loop-difference-preserved : goal.loop-difference-preserved
loop-difference-preserved c =
    let at = c.loop-difference in
    let inv = at.invariant in
    let difference : Difference = c.in-Some.difference in
    let steps : into_iter_items at.difference-iterator ≡ difference ∷ into_iter_items c.next.new.self = c.in-Some.ensures.steps.0 in
    let gone = c.in-Some.ensures.steps.1 in
    let short = ap (λ (ds : List Difference). length ds) steps in
    let counted = inv.counted in
    let ease = λ (d : Difference). record d { weights = eased d.weights } in
    record {
      all = append_assoc at.yielded (difference ∷ []) _ ∙ rw (← steps) inv.all;
      counted = omega (arith, counted, gone, short);
      told = c.in_ok-push.ensures.items
          ∙ ap (λ (w : Weights). at.all.items ++ record difference { weights = w } ∷ []) c.eased-counted.ensures
          ∙ ap (λ (ds : List Difference). ds ++ ease difference ∷ []) inv.told
          ∙ sym (map_push ease at.yielded difference);
    }

pub returns : goal.returns
returns c =
    let at = c.loop-difference in
    let none = c.in-None.ensures.steps in
    let empty : into_iter_items at.difference-iterator ≡ [] = none-left (into_iter_items at.difference-iterator) (sym at.invariant.counted ∙ none.0) in
    let all = sym (append-nil at.yielded) ∙ rw empty at at.invariant.all ∙ c.into_iter-difference-iterator.ensures.into_iter_gives.0 in
    at.invariant.told ∙ ap (map (λ (d : Difference). record d { weights = eased d.weights })) all
