use Rattle.std.proofs.Common.{◌∙◌, ◌<◌, ◌≤◌, ◌++◌, ◌∷◌, [], ℕ, List, ap, arith, length, sym}
use Rattle.idl_changes.specs.Offered.{ancestors}
use Rattle.idl_changes.proofs.TableLemmas.{all-places, each-next, get-within}
use Rattle.idl_changes.proofs.offered.all_ancestors.Goals as goal

pub loop-place-preserved : goal.loop-place-preserved
loop-place-preserved c =
    let L = c.args.listing.now in
    let i = c.loop-place.place in
    let within : i < length L = omega arith in
    let at = get-within L i within in
    c.in_ok-push.ensures.items
    ∙ ap (λ (l : List ℕ). c.loop-place.all.items ++ l ∷ []) c.in_ok-ancestors.ensures
    ∙ ap (λ (ls : List (List ℕ)). ls ++ ancestors L i ∷ []) c.loop-place.invariant
    ∙ sym (each-next (λ k e. ancestors L k) L i at.0 at.1)

pub returns : goal.returns
returns c =
    let L = c.args.listing.now in
    let i = c.loop-place.place in
    let past : length L ≤ i = omega arith in
    c.loop-place.invariant ∙ all-places (λ k e. ancestors L k) L i past
