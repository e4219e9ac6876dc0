use Rattle.std.proofs.Common.{◌≡◌, ◌∙◌, ◌+◌, ◌&&◌, ℕ, Bool, List, ap, drop, false, flat_map, sym, true}
use Rattle.std.specs.List.{list_all}
use Rattle.std.proofs.lemmas.List.Folds.{list_all-append}
use Rattle.idl_changes.specs.Listing.{name_at}
use Rattle.idl_changes.specs.Offered.{ancestors, called_in, is_offered, offers}
use Rattle.idl_changes.proofs.StepLemmas.{all-told-left, all-told-next}
use Rattle.idl_repo.specs.declared.details.row_tree.RowTree.{RowTree}
use Rattle.idl_changes.proofs.interfaces.offers_all_of.Goals as goal

pub returns-then-not-own_all : goal.returns-then-not-own_all
unfolding offers
returns-then-not-own_all c =
    let new = c.args.sides.now.1 in
    let test = λ (h : ℕ). is_offered c.args.sides.now.0 c.args.interface (name_at new h) in
    let above = ancestors new c.args.base in
    sym (list_all-append test (called_in new c.args.base) (flat_map (called_in new) above)
    ∙ ap (λ (b : Bool). b && list_all test (flat_map (called_in new) above)) (sym c.in_ok-own_all.ensures ∙ c.if-not-own_all.true))

pub loop-above-preserved : goal.loop-above-preserved
loop-above-preserved c =
    let new = c.args.sides.now.1 in
    let test = λ (h : ℕ). is_offered c.args.sides.now.0 c.args.interface (name_at new h) in
    let above = ancestors new c.args.base in
    let are = c.ancestors-inherited.ensures ∙ ap (λ (L : List RowTree). ancestors L c.args.base) c.after.ensures in
    let i = c.loop-above.above-index in
    ap (λ (b : Bool). b && list_all test (flat_map (called_in new) (drop (i + 1) above))) (sym (sym c.in_ok-above_all.ensures ∙ c.if-not-above_all.false))
    ∙ sym (all-told-next test (called_in new) c.ancestors-inherited.result.now above are i c.loop-above-test.true)
    ∙ c.loop-above.invariant

pub returns-then-not-above_all : goal.returns-then-not-above_all
unfolding offers
returns-then-not-above_all c =
    let new = c.args.sides.now.1 in
    let test = λ (h : ℕ). is_offered c.args.sides.now.0 c.args.interface (name_at new h) in
    let above = ancestors new c.args.base in
    let are = c.ancestors-inherited.ensures ∙ ap (λ (L : List RowTree). ancestors L c.args.base) c.after.ensures in
    let i = c.loop-above.above-index in
    let rest : false ≡ list_all test (flat_map (called_in new) above) =
    ap (λ (b : Bool). b && list_all test (flat_map (called_in new) (drop (i + 1) above))) (sym (sym c.in_ok-above_all.ensures ∙ c.if-not-above_all.true))
    ∙ sym (all-told-next test (called_in new) c.ancestors-inherited.result.now above are i c.loop-above-test.true)
    ∙ c.loop-above.invariant
    in
    rest ∙ ap (λ (b : Bool). b && list_all test (flat_map (called_in new) above)) (sym (sym c.in_ok-own_all.ensures ∙ c.if-not-own_all.false))
    ∙ sym (list_all-append test (called_in new c.args.base) (flat_map (called_in new) above))

pub returns : goal.returns
unfolding offers
returns c =
    let new = c.args.sides.now.1 in
    let test = λ (h : ℕ). is_offered c.args.sides.now.0 c.args.interface (name_at new h) in
    let above = ancestors new c.args.base in
    let are = c.ancestors-inherited.ensures ∙ ap (λ (L : List RowTree). ancestors L c.args.base) c.after.ensures in
    let i = c.loop-above.above-index in
    let rest : true ≡ list_all test (flat_map (called_in new) above) =
    sym (all-told-left test (called_in new) c.ancestors-inherited.result.now above are i c.loop-above-test.false) ∙ c.loop-above.invariant
    in
    rest ∙ ap (λ (b : Bool). b && list_all test (flat_map (called_in new) above)) (sym (sym c.in_ok-own_all.ensures ∙ c.if-not-own_all.false))
    ∙ sym (list_all-append test (called_in new c.args.base) (flat_map (called_in new) above))
