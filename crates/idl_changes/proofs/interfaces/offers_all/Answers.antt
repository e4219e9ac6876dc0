use Rattle.std.proofs.Common.{◌∙◌, ◌+◌, ◌<◌, ◌&&◌, ℕ, All, Bool, List, ap, drop, length, subst, sym}
use Rattle.std.specs.List.{list_all}
use Rattle.idl_changes.specs.Listing.{name_at}
use Rattle.idl_changes.specs.Offered.{called_in, is_offered}
use Rattle.idl_changes.proofs.SideLemmas.{called-within}
use Rattle.idl_changes.proofs.StepLemmas.{all-left, all-next}
use Rattle.idl_repo.specs.declared.details.row_tree.RowTree.{RowTree}
use Rattle.idl_changes.proofs.interfaces.offers_all.Goals as goal

pub offers_one-requires : goal.offers_one-requires
offers_one-requires c =
    let new = c.args.sides.now.1 in
    let are = c.called_in-called.ensures ∙ ap (λ (L : List RowTree). called_in L c.args.scope) c.after.ensures in
    let all : All (λ n. n < length new) c.called_in-called.result.now = subst (λ (ks : List ℕ). All (λ n. n < length new) ks) (sym are) (called-within new c.args.scope) in
    all c.loop-place.place-index 0 c.loop-place-test.true

pub loop-place-preserved : goal.loop-place-preserved
loop-place-preserved c =
    let new = c.args.sides.now.1 in
    let test = λ (h : ℕ). is_offered c.args.sides.now.0 c.args.interface (name_at new h) in
    let are = c.called_in-called.ensures ∙ ap (λ (L : List RowTree). called_in L c.args.scope) c.after.ensures in
    let i = c.loop-place.place-index in
    ap (λ (b : Bool). b && list_all test (drop (i + 1) (called_in new c.args.scope))) (sym (sym c.in_ok-is_offered.ensures ∙ c.if-not-is_offered.false))
    ∙ sym (all-next test c.called_in-called.result.now (called_in new c.args.scope) are i c.loop-place-test.true)
    ∙ c.loop-place.invariant

pub returns-then-not-is_offered : goal.returns-then-not-is_offered
returns-then-not-is_offered c =
    let new = c.args.sides.now.1 in
    let test = λ (h : ℕ). is_offered c.args.sides.now.0 c.args.interface (name_at new h) in
    let are = c.called_in-called.ensures ∙ ap (λ (L : List RowTree). called_in L c.args.scope) c.after.ensures in
    let i = c.loop-place.place-index in
    ap (λ (b : Bool). b && list_all test (drop (i + 1) (called_in new c.args.scope))) (sym (sym c.in_ok-is_offered.ensures ∙ c.if-not-is_offered.true))
    ∙ sym (all-next test c.called_in-called.result.now (called_in new c.args.scope) are i c.loop-place-test.true)
    ∙ c.loop-place.invariant

pub returns : goal.returns
returns c =
    let new = c.args.sides.now.1 in
    let test = λ (h : ℕ). is_offered c.args.sides.now.0 c.args.interface (name_at new h) in
    let are = c.called_in-called.ensures ∙ ap (λ (L : List RowTree). called_in L c.args.scope) c.after.ensures in
    sym (all-left test c.called_in-called.result.now (called_in new c.args.scope) are c.loop-place.place-index c.loop-place-test.false) ∙ c.loop-place.invariant
