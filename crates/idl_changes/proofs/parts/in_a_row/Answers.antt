use Rattle.std.proofs.Common.{◌∙◌, ◌++◌, ℕ, List, ap, codes, flat_map, refl, sym}
use Rattle.idl_changes.specs.Differences.{in_a_row}
use Rattle.idl_changes.proofs.StepLemmas.{all-told, left-told}
use Rattle.idl_changes.proofs.parts.in_a_row.Goals as goal

pub loop-item-init : goal.loop-item-init
loop-item-init g c =
    let name = g.T.Named.name_of in
    ap (λ (t : List ℕ). t ++ flat_map (λ x. codes " " ++ name x) c.in-Some.others.now) (c.in_ok-row.ensures.items ∙ c.as_bytes.ensures ∙ c.name.ensures)
    ∙ ap (in_a_row name) (sym c.in-Some.ensures.cases.0)

pub loop-item-preserved : goal.loop-item-preserved
loop-item-preserved g c =
    let others = c.in-Some.others.now in
    let row = c.loop-item.row.items in
    left-told (λ x. codes " " ++ g.T.Named.name_of x) others others refl c.loop-item.item-index c.item-item.result row c.push_named.new.text.items _ c.loop-item-test.true c.item-item.is
    (◌∙◌ {A = List ℕ} c.in_ok-push_named.ensures (ap (λ (t : List ℕ). row ++ (codes " " ++ t)) (c.as_bytes-in-loop-item.ensures ∙ c.name-in-loop-item.ensures)))
    c.loop-item.invariant

pub returns : goal.returns
returns g c =
    let others = c.in-Some.others.now in
    all-told (λ x. codes " " ++ g.T.Named.name_of x) others others refl c.loop-item.item-index c.loop-item.row.items _ c.loop-item-test.false c.loop-item.invariant
