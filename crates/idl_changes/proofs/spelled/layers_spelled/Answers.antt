use Rattle.std.proofs.Common.{◌≡◌, ◌∙◌, ◌+◌, ◌<◌, ◌++◌, ◌∷◌, [], ℕ, List, ap, ap₂, drop, get_or, length, sym}
use Rattle.std.proofs.lemmas.List.{drop_all, drop_more}
use Rattle.idl_entity.specs.declared.data_type.Layer.{Layer}
use Rattle.idl_entity.specs.declared.data_type.Layer.TheVariants.{Array, Sequence}
use Rattle.idl_changes.specs.Spelled.{layers_spelled}
use Rattle.idl_changes.proofs.spelled.layers_spelled.Goals as goal
use Rattle.idl_changes.proofs.spelled.layers_spelled.Goals.{in-Array+in_ok-lengths-in-Array, in-Sequence+in_ok-text-in-Sequence}

-- one layer of those that are left
next-layer : (layers : List Layer) (i : ℕ) (d layer : Layer) (text lengths all : List ℕ) → i < length layers → get_or layers i d ≡ layer → layers_spelled text lengths (drop i layers) ≡ all
    → layers_spelled text lengths (layer ∷ drop (i + 1) layers) ≡ all
next-layer layers i d layer text lengths all within is so_far =
    ap (λ (l : Layer). layers_spelled text lengths (l ∷ drop (i + 1) layers)) (sym is) ∙ ap (layers_spelled text lengths) (sym (drop_more layers i d within)) ∙ so_far

pub loop-layer-init : goal.loop-layer-init
loop-layer-init c = ap (λ (ls : List ℕ). layers_spelled c.args.element.items ls c.args.layers.now) c.new-lengths.ensures.items

pub loop-layer-preserved : goal.loop-layer-preserved
loop-layer-preserved c =
    let layers = c.args.layers.now in
    let at = c.loop-layer in
    let i = at.layer-index in
    elim c.match-layer.branch [
      | in-Array+in_ok-lengths-in-Array w ↦
          ap₂ (λ (t ls : List ℕ). layers_spelled t ls (drop (i + 1) layers)) (ap (λ v. v.items) w.text-is) (ap (λ v. v.items) w.lengths-is ∙ w.in_ok-lengths-in-Array.ensures)
          ∙ next-layer layers i _ (Array _) at.text.items at.lengths.items _ c.loop-layer-test.true w.in-Array.is at.invariant
      | in-Sequence+in_ok-text-in-Sequence w ↦
          ap₂ (λ (t ls : List ℕ). layers_spelled t ls (drop (i + 1) layers)) (ap (λ v. v.items) w.text-is ∙ w.in_ok-text-in-Sequence.ensures) (ap (λ v. v.items) w.lengths-is ∙ w.clear.ensures.items)
          ∙ next-layer layers i _ (Sequence _) at.text.items at.lengths.items _ c.loop-layer-test.true w.in-Sequence.is at.invariant
    ]

pub returns : goal.returns
returns c =
    let text = c.loop-layer.text.items in
    let lengths = c.loop-layer.lengths.items in
    c.in_ok-extend_from_slice.ensures.items ∙ ap (λ (ls : List ℕ). text ++ ls) c.deref.ensures.value
    ∙ sym (ap (layers_spelled text lengths) (drop_all c.loop-layer.layer-index c.args.layers.now c.loop-layer-test.false)) ∙ c.loop-layer.invariant
