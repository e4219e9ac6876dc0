use Rattle.std.proofs.Common.{◌≡◌, [], drop}
use Rattle.idl_changes.specs.Spelled.{layers_spelled}
use Rattle.idl_changes.proofs.spelled.layers_spelled.Given as goal

-- with those that are left around it
abbrev pub invariant-loop-layer : goal.invariant-loop-layer
invariant-loop-layer l =
    layers_spelled l.text.items l.lengths.items (drop l.layer-index l.layers)
    ≡ layers_spelled l.initial.text.items [] l.layers
