use Rattle.std.proofs.Common.{◌≡◌, ◌++◌, flat_map, take}
use Rattle.idl_repo.specs.TypeCode.{layer_end}
use Rattle.idl_repo.proofs.words.end_layers.Given as goal

-- those before
abbrev pub invariant-loop-layer : goal.invariant-loop-layer
invariant-loop-layer l =
    l.text.items ≡ l.fn.text.items ++ flat_map layer_end (take l.layer-index l.layers)
