use Rattle.std.proofs.Common.{◌≡◌, [], drop, reverse}
use Rattle.serde_json.specs.View.{view}
use Rattle.idl_json.specs.Types.{layered}
use Rattle.idl_json.proofs.types.layered.Given as goal

-- what is left to do with the layers behind gives all
abbrev pub invariant-layers : goal.invariant-layers
invariant-layers l =
    layered (view l.inner) (reverse l.lengths.items) (drop l.layer-index l.layers) ≡ layered (view l.initial.inner) [] l.layers
