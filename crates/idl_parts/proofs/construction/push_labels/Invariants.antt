use Rattle.std.proofs.Common.{◌++◌, take}
use Rattle.std.specs.List.{flat_map}
use Rattle.idl_parts.specs.ConstructionParts.{label_parts}
use Rattle.idl_parts.specs.Item.{Pushes}
use Rattle.idl_parts.proofs.construction.push_labels.Given as goal

abbrev pub invariant-loop-label : goal.invariant-loop-label
invariant-loop-label l =
    Pushes l.fn.sites.items l.sites.items
    (label_parts l.labels.first ++ flat_map label_parts (take l.label-index l.labels.rest))
