use Rattle.std.proofs.Common.{◌∷◌, take}
use Rattle.std.specs.List.{flat_map}
use Rattle.idl_parts.specs.Item.{Pushes}
use Rattle.idl_parts.specs.Part.{Declares}
use Rattle.idl_parts.specs.TypeParts.{length_parts}
use Rattle.idl_parts.proofs.data_type.push_declarator.Given as goal

abbrev pub invariant-loop-length : goal.invariant-loop-length
invariant-loop-length l =
    Pushes l.fn.sites.items l.sites.items
    (Declares l.fn.declaration l.declarator.name ∷ flat_map length_parts (take l.length-index l.declarator.lengths))
