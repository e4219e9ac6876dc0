use Rattle.std.proofs.Common.{◌∷◌, ◌++◌, take}
use Rattle.std.specs.List.{flat_map}
use Rattle.idl_lex.specs.declared.kinds.mark.Mark.TheVariants.{Comma}
use Rattle.idl_parts.specs.Item.{Pushes}
use Rattle.idl_parts.specs.Part.{punctuation}
use Rattle.idl_parts.specs.UnitParts.{parameter_parts}
use Rattle.idl_parts.proofs.interface.push_several_parameters.Given as goal

abbrev pub invariant-loop-parameter : goal.invariant-loop-parameter
invariant-loop-parameter l =
    Pushes l.fn.sites.items l.sites.items
    (parameter_parts l.fn.is_oneway l.parameters.first
    ++ flat_map (λ x. punctuation Comma ∷ parameter_parts l.fn.is_oneway x) (take l.parameter-index l.parameters.rest))
