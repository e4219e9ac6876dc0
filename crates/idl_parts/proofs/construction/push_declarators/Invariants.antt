use Rattle.std.proofs.Common.{◌∷◌, ◌++◌, take}
use Rattle.std.specs.List.{flat_map}
use Rattle.idl_lex.specs.declared.kinds.mark.Mark.TheVariants.{Comma}
use Rattle.idl_parts.specs.Item.{Pushes}
use Rattle.idl_parts.specs.Part.{punctuation}
use Rattle.idl_parts.specs.TypeParts.{declarator_parts}
use Rattle.idl_parts.proofs.construction.push_declarators.Given as goal

abbrev pub invariant-loop-declarator : goal.invariant-loop-declarator
invariant-loop-declarator l =
    Pushes l.fn.sites.items l.sites.items
    (declarator_parts l.fn.declaration l.declarators.first
    ++ flat_map (λ x. punctuation Comma ∷ declarator_parts l.fn.declaration x) (take l.declarator-index l.declarators.rest))
