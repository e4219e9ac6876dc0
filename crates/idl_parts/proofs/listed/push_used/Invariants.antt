use Rattle.std.proofs.Common.{[], ◌∷◌, ◌++◌, take}
use Rattle.std.specs.List.{flat_map}
use Rattle.idl_lex.specs.declared.kinds.mark.Mark.TheVariants.{Comma}
use Rattle.idl_parts.specs.Item.{Pushes}
use Rattle.idl_parts.specs.Part.{Uses, punctuation}
use Rattle.idl_parts.proofs.listed.push_used.Given as goal

abbrev pub invariant-loop-name : goal.invariant-loop-name
invariant-loop-name l =
    Pushes l.fn.sites.items l.sites.items
    ((Uses l.way l.names.first ∷ []) ++ flat_map (λ x. punctuation Comma ∷ Uses l.way x ∷ []) (take l.name-index l.names.rest))
