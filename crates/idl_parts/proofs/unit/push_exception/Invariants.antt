use Rattle.std.proofs.Common.{◌∷◌, take}
use Rattle.std.specs.List.{flat_map}
use Rattle.idl_lex.specs.declared.kinds.keyword.Keyword.TheVariants as word
use Rattle.idl_lex.specs.declared.kinds.mark.Mark.TheVariants.{OpenBrace}
use Rattle.idl_parts.specs.ConstructionParts.{member_parts}
use Rattle.idl_parts.specs.Item.{Pushes}
use Rattle.idl_parts.specs.Part.{Declares, ScopeBegins, keyword_part, punctuation}
use Rattle.idl_parts.specs.declared.part.Declaration.TheVariants.{Exception}
use Rattle.idl_parts.proofs.unit.push_exception.Given as goal

abbrev pub invariant-loop-member : goal.invariant-loop-member
invariant-loop-member l =
    Pushes l.fn.sites.items l.sites.items
    (keyword_part word.Exception ∷ Declares Exception l.exception.name ∷ punctuation OpenBrace ∷ ScopeBegins Exception l.exception.name
    ∷ flat_map member_parts (take l.member-index l.exception.members))
