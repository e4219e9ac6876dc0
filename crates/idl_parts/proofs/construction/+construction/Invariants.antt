use Rattle.std.proofs.Common.{[], ◌∷◌, ◌++◌, take}
use Rattle.std.specs.List.{flat_map}
use Rattle.idl_lex.specs.declared.kinds.keyword.Keyword.TheVariants as word
use Rattle.idl_lex.specs.declared.kinds.mark.Mark.TheVariants as mark
use Rattle.idl_parts.specs.ConstructionParts.{base_parts, case_parts, discriminator_parts, member_parts}
use Rattle.idl_parts.specs.Item.{Pushes}
use Rattle.idl_parts.specs.Part.{Plain, Declares, ScopeBegins, if_some, keyword_part, punctuation}
use Rattle.idl_parts.specs.declared.part.Declaration.TheVariants as declaration
use Rattle.idl_tree.specs.Lexeme.{Word, Punctuation}
use Rattle.idl_tree.specs.declared.declarations.construction.Structure.{out-Structure}
use Rattle.idl_tree.specs.declared.declarations.construction.Union.{out-Union}
use Rattle.idl_parts.proofs.construction.+construction.Given as goal

abbrev pub invariant-push_structure-loop-member : goal.invariant-push_structure-loop-member
invariant-push_structure-loop-member l =
    Pushes l.fn.sites.items l.sites.items
    (keyword_part word.Struct ∷ Declares declaration.Structure (out-Structure l.structure).name
    ∷ (if_some base_parts (out-Structure l.structure).base
    ++ punctuation mark.OpenBrace ∷ ScopeBegins declaration.Structure (out-Structure l.structure).name
    ∷ flat_map member_parts (take l.member-index (out-Structure l.structure).members)))

abbrev pub invariant-push_union-loop-case : goal.invariant-push_union-loop-case
invariant-push_union-loop-case l =
    Pushes l.fn.sites.items l.sites.items
    (keyword_part word.Union ∷ Declares declaration.Union (out-Union l.union).name ∷ Plain (Word word.Switch ∷ Punctuation mark.OpenParenthesis ∷ [])
    ∷ (discriminator_parts (out-Union l.union).discriminator
    ++ Plain (Punctuation mark.CloseParenthesis ∷ Punctuation mark.OpenBrace ∷ []) ∷ ScopeBegins declaration.Union (out-Union l.union).name
    ∷ (case_parts (out-Union l.union).first ++ flat_map case_parts (take l.case-index (out-Union l.union).rest))))
