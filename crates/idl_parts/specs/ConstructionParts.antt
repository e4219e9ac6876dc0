-- The parts of structs, unions and enums.
use Rattle.std.specs.Prelude.{[], ◌∷◌, ◌++◌, flat_map}
use Rattle.idl_lex.specs.declared.kinds.keyword.Keyword.TheVariants as word
use Rattle.idl_lex.specs.declared.kinds.mark.Mark.TheVariants as mark
use Rattle.idl_parts.specs.ExpressionParts.{value_parts}
use Rattle.idl_parts.specs.Part.{Parts, Plain, Declares, Uses, ScopeBegins, ScopeEnds, Enumerates, Switches, Default, all_parts, declared, if_some, keyword_part, listed, punctuation}
use Rattle.idl_parts.specs.TypeParts.{declarator_parts, type_parts}
use Rattle.idl_parts.specs.declared.part.Declaration.TheVariants as declaration
use Rattle.idl_parts.specs.declared.part.Purpose.TheVariants as target
use Rattle.idl_parts.specs.declared.part.Use.TheVariants.{AsDiscriminator, AsStructBase}
use Rattle.idl_tree.specs.DataType.{spell_discrete}
use Rattle.idl_tree.specs.Lexeme.{Word, Punctuation}
use Rattle.idl_tree.specs.declared.declarations.construction.Case.{Case}
use Rattle.idl_tree.specs.declared.declarations.construction.Construction.{Construction}
use Rattle.idl_tree.specs.declared.declarations.construction.Construction.TheFolds.{fold-Construction, fold-Member, fold-MemberType, fold-Case, fold-Structure, fold-Union}
use Rattle.idl_tree.specs.declared.declarations.construction.Construction.TheOpen.{MemberType-F, Construction-F, Structure-F, Member-F, Union-F, Case-F}
use Rattle.idl_tree.specs.declared.declarations.construction.Discriminator.{Discriminator}
use Rattle.idl_tree.specs.declared.declarations.construction.Discriminator.TheVariants as discriminator
use Rattle.idl_tree.specs.declared.declarations.construction.Enumeration.{Enumeration}
use Rattle.idl_tree.specs.declared.declarations.construction.Label.{Label}
use Rattle.idl_tree.specs.declared.declarations.construction.Label.TheVariants as label
use Rattle.idl_tree.specs.declared.declarations.construction.Member.{Member}
use Rattle.idl_tree.specs.declared.declarations.construction.MemberType.{MemberType}
use Rattle.idl_tree.specs.declared.declarations.construction.Structure.{Structure}
use Rattle.idl_tree.specs.declared.declarations.construction.Union.{Union}
use Rattle.idl_tree.specs.declared.name.ScopedName.{ScopedName}

-- "enum" ID "{" ID/"," "}"; the enumerators are declared in the scope around
abbrev pub enumeration_parts : Enumeration → Parts
enumeration_parts e =
    keyword_part word.Enum ∷ Enumerates e.enumerators ∷ Declares declaration.Enumeration e.name
    ∷ punctuation mark.OpenBrace
    ∷ (listed (declared declaration.Enumerator) e.enumerators ++ punctuation mark.CloseBrace ∷ [])

-- disc
abbrev pub discriminator_parts : Discriminator → Parts
discriminator_parts (discriminator.Discrete d) = Switches d ∷ Plain (spell_discrete d) ∷ []
discriminator_parts (discriminator.Name n) = Uses AsDiscriminator n ∷ []

-- label = "case" expr ":" | "default" ":"
abbrev pub label_parts : Label → Parts
label_parts (label.Case e) =
    keyword_part word.Case ∷ (value_parts target.Label e ++ punctuation mark.Colon ∷ [])
label_parts label.Default = Default ∷ Plain (Word word.Default ∷ Punctuation mark.Colon ∷ []) ∷ []

-- type | constr
abbrev pub member_type_step : MemberType-F Parts Parts Parts Parts Parts Parts → Parts
member_type_step (MemberType-F.Type t) = type_parts t
member_type_step (MemberType-F.Construction c) = c

abbrev pub construction_step : Construction-F Parts Parts Parts Parts Parts Parts → Parts
construction_step (Construction-F.Structure s) = s
construction_step (Construction-F.Union u) = u
construction_step (Construction-F.Enumeration e) = enumeration_parts e

-- ":" name; the base is used in the scope around
abbrev pub base_parts : ScopedName → Parts
base_parts name = punctuation mark.Colon ∷ Uses AsStructBase name ∷ []

-- "struct" ID [":" name] "{" member* "}"
abbrev pub structure_step : Structure-F Parts Parts Parts Parts Parts Parts → Parts
structure_step s =
    keyword_part word.Struct ∷ Declares declaration.Structure s.name
    ∷ (if_some base_parts s.base
    ++ punctuation mark.OpenBrace ∷ ScopeBegins declaration.Structure s.name
    ∷ (flat_map (λ m. m) s.members ++ ScopeEnds ∷ punctuation mark.CloseBrace ∷ []))

-- member = ( type | constr ) declr/"," ";"
abbrev pub member_step : Member-F Parts Parts Parts Parts Parts Parts → Parts
member_step m =
    m.kind
    ++ (listed (declarator_parts declaration.Member) m.declarators
    ++ punctuation mark.Semicolon ∷ [])

-- "union" ID "switch" "(" disc ")" "{" case+ "}"; labels are used inside
abbrev pub union_step : Union-F Parts Parts Parts Parts Parts Parts → Parts
union_step u =
    keyword_part word.Union ∷ Declares declaration.Union u.name
    ∷ Plain (Word word.Switch ∷ Punctuation mark.OpenParenthesis ∷ [])
    ∷ (discriminator_parts u.discriminator
    ++ Plain (Punctuation mark.CloseParenthesis ∷ Punctuation mark.OpenBrace ∷ [])
    ∷ ScopeBegins declaration.Union u.name
    ∷ (u.first ++ (flat_map (λ c. c) u.rest ++ ScopeEnds ∷ punctuation mark.CloseBrace ∷ [])))

-- case = label+ ( type | constr ) declr ";"
abbrev pub case_step : Case-F Parts Parts Parts Parts Parts Parts → Parts
case_step c =
    all_parts label_parts c.labels
    ++ (c.kind
    ++ (declarator_parts declaration.Member c.declarator ++ punctuation mark.Semicolon ∷ []))

unfoldable pub construction_parts : Construction → Parts
construction_parts =
    fold-Construction Parts Parts Parts Parts Parts Parts
    construction_step member_type_step case_step member_step structure_step union_step

unfoldable pub member_type_parts : MemberType → Parts
member_type_parts =
    fold-MemberType Parts Parts Parts Parts Parts Parts
    construction_step member_type_step case_step member_step structure_step union_step

unfoldable pub case_parts : Case → Parts
case_parts =
    fold-Case Parts Parts Parts Parts Parts Parts
    construction_step member_type_step case_step member_step structure_step union_step

unfoldable pub member_parts : Member → Parts
member_parts =
    fold-Member Parts Parts Parts Parts Parts Parts
    construction_step member_type_step case_step member_step structure_step union_step

unfoldable pub structure_parts : Structure → Parts
structure_parts =
    fold-Structure Parts Parts Parts Parts Parts Parts
    construction_step member_type_step case_step member_step structure_step union_step

unfoldable pub union_parts : Union → Parts
union_parts =
    fold-Union Parts Parts Parts Parts Parts Parts
    construction_step member_type_step case_step member_step structure_step union_step
