-- Structs, unions and enums.
use Rattle.std.specs.Prelude.{[], ◌∷◌, ◌++◌, flat_map, Option, None, Some}
use Rattle.idl_lex.specs.declared.kinds.keyword.Keyword.TheVariants as word
use Rattle.idl_lex.specs.declared.kinds.mark.Mark.TheVariants as mark
use Rattle.idl_tree.specs.DataType.{spell_discrete, spell_type, spell_declarator}
use Rattle.idl_tree.specs.Expression.{spell_expression}
use Rattle.idl_tree.specs.Lexeme.{Lexemes, Word, Punctuation, Identifier}
use Rattle.idl_tree.specs.Name.{spell_name}
use Rattle.idl_tree.specs.Several.{spell_listed, spell_all}
use Rattle.idl_tree.specs.declared.declarations.construction.Case.{Case}
use Rattle.idl_tree.specs.declared.declarations.construction.Construction.{Construction}
use Rattle.idl_tree.specs.declared.declarations.construction.Construction.TheFolds.{fold-Construction, fold-Member, fold-MemberType, fold-Case, fold-Structure, fold-Union}
use Rattle.idl_tree.specs.declared.declarations.construction.Construction.TheOpen.{MemberType-F, Construction-F, Structure-F, Member-F, Union-F, Case-F}
use Rattle.idl_tree.specs.declared.declarations.construction.Discriminator.{Discriminator}
use Rattle.idl_tree.specs.declared.declarations.construction.Discriminator.TheVariants as discriminator
use Rattle.idl_tree.specs.declared.declarations.construction.Enumeration.{Enumeration}
use Rattle.idl_tree.specs.declared.declarations.construction.Label.{Label}
use Rattle.idl_tree.specs.declared.declarations.construction.Label.TheVariants as label
use Rattle.idl_tree.specs.declared.declarations.construction.Member.{Member}
use Rattle.idl_tree.specs.declared.declarations.construction.MemberType.{MemberType}
use Rattle.idl_tree.specs.declared.declarations.construction.Structure.{Structure}
use Rattle.idl_tree.specs.declared.declarations.construction.Union.{Union}
use Rattle.idl_tree.specs.declared.name.ScopedName.{ScopedName}

-- "enum" ID "{" ID/"," "}"
abbrev pub spell_enumeration : Enumeration → Lexemes
spell_enumeration e =
    Word word.Enum ∷ Identifier e.name ∷ Punctuation mark.OpenBrace
    ∷ (spell_listed (λ name. Identifier name ∷ []) e.enumerators
    ++ Punctuation mark.CloseBrace ∷ [])

-- disc
abbrev pub spell_discriminator : Discriminator → Lexemes
spell_discriminator (discriminator.Discrete d) = spell_discrete d
spell_discriminator (discriminator.Name n) = spell_name n

-- label = "case" expr ":" | "default" ":"
abbrev pub spell_label : Label → Lexemes
spell_label (label.Case e) = Word word.Case ∷ (spell_expression e ++ Punctuation mark.Colon ∷ [])
spell_label label.Default = Word word.Default ∷ Punctuation mark.Colon ∷ []

-- type | constr
abbrev pub member_type_step : MemberType-F Lexemes Lexemes Lexemes Lexemes Lexemes Lexemes → Lexemes
member_type_step (MemberType-F.Type t) = spell_type t
member_type_step (MemberType-F.Construction c) = c

abbrev pub construction_step : Construction-F Lexemes Lexemes Lexemes Lexemes Lexemes Lexemes
    → Lexemes
construction_step (Construction-F.Structure s) = s
construction_step (Construction-F.Union u) = u
construction_step (Construction-F.Enumeration e) = spell_enumeration e

-- [":" name]
abbrev pub spell_base : Option ScopedName → Lexemes
spell_base None = []
spell_base (Some n) = Punctuation mark.Colon ∷ spell_name n

-- "struct" ID [":" name] "{" member* "}"
abbrev pub structure_step : Structure-F Lexemes Lexemes Lexemes Lexemes Lexemes Lexemes → Lexemes
structure_step s =
    Word word.Struct ∷ Identifier s.name
    ∷ (spell_base s.base ++ (Punctuation mark.OpenBrace
    ∷ (flat_map (λ m. m) s.members ++ Punctuation mark.CloseBrace ∷ [])))

-- member = ( type | constr ) declr/"," ";"
abbrev pub member_step : Member-F Lexemes Lexemes Lexemes Lexemes Lexemes Lexemes → Lexemes
member_step m =
    m.kind ++ (spell_listed spell_declarator m.declarators ++ Punctuation mark.Semicolon ∷ [])

-- "union" ID "switch" "(" disc ")" "{" case+ "}"
abbrev pub union_step : Union-F Lexemes Lexemes Lexemes Lexemes Lexemes Lexemes → Lexemes
union_step u =
    Word word.Union ∷ Identifier u.name ∷ Word word.Switch ∷ Punctuation mark.OpenParenthesis
    ∷ (spell_discriminator u.discriminator
    ++ (Punctuation mark.CloseParenthesis ∷ Punctuation mark.OpenBrace
    ∷ (u.first ++ (flat_map (λ c. c) u.rest ++ Punctuation mark.CloseBrace ∷ []))))

-- case = label+ ( type | constr ) declr ";"
abbrev pub case_step : Case-F Lexemes Lexemes Lexemes Lexemes Lexemes Lexemes → Lexemes
case_step c =
    spell_all spell_label c.labels
    ++ (c.kind ++ (spell_declarator c.declarator ++ Punctuation mark.Semicolon ∷ []))

unfoldable pub spell_construction : Construction → Lexemes
spell_construction =
    fold-Construction Lexemes Lexemes Lexemes Lexemes Lexemes Lexemes
    construction_step member_type_step case_step member_step structure_step union_step

unfoldable pub spell_member_type : MemberType → Lexemes
spell_member_type =
    fold-MemberType Lexemes Lexemes Lexemes Lexemes Lexemes Lexemes
    construction_step member_type_step case_step member_step structure_step union_step

unfoldable pub spell_case : Case → Lexemes
spell_case =
    fold-Case Lexemes Lexemes Lexemes Lexemes Lexemes Lexemes
    construction_step member_type_step case_step member_step structure_step union_step

unfoldable pub spell_member : Member → Lexemes
spell_member =
    fold-Member Lexemes Lexemes Lexemes Lexemes Lexemes Lexemes
    construction_step member_type_step case_step member_step structure_step union_step

unfoldable pub spell_structure : Structure → Lexemes
spell_structure =
    fold-Structure Lexemes Lexemes Lexemes Lexemes Lexemes Lexemes
    construction_step member_type_step case_step member_step structure_step union_step

unfoldable pub spell_union : Union → Lexemes
spell_union =
    fold-Union Lexemes Lexemes Lexemes Lexemes Lexemes Lexemes
    construction_step member_type_step case_step member_step structure_step union_step
