-- Interfaces, attributes, operations and declarations ahead.
use Rattle.std.specs.Prelude.{ℕ, Bool, true, false, List, [], ◌∷◌, ◌++◌, Option, None, Some}
use Rattle.idl_lex.specs.declared.kinds.keyword.Keyword.TheVariants as word
use Rattle.idl_lex.specs.declared.kinds.mark.Mark.TheVariants as mark
use Rattle.idl_tree.specs.DataType.{spell_type}
use Rattle.idl_tree.specs.Lexeme.{Lexemes, Word, Punctuation, Identifier, Text}
use Rattle.idl_tree.specs.Name.{spell_name}
use Rattle.idl_tree.specs.Several.{spell_listed, spell_all, spell_if}
use Rattle.idl_tree.specs.declared.declarations.attribute.Attribute.{Attribute}
use Rattle.idl_tree.specs.declared.declarations.attribute.AttributeNames.{AttributeNames}
use Rattle.idl_tree.specs.declared.declarations.attribute.AttributeNames.TheVariants as names
use Rattle.idl_tree.specs.declared.declarations.attribute.AttributeRaises.{AttributeRaises}
use Rattle.idl_tree.specs.declared.declarations.attribute.AttributeRaises.TheVariants.{Get, Set}
use Rattle.idl_tree.specs.declared.declarations.attribute.ReadonlyAttribute.{ReadonlyAttribute}
use Rattle.idl_tree.specs.declared.declarations.attribute.ReadonlyNames.{ReadonlyNames}
use Rattle.idl_tree.specs.declared.declarations.attribute.ReadonlyNames.TheVariants as readonly
use Rattle.idl_tree.specs.declared.declarations.data_type.TypeTree.{TypeTree}
use Rattle.idl_tree.specs.declared.declarations.interface.Forward.{Forward}
use Rattle.idl_tree.specs.declared.declarations.interface.Forward.TheVariants as forward
use Rattle.idl_tree.specs.declared.declarations.interface.Interface.{Interface}
use Rattle.idl_tree.specs.declared.name.ScopedName.{ScopedName}
use Rattle.idl_tree.specs.declared.declarations.operation.Direction.{Direction}
use Rattle.idl_tree.specs.declared.declarations.operation.Direction.TheVariants.{In, Out, InOut}
use Rattle.idl_tree.specs.declared.declarations.operation.Operation.{Operation}
use Rattle.idl_tree.specs.declared.declarations.operation.Parameter.{Parameter}
use Rattle.idl_tree.specs.declared.several.Several.{Several}

abbrev pub spell_local : Bool → Lexemes
spell_local true = Word word.Local ∷ []
spell_local false = []

-- [":" name/","]
abbrev pub spell_bases : Option (Several ScopedName) → Lexemes
spell_bases None = []
spell_bases (Some bases) = Punctuation mark.Colon ∷ spell_listed spell_name bases

-- ["local"] "interface" ID [":" name/","] "{"
abbrev pub spell_interface : Interface → Lexemes
spell_interface i =
    spell_local i.is_local
    ++ (Word word.Interface ∷ Identifier i.name
    ∷ (spell_bases i.bases ++ Punctuation mark.OpenBrace ∷ []))

-- forward = ["local"] "interface" ID | "struct" ID | "union" ID
abbrev pub spell_forward : Forward → Lexemes
spell_forward (forward.Interface is_local name) =
    spell_local is_local ++ (Word word.Interface ∷ Identifier name ∷ [])
spell_forward (forward.Structure name) = Word word.Struct ∷ Identifier name ∷ []
spell_forward (forward.Union name) = Word word.Union ∷ Identifier name ∷ []

-- list = "(" name/"," ")"
abbrev pub spell_list : Several ScopedName → Lexemes
spell_list ns =
    Punctuation mark.OpenParenthesis
    ∷ (spell_listed spell_name ns ++ Punctuation mark.CloseParenthesis ∷ [])

-- raises = "raises" list
abbrev pub spell_raises : Several ScopedName → Lexemes
spell_raises ns = Word word.Raises ∷ spell_list ns

abbrev pub spell_setraises : Several ScopedName → Lexemes
spell_setraises ns = Word word.Setraises ∷ spell_list ns

-- excs = "getraises" list [ "setraises" list ] | "setraises" list
abbrev pub spell_exceptions : AttributeRaises → Lexemes
spell_exceptions (Get ns set) =
    Word word.Getraises ∷ (spell_list ns ++ spell_if spell_setraises set)
spell_exceptions (Set ns) = spell_setraises ns

abbrev pub spell_identifiers : Several (List ℕ) → Lexemes
spell_identifiers ids = spell_listed (λ name. Identifier name ∷ []) ids

-- ID raises | ID/","
abbrev pub spell_readonly_names : ReadonlyNames → Lexemes
spell_readonly_names (readonly.Raising name ns) = Identifier name ∷ spell_raises ns
spell_readonly_names (readonly.Plain ids) = spell_identifiers ids

-- ID excs | ID/","
abbrev pub spell_attribute_names : AttributeNames → Lexemes
spell_attribute_names (names.Raising name raised) = Identifier name ∷ spell_exceptions raised
spell_attribute_names (names.Plain ids) = spell_identifiers ids

-- "readonly" "attribute" type ( ID raises | ID/"," )
abbrev pub spell_readonly_attribute : ReadonlyAttribute → Lexemes
spell_readonly_attribute a =
    Word word.Readonly ∷ Word word.Attribute ∷ (spell_type a.kind ++ spell_readonly_names a.names)

-- "attribute" type ( ID excs | ID/"," )
abbrev pub spell_attribute : Attribute → Lexemes
spell_attribute a = Word word.Attribute ∷ (spell_type a.kind ++ spell_attribute_names a.names)

abbrev pub spell_direction : Direction → Lexemes
spell_direction In = Word word.In ∷ []
spell_direction Out = Word word.Out ∷ []
spell_direction InOut = Word word.Inout ∷ []

-- param = ( "in" | "out" | "inout" ) type ID
abbrev pub spell_parameter : Parameter → Lexemes
spell_parameter p = spell_direction p.direction ++ (spell_type p.kind ++ Identifier p.name ∷ [])

abbrev pub spell_oneway : Bool → Lexemes
spell_oneway true = Word word.Oneway ∷ []
spell_oneway false = []

-- "void" | type
abbrev pub spell_result : Option TypeTree → Lexemes
spell_result None = Word word.Void ∷ []
spell_result (Some t) = spell_type t

-- text: one or more narrow string literals
abbrev pub spell_text : Several (List ℕ) → Lexemes
spell_text pieces = spell_all (λ piece. Text piece ∷ []) pieces

-- "context" "(" text/"," ")"
abbrev pub spell_context : Several (Several (List ℕ)) → Lexemes
spell_context texts =
    Word word.Context ∷ Punctuation mark.OpenParenthesis
    ∷ (spell_listed spell_text texts ++ Punctuation mark.CloseParenthesis ∷ [])

-- oper = ["oneway"] ( "void" | type ) ID "(" [ param/"," ] ")" [raises]
--     [ "context" "(" text/"," ")" ]
abbrev pub spell_operation : Operation → Lexemes
spell_operation o =
    spell_oneway o.is_oneway
    ++ (spell_result o.result ++ (Identifier o.name ∷ Punctuation mark.OpenParenthesis
    ∷ (spell_if (spell_listed spell_parameter) o.parameters ++ (Punctuation mark.CloseParenthesis
    ∷ (spell_if spell_raises o.raises ++ spell_if spell_context o.context)))))
