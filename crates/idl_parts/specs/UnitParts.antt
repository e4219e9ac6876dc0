-- The parts of units: one equation for each line of the grammar.
use Rattle.std.specs.Prelude.{ℕ, Bool, true, false, List, [], ◌∷◌, ◌++◌, flat_map, Option, None, Some}
use Rattle.idl_lex.specs.declared.kinds.keyword.Keyword.TheVariants as word
use Rattle.idl_lex.specs.declared.kinds.mark.Mark.TheVariants as mark
use Rattle.idl_parts.specs.ConstructionParts.{construction_parts, member_parts, member_type_parts}
use Rattle.idl_parts.specs.ExpressionParts.{value_parts}
use Rattle.idl_parts.specs.Part.{Parts, Plain, Declares, Uses, Says, Identifies, ScopeBegins, ScopeEnds, GivesBack, declared, if_some, keyword_part, listed, punctuation, raised, used}
use Rattle.idl_parts.specs.TypeParts.{constant_type_parts, declarator_parts, type_parts}
use Rattle.idl_parts.specs.declared.part.Declaration.TheVariants as declaration
use Rattle.idl_parts.specs.declared.part.Purpose.TheVariants as target
use Rattle.idl_parts.specs.declared.part.TextPurpose.TheVariants.{Context, Id, Prefix}
use Rattle.idl_parts.specs.declared.part.Use.TheVariants.{AsBase, AsIdentified, AsPrefixed, Raised, RaisedBySet}
use Rattle.idl_tree.specs.Interface.{spell_direction, spell_local}
use Rattle.idl_tree.specs.Lexeme.{Word, Punctuation}
use Rattle.idl_tree.specs.declared.declarations.attribute.Attribute.{Attribute}
use Rattle.idl_tree.specs.declared.declarations.attribute.AttributeNames.{AttributeNames}
use Rattle.idl_tree.specs.declared.declarations.attribute.AttributeNames.TheVariants as names
use Rattle.idl_tree.specs.declared.declarations.attribute.AttributeRaises.{AttributeRaises}
use Rattle.idl_tree.specs.declared.declarations.attribute.AttributeRaises.TheVariants.{Get, Set}
use Rattle.idl_tree.specs.declared.declarations.attribute.ReadonlyAttribute.{ReadonlyAttribute}
use Rattle.idl_tree.specs.declared.declarations.attribute.ReadonlyNames.{ReadonlyNames}
use Rattle.idl_tree.specs.declared.declarations.attribute.ReadonlyNames.TheVariants as readonly
use Rattle.idl_tree.specs.declared.declarations.data_type.TypeTree.{TypeTree}
use Rattle.idl_tree.specs.declared.declarations.interface.Forward.{Forward}
use Rattle.idl_tree.specs.declared.declarations.interface.Forward.TheVariants as forward
use Rattle.idl_tree.specs.declared.declarations.interface.Interface.{Interface}
use Rattle.idl_tree.specs.declared.name.ScopedName.{ScopedName}
use Rattle.idl_tree.specs.declared.declarations.operation.Direction.{Direction}
use Rattle.idl_tree.specs.declared.declarations.operation.Direction.TheVariants.{In}
use Rattle.idl_tree.specs.declared.declarations.operation.Operation.{Operation}
use Rattle.idl_tree.specs.declared.declarations.operation.Parameter.{Parameter}
use Rattle.idl_tree.specs.declared.several.Several.{Several}
use Rattle.idl_tree.specs.declared.unit.Constant.{Constant}
use Rattle.idl_tree.specs.declared.unit.Exception.{Exception}
use Rattle.idl_tree.specs.declared.unit.Tree.{Tree}
use Rattle.idl_tree.specs.declared.unit.Tree.TheVariants as tree
use Rattle.idl_tree.specs.declared.unit.Typedef.{Typedef}
use Rattle.idl_tree.specs.declared.unit.Typeid.{Typeid}
use Rattle.idl_tree.specs.declared.unit.Typeprefix.{Typeprefix}

-- "module" ID "{"
abbrev pub module_parts : List ℕ → Parts
module_parts name =
    keyword_part word.Module ∷ Declares declaration.Module name ∷ punctuation mark.OpenBrace ∷ []

-- "native" ID
abbrev pub native_parts : List ℕ → Parts
native_parts name = keyword_part word.Native ∷ Declares declaration.Native name ∷ []

-- ":" name/","
abbrev pub bases_parts : Bool → Several ScopedName → Parts
bases_parts is_local bases = punctuation mark.Colon ∷ used (AsBase is_local) bases

-- ["local"] "interface" ID [":" name/","] "{"
abbrev pub interface_parts : Interface → Parts
interface_parts i =
    Plain (spell_local i.is_local ++ Word word.Interface ∷ [])
    ∷ Declares (declaration.Interface i.is_local) i.name
    ∷ (if_some (bases_parts i.is_local) i.bases ++ punctuation mark.OpenBrace ∷ [])

-- forward = ["local"] "interface" ID | "struct" ID | "union" ID
abbrev pub forward_parts : Forward → Parts
forward_parts (forward.Interface is_local name) =
    Plain (spell_local is_local ++ Word word.Interface ∷ [])
    ∷ Declares (declaration.InterfaceAhead is_local) name ∷ []
forward_parts (forward.Structure name) =
    keyword_part word.Struct ∷ Declares declaration.StructureAhead name ∷ []
forward_parts (forward.Union name) =
    keyword_part word.Union ∷ Declares declaration.UnionAhead name ∷ []

-- typedef = "typedef" ( type | constr ) declr/","
abbrev pub typedef_parts : Typedef → Parts
typedef_parts t =
    keyword_part word.Typedef
    ∷ (member_type_parts t.kind ++ listed (declarator_parts declaration.Alias) t.declarators)

-- const = "const" ctype ID "=" expr
abbrev pub constant_parts : Constant → Parts
constant_parts c =
    keyword_part word.Const
    ∷ (constant_type_parts c.kind
    ++ Declares declaration.Constant c.name ∷ punctuation mark.Equals
    ∷ value_parts target.Constant c.value)

-- except = "exception" ID "{" member* "}"
abbrev pub exception_parts : Exception → Parts
exception_parts e =
    keyword_part word.Exception ∷ Declares declaration.Exception e.name ∷ punctuation mark.OpenBrace
    ∷ ScopeBegins declaration.Exception e.name
    ∷ (flat_map member_parts e.members ++ ScopeEnds ∷ punctuation mark.CloseBrace ∷ [])

-- excs = "getraises" list [ "setraises" list ] | "setraises" list
abbrev pub exceptions_parts : AttributeRaises → Parts
exceptions_parts (Get ns set) =
    raised Raised word.Getraises ns ++ if_some (raised RaisedBySet word.Setraises) set
exceptions_parts (Set ns) = raised RaisedBySet word.Setraises ns

-- of attributes that are readonly or not
abbrev pub attribute_names : Bool → Several (List ℕ) → Parts
attribute_names is_readonly names = listed (declared (declaration.Attribute is_readonly)) names

-- ID raises | ID/","
abbrev pub readonly_names_parts : ReadonlyNames → Parts
readonly_names_parts (readonly.Raising name ns) =
    Declares (declaration.Attribute true) name ∷ raised Raised word.Raises ns
readonly_names_parts (readonly.Plain ids) = attribute_names true ids

-- ID excs | ID/","
abbrev pub attribute_names_parts : AttributeNames → Parts
attribute_names_parts (names.Raising name raises) =
    Declares (declaration.Attribute false) name ∷ exceptions_parts raises
attribute_names_parts (names.Plain ids) = attribute_names false ids

-- "readonly" "attribute" type ( ID raises | ID/"," )
abbrev pub readonly_attribute_parts : ReadonlyAttribute → Parts
readonly_attribute_parts a =
    Plain (Word word.Readonly ∷ Word word.Attribute ∷ [])
    ∷ (type_parts a.kind ++ readonly_names_parts a.names)

-- "attribute" type ( ID excs | ID/"," )
abbrev pub attribute_parts : Attribute → Parts
attribute_parts a =
    keyword_part word.Attribute ∷ (type_parts a.kind ++ attribute_names_parts a.names)

-- ["oneway"]
abbrev pub oneway_parts : Bool → Parts
oneway_parts true = keyword_part word.Oneway ∷ []
oneway_parts false = []

-- before what an operation gives back, where it is a oneway one
abbrev pub given_back : Bool → Parts
given_back true = GivesBack ∷ []
given_back false = []

-- "void" | type
abbrev pub result_parts : Bool → Option TypeTree → Parts
result_parts is_oneway None = keyword_part word.Void ∷ []
result_parts is_oneway (Some t) = given_back is_oneway ++ type_parts t

-- "in" | "out" | "inout"
abbrev pub direction_parts : Bool → Direction → Parts
direction_parts is_oneway In = Plain (spell_direction In) ∷ []
direction_parts is_oneway other = given_back is_oneway ++ Plain (spell_direction other) ∷ []

-- param = ( "in" | "out" | "inout" ) type ID
abbrev pub parameter_parts : Bool → Parameter → Parts
parameter_parts is_oneway p =
    direction_parts is_oneway p.direction
    ++ (type_parts p.kind ++ Declares (declaration.Parameter p.direction) p.name ∷ [])

-- raises = "raises" list
abbrev pub raises_parts : Bool → Several ScopedName → Parts
raises_parts is_oneway names = given_back is_oneway ++ raised Raised word.Raises names

-- "context" "(" text/"," ")"
abbrev pub context_parts : Several (Several (List ℕ)) → Parts
context_parts texts =
    Plain (Word word.Context ∷ Punctuation mark.OpenParenthesis ∷ [])
    ∷ (listed (λ text. Says Context text ∷ []) texts ++ punctuation mark.CloseParenthesis ∷ [])

-- oper = ["oneway"] ( "void" | type ) ID "(" [ param/"," ] ")" [raises]
--     [ "context" "(" text/"," ")" ]; its scope begins with the parameters
abbrev pub operation_parts : Operation → Parts
operation_parts o =
    oneway_parts o.is_oneway
    ++ (result_parts o.is_oneway o.result
    ++ Declares (declaration.Operation o.is_oneway) o.name
    ∷ ScopeBegins (declaration.Operation o.is_oneway) o.name
    ∷ punctuation mark.OpenParenthesis
    ∷ (if_some (listed (parameter_parts o.is_oneway)) o.parameters
    ++ punctuation mark.CloseParenthesis
    ∷ (if_some (raises_parts o.is_oneway) o.raises
    ++ (if_some context_parts o.context ++ ScopeEnds ∷ []))))

-- "typeid" name text; what the text says is known at the name
abbrev pub typeid_parts : Typeid → Parts
typeid_parts t =
    keyword_part word.Typeid ∷ Identifies t.text ∷ Uses AsIdentified t.name ∷ Says Id t.text ∷ []

-- ["="]
abbrev pub equals_parts : Bool → Parts
equals_parts true = punctuation mark.Equals ∷ []
equals_parts false = []

-- "typeprefix" name ["="] text
abbrev pub typeprefix_parts : Typeprefix → Parts
typeprefix_parts t =
    keyword_part word.Typeprefix ∷ Identifies t.text ∷ Uses AsPrefixed t.name
    ∷ (equals_parts t.has_equals ++ Says Prefix t.text ∷ [])

-- a declaration with its `;`
abbrev pub ended : Parts → Parts
ended parts = parts ++ punctuation mark.Semicolon ∷ []

unfoldable pub unit_parts : Tree → Parts
unit_parts tree.Closing = Plain (Punctuation mark.CloseBrace ∷ Punctuation mark.Semicolon ∷ []) ∷ []
unit_parts (tree.Module name) = module_parts name
unit_parts (tree.Interface i) = interface_parts i
unit_parts (tree.Forward f) = ended (forward_parts f)
unit_parts (tree.Typedef t) = ended (typedef_parts t)
unit_parts (tree.Construction c) = ended (construction_parts c)
unit_parts (tree.Native name) = ended (native_parts name)
unit_parts (tree.Constant c) = ended (constant_parts c)
unit_parts (tree.Exception e) = ended (exception_parts e)
unit_parts (tree.ReadonlyAttribute a) = ended (readonly_attribute_parts a)
unit_parts (tree.Attribute a) = ended (attribute_parts a)
unit_parts (tree.Operation o) = ended (operation_parts o)
unit_parts (tree.Typeid t) = ended (typeid_parts t)
unit_parts (tree.Typeprefix t) = ended (typeprefix_parts t)
