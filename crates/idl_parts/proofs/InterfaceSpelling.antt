-- The parts of interfaces, attributes and operations are spelled as these are.
use Rattle.std.proofs.Common.{◌≡◌, ◌∙◌, ℕ, Bool, true, false, List, [], ◌∷◌, ◌++◌, Option, None, Some, refl, ap, append_assoc}
use Rattle.std.proofs.lemmas.List.{append-nil}
use Rattle.idl_lex.specs.declared.kinds.keyword.Keyword.{Keyword}
use Rattle.idl_lex.specs.declared.kinds.keyword.Keyword.TheVariants as word
use Rattle.idl_lex.specs.declared.kinds.mark.Mark.TheVariants as mark
use Rattle.idl_parts.specs.Part.{Parts, Plain, Declares, Says, ScopeBegins, ScopeEnds, Uses, declared, if_some, listed, punctuation, raised, spell_parts, used}
use Rattle.idl_parts.specs.TypeParts.{type_parts}
use Rattle.idl_parts.specs.UnitParts.{attribute_names_parts, attribute_parts, bases_parts, context_parts, direction_parts, exceptions_parts, forward_parts, given_back, interface_parts, oneway_parts, operation_parts, parameter_parts, raises_parts, readonly_attribute_parts, readonly_names_parts, result_parts}
use Rattle.idl_parts.specs.declared.part.Declaration.TheVariants as declaration
use Rattle.idl_parts.specs.declared.part.TextPurpose.TheVariants.{Context}
use Rattle.idl_parts.specs.declared.part.Use.{Use}
use Rattle.idl_parts.specs.declared.part.Use.TheVariants.{AsBase, AsType, Raised, RaisedBySet}
use Rattle.idl_tree.specs.DataType.{spell_type}
use Rattle.idl_tree.specs.Interface.{spell_attribute, spell_attribute_names, spell_bases, spell_context, spell_direction, spell_exceptions, spell_forward, spell_identifiers, spell_interface, spell_list, spell_local, spell_oneway, spell_operation, spell_parameter, spell_raises, spell_readonly_attribute, spell_readonly_names, spell_result, spell_setraises, spell_text}
use Rattle.idl_tree.specs.Lexeme.{Lexemes, Identifier, Punctuation, Word}
use Rattle.idl_tree.specs.Name.{spell_name}
use Rattle.idl_tree.specs.Several.{spell_if, spell_listed}
use Rattle.idl_tree.specs.declared.declarations.attribute.Attribute.{Attribute}
use Rattle.idl_tree.specs.declared.declarations.attribute.AttributeNames.{AttributeNames}
use Rattle.idl_tree.specs.declared.declarations.attribute.AttributeNames.TheVariants as names
use Rattle.idl_tree.specs.declared.declarations.attribute.AttributeRaises.{AttributeRaises}
use Rattle.idl_tree.specs.declared.declarations.attribute.AttributeRaises.TheVariants.{Get, Set}
use Rattle.idl_tree.specs.declared.declarations.attribute.ReadonlyAttribute.{ReadonlyAttribute}
use Rattle.idl_tree.specs.declared.declarations.attribute.ReadonlyNames.{ReadonlyNames}
use Rattle.idl_tree.specs.declared.declarations.attribute.ReadonlyNames.TheVariants as readonly
use Rattle.idl_tree.specs.declared.declarations.data_type.TypeTree.{TypeTree}
use Rattle.idl_tree.specs.declared.declarations.interface.Forward.{Forward}
use Rattle.idl_tree.specs.declared.declarations.interface.Forward.TheVariants as forward
use Rattle.idl_tree.specs.declared.declarations.interface.Interface.{Interface}
use Rattle.idl_tree.specs.declared.name.ScopedName.{ScopedName}
use Rattle.idl_tree.specs.declared.declarations.operation.Direction.{Direction}
use Rattle.idl_tree.specs.declared.declarations.operation.Direction.TheVariants.{In, InOut, Out}
use Rattle.idl_tree.specs.declared.declarations.operation.Operation.{Operation}
use Rattle.idl_tree.specs.declared.declarations.operation.Parameter.{Parameter}
use Rattle.idl_tree.specs.declared.several.Several.{Several}
use Rattle.idl_parts.proofs.PartSpelling.{spells-if, spells-listed, spells-then}
use Rattle.idl_parts.proofs.TypeSpelling.{type_spells}

names_spell : (way : Use) (ns : Several ScopedName) → spell_parts (used way ns) ≡ spell_listed spell_name ns
names_spell way ns = spells-listed (λ name. Uses way name ∷ []) spell_name (λ name. append-nil (spell_name name)) ns

list_spells : (way : Use) (ns : Several ScopedName) → spell_parts (used way ns ++ punctuation mark.CloseParenthesis ∷ []) ≡ spell_listed spell_name ns ++ Punctuation mark.CloseParenthesis ∷ []
list_spells way ns = spells-then (used way ns) (punctuation mark.CloseParenthesis ∷ []) (spell_listed spell_name ns) (Punctuation mark.CloseParenthesis ∷ []) (names_spell way ns) refl

raised_spells : (way : Use) (keyword : Keyword) (ns : Several ScopedName) → spell_parts (raised way keyword ns) ≡ Word keyword ∷ spell_list ns
raised_spells way keyword ns = ap (λ (w : Lexemes). Word keyword ∷ Punctuation mark.OpenParenthesis ∷ w) (list_spells way ns)

bases_spell : (is_local : Bool) (bases : Option (Several ScopedName)) → spell_parts (if_some (bases_parts is_local) bases) ≡ spell_bases bases
bases_spell is_local None = refl
bases_spell is_local (Some bases) = ap (λ (w : Lexemes). Punctuation mark.Colon ∷ w) (names_spell (AsBase is_local) bases)

pub interface_spells : (i : Interface) → spell_parts (interface_parts i) ≡ spell_interface i
interface_spells i =
    append_assoc (spell_local i.is_local) (Word word.Interface ∷ []) (spell_parts (Declares (declaration.Interface i.is_local) i.name ∷ (if_some (bases_parts i.is_local) i.bases ++ punctuation mark.OpenBrace ∷ [])))
    ∙ ap (λ (w : Lexemes). spell_local i.is_local ++ (Word word.Interface ∷ Identifier i.name ∷ w))
    (spells-then (if_some (bases_parts i.is_local) i.bases) (punctuation mark.OpenBrace ∷ []) (spell_bases i.bases) (Punctuation mark.OpenBrace ∷ []) (bases_spell i.is_local i.bases) refl)

pub forward_spells : (f : Forward) → spell_parts (forward_parts f) ≡ spell_forward f
forward_spells (forward.Interface is_local name) = append_assoc (spell_local is_local) (Word word.Interface ∷ []) (Identifier name ∷ [])
forward_spells (forward.Structure name) = refl
forward_spells (forward.Union name) = refl

identifiers_spell : (is_readonly : Bool) (ids : Several (List ℕ)) → spell_parts (listed (declared (declaration.Attribute is_readonly)) ids) ≡ spell_identifiers ids
identifiers_spell is_readonly ids = spells-listed (declared (declaration.Attribute is_readonly)) (λ name. Identifier name ∷ []) (λ name. refl) ids

readonly_names_spell : (n : ReadonlyNames) → spell_parts (readonly_names_parts n) ≡ spell_readonly_names n
readonly_names_spell (readonly.Raising name ns) = ap (λ (w : Lexemes). Identifier name ∷ w) (raised_spells Raised word.Raises ns)
readonly_names_spell (readonly.Plain ids) = identifiers_spell true ids

pub readonly_attribute_spells : (a : ReadonlyAttribute) → spell_parts (readonly_attribute_parts a) ≡ spell_readonly_attribute a
readonly_attribute_spells a =
    ap (λ (w : Lexemes). Word word.Readonly ∷ Word word.Attribute ∷ w)
    (spells-then (type_parts a.kind) (readonly_names_parts a.names) (spell_type a.kind) (spell_readonly_names a.names) (type_spells a.kind AsType) (readonly_names_spell a.names))

exceptions_spell : (r : AttributeRaises) → spell_parts (exceptions_parts r) ≡ spell_exceptions r
exceptions_spell (Get ns set) =
    spells-then (raised Raised word.Getraises ns) (if_some (raised RaisedBySet word.Setraises) set) (Word word.Getraises ∷ spell_list ns) (spell_if spell_setraises set)
    (raised_spells Raised word.Getraises ns) (spells-if (raised RaisedBySet word.Setraises) spell_setraises (raised_spells RaisedBySet word.Setraises) set)
exceptions_spell (Set ns) = raised_spells RaisedBySet word.Setraises ns

attribute_names_spell : (n : AttributeNames) → spell_parts (attribute_names_parts n) ≡ spell_attribute_names n
attribute_names_spell (names.Raising name raises) = ap (λ (w : Lexemes). Identifier name ∷ w) (exceptions_spell raises)
attribute_names_spell (names.Plain ids) = identifiers_spell false ids

pub attribute_spells : (a : Attribute) → spell_parts (attribute_parts a) ≡ spell_attribute a
attribute_spells a =
    ap (λ (w : Lexemes). Word word.Attribute ∷ w)
    (spells-then (type_parts a.kind) (attribute_names_parts a.names) (spell_type a.kind) (spell_attribute_names a.names) (type_spells a.kind AsType) (attribute_names_spell a.names))

oneway_spells : (is_oneway : Bool) → spell_parts (oneway_parts is_oneway) ≡ spell_oneway is_oneway
oneway_spells true = refl
oneway_spells false = refl

-- the mark before what is given back has no tokens
given_back_spells : (is_oneway : Bool) (p : Parts) (a : Lexemes) → spell_parts p ≡ a → spell_parts (given_back is_oneway ++ p) ≡ a
given_back_spells true p a h = h
given_back_spells false p a h = h

result_spells : (is_oneway : Bool) (t : Option TypeTree) → spell_parts (result_parts is_oneway t) ≡ spell_result t
result_spells is_oneway None = refl
result_spells is_oneway (Some t) = given_back_spells is_oneway (type_parts t) (spell_type t) (type_spells t AsType)

direction_spells : (is_oneway : Bool) (d : Direction) → spell_parts (direction_parts is_oneway d) ≡ spell_direction d
direction_spells is_oneway In = refl
direction_spells is_oneway Out = given_back_spells is_oneway (Plain (spell_direction Out) ∷ []) (spell_direction Out) refl
direction_spells is_oneway InOut = given_back_spells is_oneway (Plain (spell_direction InOut) ∷ []) (spell_direction InOut) refl

parameter_spells : (is_oneway : Bool) (p : Parameter) → spell_parts (parameter_parts is_oneway p) ≡ spell_parameter p
parameter_spells is_oneway p =
    spells-then (direction_parts is_oneway p.direction) (type_parts p.kind ++ Declares (declaration.Parameter p.direction) p.name ∷ [])
    (spell_direction p.direction) (spell_type p.kind ++ Identifier p.name ∷ []) (direction_spells is_oneway p.direction)
    (spells-then (type_parts p.kind) (Declares (declaration.Parameter p.direction) p.name ∷ []) (spell_type p.kind) (Identifier p.name ∷ []) (type_spells p.kind AsType) refl)

raises_spell : (is_oneway : Bool) (ns : Several ScopedName) → spell_parts (raises_parts is_oneway ns) ≡ spell_raises ns
raises_spell is_oneway ns = given_back_spells is_oneway (raised Raised word.Raises ns) (spell_raises ns) (raised_spells Raised word.Raises ns)

context_spells : (texts : Several (Several (List ℕ))) → spell_parts (context_parts texts) ≡ spell_context texts
context_spells texts =
    ap (λ (w : Lexemes). Word word.Context ∷ Punctuation mark.OpenParenthesis ∷ w)
    (spells-then (listed (λ text. Says Context text ∷ []) texts) (punctuation mark.CloseParenthesis ∷ []) (spell_listed spell_text texts) (Punctuation mark.CloseParenthesis ∷ [])
    (spells-listed (λ text. Says Context text ∷ []) spell_text (λ text. append-nil (spell_text text)) texts) refl)

pub operation_spells : (o : Operation) → spell_parts (operation_parts o) ≡ spell_operation o
operation_spells o =
    let parameters = if_some (listed (parameter_parts o.is_oneway)) o.parameters in
    let raises = if_some (raises_parts o.is_oneway) o.raises in
    let context = if_some context_parts o.context in
    let last : Parts = raises ++ (context ++ ScopeEnds ∷ []) in
    let end : Lexemes = spell_if spell_raises o.raises ++ spell_if spell_context o.context in
    let inside : Parts = parameters ++ punctuation mark.CloseParenthesis ∷ last in
    let within : Lexemes = spell_if (spell_listed spell_parameter) o.parameters ++ (Punctuation mark.CloseParenthesis ∷ end) in
    let behind : spell_parts (context ++ ScopeEnds ∷ []) ≡ spell_if spell_context o.context =
    spells-then context (ScopeEnds ∷ []) (spell_if spell_context o.context) [] (spells-if context_parts spell_context context_spells o.context) refl
    ∙ append-nil (spell_if spell_context o.context) in
    let ends : spell_parts last ≡ end =
    spells-then raises (context ++ ScopeEnds ∷ []) (spell_if spell_raises o.raises) (spell_if spell_context o.context)
    (spells-if (raises_parts o.is_oneway) spell_raises (raises_spell o.is_oneway) o.raises) behind in
    let spelled : spell_parts inside ≡ within =
    spells-then parameters (punctuation mark.CloseParenthesis ∷ last) (spell_if (spell_listed spell_parameter) o.parameters) (Punctuation mark.CloseParenthesis ∷ end)
    (spells-if (listed (parameter_parts o.is_oneway)) (spell_listed spell_parameter) (spells-listed (parameter_parts o.is_oneway) spell_parameter (parameter_spells o.is_oneway)) o.parameters)
    (ap (λ (w : Lexemes). Punctuation mark.CloseParenthesis ∷ w) ends) in
    let head : Parts = result_parts o.is_oneway o.result ++ Declares (declaration.Operation o.is_oneway) o.name ∷ ScopeBegins (declaration.Operation o.is_oneway) o.name ∷ punctuation mark.OpenParenthesis ∷ inside in
    let front : Lexemes = spell_result o.result ++ (Identifier o.name ∷ Punctuation mark.OpenParenthesis ∷ within) in
    spells-then (oneway_parts o.is_oneway) head (spell_oneway o.is_oneway) front (oneway_spells o.is_oneway)
    (spells-then (result_parts o.is_oneway o.result) (Declares (declaration.Operation o.is_oneway) o.name ∷ ScopeBegins (declaration.Operation o.is_oneway) o.name ∷ punctuation mark.OpenParenthesis ∷ inside)
    (spell_result o.result) (Identifier o.name ∷ Punctuation mark.OpenParenthesis ∷ within) (result_spells o.is_oneway o.result)
    (ap (λ (w : Lexemes). Identifier o.name ∷ Punctuation mark.OpenParenthesis ∷ w) spelled))
