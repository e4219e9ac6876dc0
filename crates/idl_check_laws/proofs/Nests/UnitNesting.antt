-- The sites of each unit are bracketed, and nest: by its grammar.
use Rattle.idl_parts.specs.declared.part.Declaration.{Declaration}
use Rattle.std.proofs.Common.{◌≡◌, ◌∙◌, ℕ, Bool, true, false, List, [], ◌∷◌, ◌++◌, Option, None, Some, append_assoc, flat_map, is_some, refl, sym, ap, subst, arith}
use Rattle.std.proofs.lemmas.List.{map-append}
use Rattle.idl_lex.specs.declared.kinds.keyword.Keyword.{Keyword}
use Rattle.idl_lex.specs.declared.kinds.keyword.Keyword.TheVariants as word
use Rattle.idl_lex.specs.declared.kinds.mark.Mark.TheVariants as mark
use Rattle.idl_parts.specs.ConstructionParts.{construction_parts, member_parts, member_type_parts}
use Rattle.idl_parts.specs.ExpressionParts.{value_parts}
use Rattle.idl_parts.specs.Item.{item_of, items}
use Rattle.idl_parts.specs.Part.{Part, Parts, Declares, GivesBack, Identifies, Plain, Says, ScopeBegins, ScopeEnds, TypeEnds, Uses, declared, if_some, keyword_part, listed, punctuation, raised, used}
use Rattle.idl_parts.specs.TypeParts.{bound_parts, constant_type_parts, declarator_parts, type_parts}
use Rattle.idl_parts.specs.UnitParts.{attribute_names, attribute_names_parts, attribute_parts, bases_parts, constant_parts, context_parts, direction_parts, ended, equals_parts, exception_parts, exceptions_parts, given_back, interface_parts, native_parts, oneway_parts, operation_parts, parameter_parts, raises_parts, readonly_attribute_parts, readonly_names_parts, result_parts, typedef_parts, typeid_parts, typeprefix_parts, unit_parts}
use Rattle.idl_parts.specs.declared.part.Declaration.TheVariants as declaration
use Rattle.idl_parts.specs.declared.part.Shape.TheVariants.{Text}
use Rattle.idl_parts.specs.declared.part.Purpose.TheVariants as purpose
use Rattle.idl_parts.specs.declared.part.Use.{Use}
use Rattle.idl_parts.specs.declared.part.TextPurpose.TheVariants.{Context, Id, Prefix}
use Rattle.idl_parts.specs.declared.part.Use.TheVariants.{AsBase, AsIdentified, AsPrefixed, Raised, RaisedBySet}
use Rattle.idl_tree.specs.Interface.{spell_direction, spell_local}
use Rattle.idl_tree.specs.Lexeme.{Word, Punctuation, Lexemes}
use Rattle.idl_tree.specs.declared.declarations.attribute.Attribute.{Attribute}
use Rattle.idl_tree.specs.declared.declarations.attribute.AttributeNames.{AttributeNames}
use Rattle.idl_tree.specs.declared.declarations.attribute.AttributeNames.TheVariants as names
use Rattle.idl_tree.specs.declared.declarations.attribute.AttributeRaises.{AttributeRaises}
use Rattle.idl_tree.specs.declared.declarations.attribute.AttributeRaises.TheVariants.{Get, Set}
use Rattle.idl_tree.specs.declared.declarations.attribute.ReadonlyAttribute.{ReadonlyAttribute}
use Rattle.idl_tree.specs.declared.declarations.attribute.ReadonlyNames.{ReadonlyNames}
use Rattle.idl_tree.specs.declared.declarations.attribute.ReadonlyNames.TheVariants as readonly
use Rattle.idl_tree.specs.declared.declarations.data_type.TypeTree.{TypeTree}
use Rattle.idl_tree.specs.declared.declarations.interface.Forward.TheVariants as forward
use Rattle.idl_tree.specs.declared.declarations.interface.Interface.{Interface}
use Rattle.idl_tree.specs.declared.name.ScopedName.{ScopedName}
use Rattle.idl_tree.specs.declared.declarations.operation.Direction.{Direction}
use Rattle.idl_tree.specs.declared.declarations.operation.Direction.TheVariants.{In, InOut, Out}
use Rattle.idl_tree.specs.declared.declarations.operation.Operation.{Operation}
use Rattle.idl_tree.specs.declared.declarations.operation.Parameter.{Parameter}
use Rattle.idl_tree.specs.declared.several.Several.{Several}
use Rattle.idl_tree.specs.declared.unit.Constant.{Constant}
use Rattle.idl_tree.specs.declared.unit.ConstantTypeTree.{ConstantTypeTree}
use Rattle.idl_tree.specs.declared.unit.ConstantTypeTree.TheVariants as constant
use Rattle.idl_tree.specs.declared.unit.Exception.{Exception}
use Rattle.idl_tree.specs.declared.unit.Tree.{Tree}
use Rattle.idl_tree.specs.declared.unit.Tree.TheVariants as tree
use Rattle.idl_tree.specs.declared.unit.Typedef.{Typedef}
use Rattle.idl_tree.specs.declared.unit.Typeid.{Typeid}
use Rattle.idl_tree.specs.declared.unit.Typeprefix.{Typeprefix}
use Rattle.idl_check.specs.walk.Sections.{AreBracketed}
use Rattle.idl_check_laws.proofs.Nests.BracketLemmas.{bracketed-before, bracketed-follow, bracketed-none, bracketed-value}
use Rattle.idl_check_laws.proofs.Nests.ConstructionNesting.{a_type, constant_type, construction, declarator, member, member_type}
use Rattle.idl_check_laws.proofs.Nests.Nesting.{Nests, NestsAt, before, carry, declares, each, ends, follow, maybe, none, one, scope, several, topped, value-fits, value-placed}
use Rattle.idl_check_laws.proofs.Nests.LevelSites.{Around, AreFit, arounds, arounds-append, fit-append, is_level_use}
use Rattle.idl_check_laws.proofs.Nests.Scenes.{ArePlaced, Scene, placed-append, scenes}

-- ---- interfaces

uses : (way : Use) → is_level_use way ≡ true → (ns : Several ScopedName) → Nests (used way ns)
uses way level ns = several (λ name. Uses way name ∷ []) (λ name. one (Uses way name) level) ns

-- the names of exceptions, behind a keyword
raising : (way : Use) → is_level_use way ≡ true → (keyword : Keyword) (ns : Several ScopedName) → Nests (raised way keyword ns)
raising way level keyword ns =
    before (keyword_part keyword) _ refl
    (before (punctuation mark.OpenParenthesis) _ refl (ends (used way ns) (punctuation mark.CloseParenthesis) refl (uses way level ns)))

bases : (is_local : Bool) (ns : Several ScopedName) → Nests (bases_parts is_local ns)
bases is_local ns = before (punctuation mark.Colon) (used (AsBase is_local) ns) refl (uses (AsBase is_local) refl ns)

interface : (i : Interface) → Nests (interface_parts i)
interface i =
    before (Plain (spell_local i.is_local ++ Word word.Interface ∷ [])) _ refl
    (before (Declares (declaration.Interface i.is_local) i.name) _ refl
    (ends (if_some (bases_parts i.is_local) i.bases) (punctuation mark.OpenBrace) refl (maybe (bases_parts i.is_local) (bases i.is_local) i.bases)))

attribute_names_b : (is_readonly : Bool) (ids : Several (List ℕ)) → NestsAt None true 0 (attribute_names is_readonly ids)
attribute_names_b is_readonly ids = several (declared (declaration.Attribute is_readonly)) (λ name. one (Declares (declaration.Attribute is_readonly) name) refl) ids

readonly_names : (n : ReadonlyNames) → NestsAt None true 0 (readonly_names_parts n)
readonly_names (readonly.Raising name ns) = before (Declares (declaration.Attribute true) name) (raised Raised word.Raises ns) refl (topped (raised Raised word.Raises ns) (raising Raised refl word.Raises ns))
readonly_names (readonly.Plain ids) = attribute_names_b true ids

readonly_attribute : (a : ReadonlyAttribute) → NestsAt None true 0 (readonly_attribute_parts a)
readonly_attribute a =
    before (Plain (Word word.Readonly ∷ Word word.Attribute ∷ [])) (type_parts a.kind ++ readonly_names_parts a.names) refl
    (follow (type_parts a.kind) (readonly_names_parts a.names) (topped (type_parts a.kind) (a_type a.kind)) (readonly_names a.names))

exceptions : (r : AttributeRaises) → Nests (exceptions_parts r)
exceptions (Get ns set) =
    follow (raised Raised word.Getraises ns) (if_some (raised RaisedBySet word.Setraises) set) (raising Raised refl word.Getraises ns)
    (maybe (raised RaisedBySet word.Setraises) (raising RaisedBySet refl word.Setraises) set)
exceptions (Set ns) = raising RaisedBySet refl word.Setraises ns

names_of_attributes : (n : AttributeNames) → NestsAt None true 0 (attribute_names_parts n)
names_of_attributes (names.Raising name raises) = before (Declares (declaration.Attribute false) name) (exceptions_parts raises) refl (topped (exceptions_parts raises) (exceptions raises))
names_of_attributes (names.Plain ids) = attribute_names_b false ids

attribute : (a : Attribute) → NestsAt None true 0 (attribute_parts a)
attribute a =
    before (keyword_part word.Attribute) (type_parts a.kind ++ attribute_names_parts a.names) refl
    (follow (type_parts a.kind) (attribute_names_parts a.names) (topped (type_parts a.kind) (a_type a.kind)) (names_of_attributes a.names))

oneway : (is_oneway : Bool) → Nests (oneway_parts is_oneway)
oneway true = one (keyword_part word.Oneway) refl
oneway false = none

-- what may be given back
maybe_given : (is_oneway : Bool) (p : Parts) → Nests p → Nests (given_back is_oneway ++ p)
maybe_given true p n = before GivesBack p refl n
maybe_given false p n = n

result : (is_oneway : Bool) (t : Option TypeTree) → Nests (result_parts is_oneway t)
result is_oneway None = one (keyword_part word.Void) refl
result is_oneway (Some t) = maybe_given is_oneway (type_parts t) (a_type t)

direction : (is_oneway : Bool) (d : Direction) → Nests (direction_parts is_oneway d)
direction is_oneway In = one (Plain (spell_direction In)) refl
direction is_oneway Out = maybe_given is_oneway (Plain (spell_direction Out) ∷ []) (one (Plain (spell_direction Out)) refl)
direction is_oneway InOut = maybe_given is_oneway (Plain (spell_direction InOut) ∷ []) (one (Plain (spell_direction InOut)) refl)

parameter : (is_oneway : Bool) (p : Parameter) → Nests (parameter_parts is_oneway p)
parameter is_oneway p =
    let name : Part Lexemes = Declares (declaration.Parameter p.direction) p.name in
    follow (direction_parts is_oneway p.direction) (type_parts p.kind ++ name ∷ []) (direction is_oneway p.direction) (ends (type_parts p.kind) name refl (a_type p.kind))

raises : (is_oneway : Bool) (ns : Several ScopedName) → Nests (raises_parts is_oneway ns)
raises is_oneway ns = maybe_given is_oneway (raised Raised word.Raises ns) (raising Raised refl word.Raises ns)

context : (texts : Several (Several (List ℕ))) → Nests (context_parts texts)
context texts =
    before (Plain (Word word.Context ∷ Punctuation mark.OpenParenthesis ∷ [])) _ refl
    (ends (listed (λ text. Says Context text ∷ []) texts) (punctuation mark.CloseParenthesis) refl (several (λ text. Says Context text ∷ []) (λ text. one (Says Context text) refl) texts))

-- the parameters and what stands behind them are what stands inside an operation
inside : (parameters exceptions contexts : Parts) (x y : Part Lexemes)
    → (parameters ++ x ∷ (exceptions ++ contexts)) ++ y ∷ [] ≡ parameters ++ x ∷ (exceptions ++ (contexts ++ y ∷ []))
inside parameters exceptions contexts x y =
    append_assoc parameters (x ∷ (exceptions ++ contexts)) (y ∷ [])
    ∙ ap (λ (p : Parts). parameters ++ x ∷ p) (append_assoc exceptions contexts (y ∷ []))

operation : (o : Operation) → NestsAt None true 0 (operation_parts o)
operation o =
    let way = declaration.Operation o.is_oneway in
    let parameters = if_some (listed (parameter_parts o.is_oneway)) o.parameters in
    let exceptions = if_some (raises_parts o.is_oneway) o.raises in
    let contexts = if_some context_parts o.context in
    let within : Parts = parameters ++ punctuation mark.CloseParenthesis ∷ (exceptions ++ contexts) in
    let last : Parts = parameters ++ punctuation mark.CloseParenthesis ∷ (exceptions ++ (contexts ++ ScopeEnds ∷ [])) in
    let nests : Nests within =
    follow parameters (punctuation mark.CloseParenthesis ∷ (exceptions ++ contexts)) (maybe (listed (parameter_parts o.is_oneway)) (several (parameter_parts o.is_oneway) (parameter o.is_oneway)) o.parameters)
    (before (punctuation mark.CloseParenthesis) (exceptions ++ contexts) refl
    (follow exceptions contexts (maybe (raises_parts o.is_oneway) (raises o.is_oneway) o.raises) (maybe context_parts context o.context))) in
    let body : NestsAt (Some o.name) true 0 (ScopeBegins way o.name ∷ ((punctuation mark.OpenParenthesis ∷ within) ++ ScopeEnds ∷ [])) = scope way o.name (punctuation mark.OpenParenthesis ∷ within) [] refl (before (punctuation mark.OpenParenthesis) within refl nests) none in
    let name : Parts = Declares way o.name ∷ ScopeBegins way o.name ∷ punctuation mark.OpenParenthesis ∷ last in
    follow (oneway_parts o.is_oneway) (result_parts o.is_oneway o.result ++ name) (topped (oneway_parts o.is_oneway) (oneway o.is_oneway))
    (follow (result_parts o.is_oneway o.result) name (topped (result_parts o.is_oneway o.result) (result o.is_oneway o.result))
    (declares way o.name (ScopeBegins way o.name ∷ punctuation mark.OpenParenthesis ∷ last) refl refl
    (subst (λ p. NestsAt (Some o.name) true 0 (ScopeBegins way o.name ∷ punctuation mark.OpenParenthesis ∷ p)) (inside parameters exceptions contexts (punctuation mark.CloseParenthesis) ScopeEnds) body)))

-- ---- units

a_typedef : (t : Typedef) → Nests (typedef_parts t)
a_typedef t =
    before (keyword_part word.Typedef) (member_type_parts t.kind ++ listed (declarator_parts declaration.Alias) t.declarators) refl
    (follow (member_type_parts t.kind) (listed (declarator_parts declaration.Alias) t.declarators) (member_type t.kind) (several (declarator_parts declaration.Alias) (declarator declaration.Alias refl) t.declarators))

an_exception : (e : Exception) → Nests (exception_parts e)
an_exception e =
    before (keyword_part word.Exception) _ refl
    (declares declaration.Exception e.name _ refl refl
    (carry (Punctuation mark.OpenBrace ∷ []) _
    (scope declaration.Exception e.name (flat_map member_parts e.members) (punctuation mark.CloseBrace ∷ []) refl (each member_parts member e.members) (one (punctuation mark.CloseBrace) refl))))

a_typeid : (t : Typeid) → Nests (typeid_parts t)
a_typeid t = before (keyword_part word.Typeid) _ refl (before (Identifies t.text) _ refl (before (Uses AsIdentified t.name) _ refl (one (Says Id t.text) refl)))

equals : (has_equals : Bool) → Nests (equals_parts has_equals)
equals true = one (punctuation mark.Equals) refl
equals false = none

a_typeprefix : (t : Typeprefix) → Nests (typeprefix_parts t)
a_typeprefix t =
    before (keyword_part word.Typeprefix) _ refl
    (before (Identifies t.text) _ refl (before (Uses AsPrefixed t.name) _ refl (ends (equals_parts t.has_equals) (Says Prefix t.text) refl (equals t.has_equals))))

-- ---- a constant: its type is told before its value

text-typed : (p : Parts) (is_wide is_bounded : Bool) (a : Around) → (arounds (items (p ++ TypeEnds (Text is_wide is_bounded) ∷ [])) a).is_typed ≡ true
text-typed p is_wide is_bounded a =
    let last : Parts = TypeEnds (Text is_wide is_bounded) ∷ [] in
    ap (λ xs. (arounds xs a).is_typed) (map-append item_of p last) ∙ ap (λ (b : Around). b.is_typed) (arounds-append (items p) (items last) a)

type-typed : (t : ConstantTypeTree) (a : Around) → (arounds (items (constant_type_parts t)) a).is_typed ≡ true
type-typed (constant.Discrete d) a = refl
type-typed (constant.String s) a = text-typed (bound_parts s.bound) s.is_wide (is_some s.bound) a
type-typed (constant.Name n) a = refl

-- ---- units

-- no scope has begun, and nothing is declared
abbrev pub scene : Scene
scene = record { level = 0; last = None }

-- a unit's parts: whatever stands around, each scope that ends begins in it, and the type of each expression is known; where they are
-- those of a plain unit, no operation is declared in a scope, and each scope begins behind its own name
pub record IsWhole (plain : Bool) (p : Parts) : Type 0 where
  pub bracketed : AreBracketed (items p)
  pub fit : (a : Around) → AreFit (items p) a
  pub placed : plain ≡ true → ArePlaced (items p) scene

whole : {top : Bool} (plain : Bool) (p : Parts) → NestsAt None top 0 p → IsWhole plain p
whole plain p n = record { bracketed = n.bracketed; fit = λ a. n.fit a (omega arith); placed = λ h. n.placed scene tt (λ h. refl) }

-- one with its end
ended_whole : {top : Bool} (plain : Bool) (p : Parts) → NestsAt None top 0 p → IsWhole plain (ended p)
ended_whole plain p n = whole plain (ended p) (ends p (punctuation mark.Semicolon) refl n)

-- a name between tokens
named_bracketed : (front back : Lexemes) (way : Declaration) (name : List ℕ) → AreBracketed (items (Plain front ∷ Declares way name ∷ Plain back ∷ []))
named_bracketed front back way name =
    bracketed-before (Plain front) (Declares way name ∷ Plain back ∷ []) refl
    (bracketed-before (Declares way name) (Plain back ∷ []) refl (bracketed-before (Plain back) [] refl bracketed-none))

named_whole : (front back : Lexemes) (way : Declaration) (name : List ℕ) → IsWhole false (Plain front ∷ Declares way name ∷ Plain back ∷ [])
named_whole front back way name = record { bracketed = named_bracketed front back way name; fit = λ a. (tt, (tt, (tt, tt))); placed = λ h. cc }

constant_whole : (c : Constant) → IsWhole true (ended (constant_parts c))
constant_whole c =
    let types = constant_type_parts c.kind in
    let value = value_parts purpose.Constant c.value in
    let last : Parts = punctuation mark.Semicolon ∷ [] in
    let told : Parts = Declares declaration.Constant c.name ∷ punctuation mark.Equals ∷ (value ++ last) in
    let front = constant_type c.kind in
    let parts : ended (constant_parts c) ≡ keyword_part word.Const ∷ (types ++ told) = ap (λ (p : Parts). keyword_part word.Const ∷ p) (append_assoc types (Declares declaration.Constant c.name ∷ punctuation mark.Equals ∷ value) last) in
    let sites = map-append item_of types told in
    subst (IsWhole true) (sym parts)
    (record {
      bracketed =
          bracketed-before (keyword_part word.Const) (types ++ told) refl
          (bracketed-follow types told front.bracketed
          (bracketed-before (Declares declaration.Constant c.name) (punctuation mark.Equals ∷ (value ++ last)) refl
          (bracketed-before (punctuation mark.Equals) (value ++ last) refl
          (bracketed-follow value last (bracketed-value purpose.Constant c.value) (bracketed-before (punctuation mark.Semicolon) [] refl bracketed-none)))));
      fit =
          λ a. (
            tt,
            subst (λ xs. AreFit xs a) (sym sites)
                (fit-append (items types) (items told) a (front.fit a (omega arith)) (tt, (tt, value-fits purpose.Constant c.value last (arounds (items types) a) (type-typed c.kind a) (tt, tt)))),
          );
      placed =
          λ h. (
            tt,
            subst (λ xs. ArePlaced xs scene) (sym sites)
                (placed-append (items types) (items told) scene (front.placed scene tt (λ h. cc))
                ((refl, λ o. cc), (tt, value-placed purpose.Constant c.value last (record (scenes (items types) scene) { last = Some c.name }) (tt, tt)))),
          );
    })

-- it declares no module, no interface, and nothing ahead
abbrev pub is_plain : Tree → Bool
is_plain (tree.Module name) = false
is_plain (tree.Interface i) = false
is_plain (tree.Forward f) = false
is_plain other = true

pub unit-whole : (t : Tree) → IsWhole (is_plain t) (unit_parts t)
unfolding unit_parts
unit-whole tree.Closing = whole {top = false} true _ (one (Plain (Punctuation mark.CloseBrace ∷ Punctuation mark.Semicolon ∷ [])) refl)
unit-whole (tree.Module name) = named_whole (Word word.Module ∷ []) (Punctuation mark.OpenBrace ∷ []) declaration.Module name
unit-whole (tree.Interface i) = whole false (interface_parts i) (interface i)
unit-whole (tree.Forward (forward.Interface is_local name)) = named_whole (spell_local is_local ++ Word word.Interface ∷ []) (Punctuation mark.Semicolon ∷ []) (declaration.InterfaceAhead is_local) name
unit-whole (tree.Forward (forward.Structure name)) = named_whole (Word word.Struct ∷ []) (Punctuation mark.Semicolon ∷ []) declaration.StructureAhead name
unit-whole (tree.Forward (forward.Union name)) = named_whole (Word word.Union ∷ []) (Punctuation mark.Semicolon ∷ []) declaration.UnionAhead name
unit-whole (tree.Typedef t) = ended_whole true (typedef_parts t) (a_typedef t)
unit-whole (tree.Construction c) = ended_whole true (construction_parts c) (construction c)
unit-whole (tree.Native name) = ended_whole {top = false} true (native_parts name) (before (keyword_part word.Native) _ refl (one (Declares declaration.Native name) refl))
unit-whole (tree.Constant c) = constant_whole c
unit-whole (tree.Exception e) = ended_whole true (exception_parts e) (an_exception e)
unit-whole (tree.ReadonlyAttribute a) = ended_whole true (readonly_attribute_parts a) (readonly_attribute a)
unit-whole (tree.Attribute a) = ended_whole true (attribute_parts a) (attribute a)
unit-whole (tree.Operation o) = ended_whole true (operation_parts o) (operation o)
unit-whole (tree.Typeid t) = ended_whole true (typeid_parts t) (a_typeid t)
unit-whole (tree.Typeprefix t) = ended_whole true (typeprefix_parts t) (a_typeprefix t)
