-- Reading of units.
use Rattle.std.specs.Prelude.{ℕ, List, drop, Option, Some, None, Ok, Bool, true, false, if◌then◌else◌}
use Rattle.idl_lex.specs.declared.kinds.keyword.Keyword.{Keyword}
use Rattle.idl_lex.specs.declared.kinds.keyword.Keyword.TheVariants as word
use Rattle.idl_lex.specs.declared.kinds.mark.Mark.TheVariants as mark
use Rattle.idl_tree.specs.reading.ReadConstruction.{listed_with, member_type_with, members_with, structure_rest_with, union_rest_with, enumeration_at, construction_at}
use Rattle.idl_tree.specs.reading.ReadExpression.{expression_at}
use Rattle.idl_tree.specs.reading.ReadInterface.{readonly_attribute_with, attribute_with, operation_with, text_at}
use Rattle.idl_tree.specs.reading.ReadName.{name_at}
use Rattle.idl_tree.specs.reading.ReadType.{discrete_at, string_with, declarator_with, type_at}
use Rattle.idl_tree.specs.reading.Reading.{Reader, ◌>>=◌, first, expect}
use Rattle.idl_tree.specs.reading.Tests.{is_mark, is_word, keyword_of, identifier_at}
use Rattle.idl_tree.specs.declared.declarations.construction.Construction.{Construction}
use Rattle.idl_tree.specs.declared.declarations.construction.Construction.TheVariants as construction
use Rattle.idl_tree.specs.declared.declarations.construction.Member.{Member}
use Rattle.idl_tree.specs.declared.declarations.construction.MemberType.{MemberType}
use Rattle.idl_tree.specs.declared.declarations.data_type.TypeTree.{TypeTree}
use Rattle.idl_tree.specs.declared.declarations.declarator.Declarator.{Declarator}
use Rattle.idl_tree.specs.declared.expression.Expression.{Expression}
use Rattle.idl_tree.specs.declared.declarations.interface.Forward.TheVariants as forward
use Rattle.idl_tree.specs.declared.name.ScopedName.{ScopedName}
use Rattle.idl_tree.specs.declared.several.Several.{Several}
use Rattle.idl_tree.specs.declared.unit.Constant.{Constant}
use Rattle.idl_tree.specs.declared.unit.ConstantTypeTree.{ConstantTypeTree}
use Rattle.idl_tree.specs.declared.unit.ConstantTypeTree.TheVariants as constant_type
use Rattle.idl_tree.specs.declared.unit.Exception.{Exception}
use Rattle.idl_tree.specs.declared.unit.Tree.{Tree}
use Rattle.idl_tree.specs.declared.unit.Tree.TheVariants as tree
use Rattle.idl_tree.specs.declared.unit.Typedef.{Typedef}
use Rattle.idl_tree.specs.declared.unit.Typeid.{Typeid}
use Rattle.idl_tree.specs.declared.unit.Typeprefix.{Typeprefix}

abbrev pub made_typedef : MemberType → Several Declarator → Typedef
made_typedef kind declarators = record { kind = kind; declarators = declarators }

-- typedef = "typedef" ( type | constr ) declr/","
unfoldable pub typedef_with : Reader Expression → Reader TypeTree → Reader Construction
    → Reader Typedef
typedef_with expression type inner ts = do
  rest ← expect (is_word word.Typedef) ts
  t ← member_type_with type inner rest
  ds ← listed_with (declarator_with expression) t.1
  Ok (made_typedef t.0 ds.0, ds.1)

-- ctype, by its first keyword
abbrev pub constant_type_by : Reader Expression → Option Keyword → Reader ConstantTypeTree
constant_type_by expression (Some word.String) ts =
    string_with expression ts >>= λ s. Ok (constant_type.String s.0, s.1)
constant_type_by expression (Some word.Wstring) ts =
    string_with expression ts >>= λ s. Ok (constant_type.String s.0, s.1)
constant_type_by expression None ts = name_at ts >>= λ n. Ok (constant_type.Name n.0, n.1)
constant_type_by expression others ts =
    discrete_at ts >>= λ d. Ok (constant_type.Discrete d.0, d.1)

unfoldable pub constant_type_with : Reader Expression → Reader ConstantTypeTree
constant_type_with expression ts = constant_type_by expression (keyword_of (first ts)) ts

abbrev pub made_constant : ConstantTypeTree → List ℕ → Expression → Constant
made_constant kind name value = record { kind = kind; name = name; value = value }

-- const = "const" ctype ID "=" expr
unfoldable pub constant_with : Reader Expression → Reader Constant
constant_with expression ts = do
  rest ← expect (is_word word.Const) ts
  kind ← constant_type_with expression rest
  name ← identifier_at kind.1
  rest2 ← expect (is_mark mark.Equals) name.1
  value ← expression rest2
  Ok (made_constant kind.0 name.0 value.0, value.1)

abbrev pub made_exception : List ℕ → List Member → Exception
made_exception name members = record { name = name; members = members }

-- except = "exception" ID "{" member* "}"
unfoldable pub exception_with : Reader Expression → Reader TypeTree → Reader Construction
    → Reader Exception
exception_with expression type inner ts = do
  rest ← expect (is_word word.Exception) ts
  name ← identifier_at rest
  members ← members_with expression type inner name.1
  Ok (made_exception name.0 members.0, members.1)

-- "native" ID
unfoldable pub native_at : Reader (List ℕ)
native_at ts = do
  rest ← expect (is_word word.Native) ts
  identifier_at rest

abbrev pub made_typeid : ScopedName → Several (List ℕ) → Typeid
made_typeid name text = record { name = name; text = text }

-- "typeid" name text
unfoldable pub typeid_at : Reader Typeid
typeid_at ts = do
  rest ← expect (is_word word.Typeid) ts
  name ← name_at rest
  text ← text_at name.1
  Ok (made_typeid name.0 text.0, text.1)

-- ["="]
unfoldable pub equals_at : Reader Bool
equals_at ts =
    if is_mark mark.Equals (first ts)
    then (expect (is_mark mark.Equals) ts >>= λ rest. Ok (true, rest)) else Ok (false, ts)

abbrev pub made_typeprefix : ScopedName → Bool → Several (List ℕ) → Typeprefix
made_typeprefix name has_equals text =
    record { name = name; has_equals = has_equals; text = text }

-- "typeprefix" name ["="] text
unfoldable pub typeprefix_at : Reader Typeprefix
typeprefix_at ts = do
  rest ← expect (is_word word.Typeprefix) ts
  name ← name_at rest
  equals ← equals_at name.1
  text ← text_at equals.1
  Ok (made_typeprefix name.0 equals.0 text.0, text.1)

-- closing = "}" ";"
unfoldable pub closing_at : Reader Tree
closing_at ts = do
  rest ← expect (is_mark mark.CloseBrace) ts
  rest2 ← expect (is_mark mark.Semicolon) rest
  Ok (tree.Closing, rest2)

-- "module" ID "{"
unfoldable pub module_at : Reader Tree
module_at ts = do
  rest ← expect (is_word word.Module) ts
  name ← identifier_at rest
  rest2 ← expect (is_mark mark.OpenBrace) name.1
  Ok (tree.Module name.0, rest2)

-- [":" name/","]
unfoldable pub bases_at : Reader (Option (Several ScopedName))
bases_at ts =
    if is_mark mark.Colon (first ts) then (do
      rest ← expect (is_mark mark.Colon) ts
      ns ← listed_with name_at rest
      Ok (Some ns.0, ns.1))
    else Ok (None, ts)

abbrev pub ahead : Bool → List ℕ → Tree
ahead is_local name = tree.Forward (forward.Interface is_local name)

abbrev pub opened : Bool → List ℕ → Option (Several ScopedName) → Tree
opened is_local name bases =
    tree.Interface (record { is_local = is_local; name = name; bases = bases })

-- [":" name/","] "{", or ";" of a declaration ahead
unfoldable pub interface_rest : Bool → List ℕ → Reader Tree
interface_rest is_local name ts =
    if is_mark mark.Semicolon (first ts) then (do
      rest ← expect (is_mark mark.Semicolon) ts
      Ok (ahead is_local name, rest))
    else (do
      bases ← bases_at ts
      rest ← expect (is_mark mark.OpenBrace) bases.1
      Ok (opened is_local name bases.0, rest))

-- ["local"] "interface" ID ( ";" | [":" name/","] "{" )
unfoldable pub interface_at : Reader Tree
interface_at ts = do
  let is_local : Bool = is_word word.Local (first ts)
  rest ← expect (is_word word.Interface) (if is_local then drop 1 ts else ts)
  name ← identifier_at rest
  interface_rest is_local name.0 name.1

-- "struct" ID [":" name] "{" member* "}", or "struct" ID ahead of it, with `;` next
unfoldable pub structure_declaration_with : Reader Expression → Reader TypeTree
    → Reader Construction → Reader Tree
structure_declaration_with expression type inner ts = do
  rest ← expect (is_word word.Struct) ts
  name ← identifier_at rest
  if is_mark mark.Semicolon (first name.1)
      then Ok (tree.Forward (forward.Structure name.0), name.1)
      else (do
        s ← structure_rest_with expression type inner name.0 name.1
        Ok (tree.Construction (construction.Structure s.0), s.1))

-- "union" ID "switch" "(" disc ")" "{" case+ "}", or "union" ID ahead of it, with `;` next
unfoldable pub union_declaration_with : Reader Expression → Reader TypeTree
    → Reader Construction → Reader Tree
union_declaration_with expression type inner ts = do
  rest ← expect (is_word word.Union) ts
  name ← identifier_at rest
  if is_mark mark.Semicolon (first name.1)
      then Ok (tree.Forward (forward.Union name.0), name.1)
      else (do
        u ← union_rest_with expression type inner name.0 name.1
        Ok (tree.Construction (construction.Union u.0), u.1))

-- a declaration without its `;`, by its first keyword
abbrev pub declaration_by : Reader Expression → Reader TypeTree → Reader Construction
    → Option Keyword → Reader Tree
declaration_by expression type inner (Some word.Struct) ts =
    structure_declaration_with expression type inner ts
declaration_by expression type inner (Some word.Union) ts =
    union_declaration_with expression type inner ts
declaration_by expression type inner (Some word.Enum) ts =
    enumeration_at ts >>= λ e. Ok (tree.Construction (construction.Enumeration e.0), e.1)
declaration_by expression type inner (Some word.Typedef) ts =
    typedef_with expression type inner ts >>= λ t. Ok (tree.Typedef t.0, t.1)
declaration_by expression type inner (Some word.Native) ts =
    native_at ts >>= λ name. Ok (tree.Native name.0, name.1)
declaration_by expression type inner (Some word.Const) ts =
    constant_with expression ts >>= λ c. Ok (tree.Constant c.0, c.1)
declaration_by expression type inner (Some word.Exception) ts =
    exception_with expression type inner ts >>= λ e. Ok (tree.Exception e.0, e.1)
declaration_by expression type inner (Some word.Readonly) ts =
    readonly_attribute_with type ts >>= λ a. Ok (tree.ReadonlyAttribute a.0, a.1)
declaration_by expression type inner (Some word.Attribute) ts =
    attribute_with type ts >>= λ a. Ok (tree.Attribute a.0, a.1)
declaration_by expression type inner (Some word.Typeid) ts =
    typeid_at ts >>= λ t. Ok (tree.Typeid t.0, t.1)
declaration_by expression type inner (Some word.Typeprefix) ts =
    typeprefix_at ts >>= λ t. Ok (tree.Typeprefix t.0, t.1)
declaration_by expression type inner others ts =
    operation_with type ts >>= λ o. Ok (tree.Operation o.0, o.1)

unfoldable pub declaration_with : Reader Expression → Reader TypeTree → Reader Construction
    → Reader Tree
declaration_with expression type inner ts =
    declaration_by expression type inner (keyword_of (first ts)) ts

-- a declaration and its `;`
unfoldable pub ended_with : Reader Tree → Reader Tree
ended_with declaration ts = do
  d ← declaration ts
  rest ← expect (is_mark mark.Semicolon) d.1
  Ok (d.0, rest)

-- a unit that isn't a closing, by its first keyword
abbrev pub unit_by : Reader Expression → Reader TypeTree → Reader Construction
    → Option Keyword → Reader Tree
unit_by expression type inner (Some word.Module) ts = module_at ts
unit_by expression type inner (Some word.Local) ts = interface_at ts
unit_by expression type inner (Some word.Interface) ts = interface_at ts
unit_by expression type inner others ts = ended_with (declaration_with expression type inner) ts

-- opening | closing | decl
unfoldable pub unit_with : Reader Expression → Reader TypeTree → Reader Construction → Reader Tree
unit_with expression type inner ts =
    if is_mark mark.CloseBrace (first ts) then closing_at ts
    else unit_by expression type inner (keyword_of (first ts)) ts

-- a unit with parts at most n deep
unfoldable pub unit_at : ℕ → Reader Tree
unit_at n ts = unit_with (expression_at n) (type_at n) (construction_at n) ts
