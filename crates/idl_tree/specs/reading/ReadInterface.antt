-- Reading of attributes and operations.
use Rattle.std.specs.Prelude.{ℕ, List, Option, Some, None, Ok, Bool, is_some, drop, if◌then◌else◌}
use Rattle.idl_lex.specs.declared.kinds.keyword.Keyword.{Keyword}
use Rattle.idl_lex.specs.declared.kinds.keyword.Keyword.TheVariants as word
use Rattle.idl_lex.specs.declared.kinds.mark.Mark.TheVariants as mark
use Rattle.idl_tree.specs.Lexeme.{Lexeme, Word}
use Rattle.idl_tree.specs.reading.ReadConstruction.{several, listed_with, all_with}
use Rattle.idl_tree.specs.reading.ReadExpression.{text_of, behind_with}
use Rattle.idl_tree.specs.reading.ReadName.{name_at}
use Rattle.idl_tree.specs.reading.Reading.{Reader, ◌>>=◌, first, expect, many_of}
use Rattle.idl_tree.specs.reading.Tests.{is_mark, is_word, keyword_of, pick, identifier_at}
use Rattle.idl_tree.specs.declared.declarations.attribute.Attribute.{Attribute}
use Rattle.idl_tree.specs.declared.declarations.attribute.AttributeNames.{AttributeNames}
use Rattle.idl_tree.specs.declared.declarations.attribute.AttributeNames.TheVariants as names
use Rattle.idl_tree.specs.declared.declarations.attribute.AttributeRaises.{AttributeRaises}
use Rattle.idl_tree.specs.declared.declarations.attribute.AttributeRaises.TheVariants.{Get, Set}
use Rattle.idl_tree.specs.declared.declarations.attribute.ReadonlyAttribute.{ReadonlyAttribute}
use Rattle.idl_tree.specs.declared.declarations.attribute.ReadonlyNames.{ReadonlyNames}
use Rattle.idl_tree.specs.declared.declarations.attribute.ReadonlyNames.TheVariants as readonly
use Rattle.idl_tree.specs.declared.declarations.data_type.TypeTree.{TypeTree}
use Rattle.idl_tree.specs.declared.name.ScopedName.{ScopedName}
use Rattle.idl_tree.specs.declared.declarations.operation.Direction.{Direction}
use Rattle.idl_tree.specs.declared.declarations.operation.Direction.TheVariants.{In, Out, InOut}
use Rattle.idl_tree.specs.declared.declarations.operation.Operation.{Operation}
use Rattle.idl_tree.specs.declared.declarations.operation.Parameter.{Parameter}
use Rattle.idl_tree.specs.declared.several.Several.{Several}

-- list = "(" name/"," ")"
unfoldable pub list_at : Reader (Several ScopedName)
list_at ts = do
  rest ← expect (is_mark mark.OpenParenthesis) ts
  ns ← listed_with name_at rest
  rest2 ← expect (is_mark mark.CloseParenthesis) ns.1
  Ok (ns.0, rest2)

-- a keyword and a list
unfoldable pub raises_at : Keyword → Reader (Several ScopedName)
raises_at k ts = do
  rest ← expect (is_word k) ts
  list_at rest

-- the same, if the keyword stands there
unfoldable pub raises_if : Keyword → Reader (Option (Several ScopedName))
raises_if k ts =
    if is_word k (first ts) then (raises_at k ts >>= λ ns. Ok (Some ns.0, ns.1)) else Ok (None, ts)

-- ---- attributes

abbrev pub plain_names : List ℕ → List (List ℕ) → ReadonlyNames
plain_names name more = readonly.Plain (several name more)

-- further names
abbrev pub more_names_at : Reader (List (List ℕ))
more_names_at ts = many_of (is_mark mark.Comma) (behind_with mark.Comma identifier_at) ts

-- what follows the first name: raises, or further names
unfoldable pub readonly_rest : List ℕ → Reader ReadonlyNames
readonly_rest name ts =
    if is_word word.Raises (first ts)
    then (raises_at word.Raises ts >>= λ ns. Ok (readonly.Raising name ns.0, ns.1))
    else (more_names_at ts >>= λ more. Ok (plain_names name more.0, more.1))

-- ID raises | ID/","
unfoldable pub readonly_names_at : Reader ReadonlyNames
readonly_names_at ts = do
  name ← identifier_at ts
  readonly_rest name.0 name.1

abbrev pub made_readonly_attribute : TypeTree → ReadonlyNames → ReadonlyAttribute
made_readonly_attribute kind names = record { kind = kind; names = names }

-- "readonly" "attribute" type ( ID raises | ID/"," )
unfoldable pub readonly_attribute_with : Reader TypeTree → Reader ReadonlyAttribute
readonly_attribute_with type ts = do
  rest ← expect (is_word word.Readonly) ts
  rest2 ← expect (is_word word.Attribute) rest
  t ← type rest2
  names ← readonly_names_at t.1
  Ok (made_readonly_attribute t.0 names.0, names.1)

-- "getraises" list [ "setraises" list ]
unfoldable pub getraises_at : Reader AttributeRaises
getraises_at ts = do
  got ← raises_at word.Getraises ts
  set ← raises_if word.Setraises got.1
  Ok (Get got.0 set.0, set.1)

abbrev pub plain_attribute_names : List ℕ → List (List ℕ) → AttributeNames
plain_attribute_names name more = names.Plain (several name more)

-- what follows the first name, by its first keyword: what is raised, or further names
abbrev pub attribute_by : List ℕ → Option Keyword → Reader AttributeNames
attribute_by name (Some word.Getraises) ts =
    getraises_at ts >>= λ got. Ok (names.Raising name got.0, got.1)
attribute_by name (Some word.Setraises) ts =
    raises_at word.Setraises ts >>= λ set. Ok (names.Raising name (Set set.0), set.1)
attribute_by name others ts =
    more_names_at ts >>= λ more. Ok (plain_attribute_names name more.0, more.1)

-- ID excs | ID/","
unfoldable pub attribute_names_at : Reader AttributeNames
attribute_names_at ts = do
  name ← identifier_at ts
  attribute_by name.0 (keyword_of (first name.1)) name.1

abbrev pub made_attribute : TypeTree → AttributeNames → Attribute
made_attribute kind names = record { kind = kind; names = names }

-- "attribute" type ( ID excs | ID/"," )
unfoldable pub attribute_with : Reader TypeTree → Reader Attribute
attribute_with type ts = do
  rest ← expect (is_word word.Attribute) ts
  t ← type rest
  names ← attribute_names_at t.1
  Ok (made_attribute t.0 names.0, names.1)

-- ---- operations

abbrev pub direction_of : Option Lexeme → Option Direction
direction_of (Some (Word word.In)) = Some In
direction_of (Some (Word word.Out)) = Some Out
direction_of (Some (Word word.Inout)) = Some InOut
direction_of _ = None

abbrev pub passed : Direction → TypeTree → List ℕ → Parameter
passed direction kind name = record { direction = direction; kind = kind; name = name }

-- param = ( "in" | "out" | "inout" ) type ID
unfoldable pub parameter_with : Reader TypeTree → Reader Parameter
parameter_with type ts = do
  d ← pick direction_of ts
  t ← type d.1
  name ← identifier_at t.1
  Ok (passed d.0 t.0 name.0, name.1)

-- [ param/"," ] before ")"
unfoldable pub parameters_with : Reader TypeTree → Reader (Option (Several Parameter))
parameters_with type ts =
    if is_mark mark.CloseParenthesis (first ts) then Ok (None, ts)
    else (listed_with (parameter_with type) ts >>= λ ps. Ok (Some ps.0, ps.1))

-- "void" | type
unfoldable pub result_with : Reader TypeTree → Reader (Option TypeTree)
result_with type ts =
    if is_word word.Void (first ts) then (expect (is_word word.Void) ts >>= λ rest. Ok (None, rest))
    else (type ts >>= λ t. Ok (Some t.0, t.1))

-- one or more narrow string literals
unfoldable pub text_at : Reader (Several (List ℕ))
text_at ts = all_with (λ t. is_some (text_of t)) (pick text_of) ts

-- "context" "(" text/"," ")"
unfoldable pub context_at : Reader (Several (Several (List ℕ)))
context_at ts = do
  rest ← expect (is_word word.Context) ts
  rest2 ← expect (is_mark mark.OpenParenthesis) rest
  texts ← listed_with text_at rest2
  rest3 ← expect (is_mark mark.CloseParenthesis) texts.1
  Ok (texts.0, rest3)

-- the same, if the keyword stands there
unfoldable pub context_if : Reader (Option (Several (Several (List ℕ))))
context_if ts =
    if is_word word.Context (first ts) then (context_at ts >>= λ texts. Ok (Some texts.0, texts.1))
    else Ok (None, ts)

abbrev pub made_operation : Bool → Option TypeTree → List ℕ → Option (Several Parameter)
    → Option (Several ScopedName) → Option (Several (Several (List ℕ))) → Operation
made_operation is_oneway result name parameters raises context = record {
  is_oneway = is_oneway;
  result = result;
  name = name;
  parameters = parameters;
  raises = raises;
  context = context;
}

-- "(" [ param/"," ] ")" [raises] [ "context" "(" text/"," ")" ], behind a result and a name
unfoldable pub operation_rest_with : Reader TypeTree → Bool → Option TypeTree → List ℕ
    → Reader Operation
operation_rest_with type is_oneway result name ts = do
  rest ← expect (is_mark mark.OpenParenthesis) ts
  parameters ← parameters_with type rest
  rest2 ← expect (is_mark mark.CloseParenthesis) parameters.1
  raises ← raises_if word.Raises rest2
  context ← context_if raises.1
  Ok (made_operation is_oneway result name parameters.0 raises.0 context.0, context.1)

-- oper = ["oneway"] ( "void" | type ) ID "(" [ param/"," ] ")" [raises]
--     [ "context" "(" text/"," ")" ]
unfoldable pub operation_with : Reader TypeTree → Reader Operation
operation_with type ts = do
  let is_oneway : Bool = is_word word.Oneway (first ts)
  result ← result_with type (if is_oneway then drop 1 ts else ts)
  name ← identifier_at result.1
  operation_rest_with type is_oneway result.0 name.0 name.1
