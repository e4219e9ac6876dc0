-- Reading of structs, unions and enums.
use Rattle.std.specs.Prelude.{ℕ, zero, suc, List, length, Option, Some, None, Ok, Err, Bool, true, false, not, if◌then◌else◌}
use Rattle.idl_lex.specs.declared.kinds.keyword.Keyword.{Keyword}
use Rattle.idl_lex.specs.declared.kinds.keyword.Keyword.TheVariants as word
use Rattle.idl_lex.specs.declared.kinds.mark.Mark.TheVariants as mark
use Rattle.idl_tree.specs.Lexeme.{Lexeme}
use Rattle.idl_tree.specs.reading.ReadExpression.{parted_with, expression_at}
use Rattle.idl_tree.specs.reading.ReadName.{name_at}
use Rattle.idl_tree.specs.reading.ReadType.{discrete_at, declarator_with, type_at}
use Rattle.idl_tree.specs.reading.Reading.{Reader, ◌>>=◌, first, expect, many_of}
use Rattle.idl_tree.specs.reading.Tests.{is_mark, is_word, keyword_of, identifier_at}
use Rattle.idl_tree.specs.declared.declarations.construction.Case.{Case, roll-Case}
use Rattle.idl_tree.specs.declared.declarations.construction.Construction.{Construction}
use Rattle.idl_tree.specs.declared.declarations.construction.Construction.TheVariants as construction
use Rattle.idl_tree.specs.declared.declarations.construction.Discriminator.{Discriminator}
use Rattle.idl_tree.specs.declared.declarations.construction.Discriminator.TheVariants as discriminator
use Rattle.idl_tree.specs.declared.declarations.construction.Enumeration.{Enumeration}
use Rattle.idl_tree.specs.declared.declarations.construction.Label.{Label}
use Rattle.idl_tree.specs.declared.declarations.construction.Label.TheVariants as label
use Rattle.idl_tree.specs.declared.declarations.construction.Member.{Member, roll-Member}
use Rattle.idl_tree.specs.declared.declarations.construction.MemberType.{MemberType}
use Rattle.idl_tree.specs.declared.declarations.construction.MemberType.TheVariants as member_type
use Rattle.idl_tree.specs.declared.declarations.construction.Structure.{Structure, roll-Structure}
use Rattle.idl_tree.specs.declared.declarations.construction.Union.{Union, roll-Union}
use Rattle.idl_tree.specs.declared.declarations.data_type.TypeTree.{TypeTree}
use Rattle.idl_tree.specs.declared.declarations.declarator.Declarator.{Declarator}
use Rattle.idl_tree.specs.declared.expression.Expression.{Expression}
use Rattle.idl_tree.specs.declared.name.ScopedName.{ScopedName}
use Rattle.idl_tree.specs.declared.several.Several.{Several}

abbrev pub several : {X : Type 0} → X → List X → Several X
several x xs = record { first = x; rest = xs }

-- x/","
abbrev pub listed_with : {X : Type 0} → Reader X → Reader (Several X)
listed_with item = parted_with several mark.Comma item

-- x+, each of which begins with a token that passes the test
unfoldable pub all_with : {X : Type 0} → (Option Lexeme → Bool) → Reader X → Reader (Several X)
all_with p item ts = do
  x ← item ts
  xs ← many_of p item x.1
  Ok (several x.0 xs.0, xs.1)

-- disc, by its first keyword
abbrev pub discriminator_by : Option Keyword → Reader Discriminator
discriminator_by None ts = name_at ts >>= λ n. Ok (discriminator.Name n.0, n.1)
discriminator_by others ts = discrete_at ts >>= λ d. Ok (discriminator.Discrete d.0, d.1)

unfoldable pub discriminator_at : Reader Discriminator
discriminator_at ts = discriminator_by (keyword_of (first ts)) ts

abbrev pub is_label_word : Option Keyword → Bool
is_label_word (Some word.Case) = true
is_label_word (Some word.Default) = true
is_label_word _ = false

abbrev pub begins_label : Option Lexeme → Bool
begins_label t = is_label_word (keyword_of t)

-- label = "case" expr ":" | "default" ":"
unfoldable pub label_with : Reader Expression → Reader Label
label_with expression ts =
    if is_word word.Case (first ts) then (do
      rest ← expect (is_word word.Case) ts
      e ← expression rest
      rest2 ← expect (is_mark mark.Colon) e.1
      Ok (label.Case e.0, rest2))
    else (do
      rest ← expect (is_word word.Default) ts
      rest2 ← expect (is_mark mark.Colon) rest
      Ok (label.Default, rest2))

abbrev pub is_construction_word : Option Keyword → Bool
is_construction_word (Some word.Struct) = true
is_construction_word (Some word.Union) = true
is_construction_word (Some word.Enum) = true
is_construction_word _ = false

abbrev pub begins_construction : Option Lexeme → Bool
begins_construction t = is_construction_word (keyword_of t)

-- type | constr
unfoldable pub member_type_with : Reader TypeTree → Reader Construction → Reader MemberType
member_type_with type inner ts =
    if begins_construction (first ts)
    then (inner ts >>= λ c. Ok (member_type.Construction c.0, c.1))
    else (type ts >>= λ t. Ok (member_type.Type t.0, t.1))

abbrev pub made_member : MemberType → Several Declarator → Member
made_member kind declarators = roll-Member (record { kind = kind; declarators = declarators })

abbrev pub made_structure : List ℕ → Option ScopedName → List Member → Structure
made_structure name base members =
    roll-Structure (record { name = name; base = base; members = members })

abbrev pub made_case : Several Label → MemberType → Declarator → Case
made_case labels kind declarator =
    roll-Case (record { labels = labels; kind = kind; declarator = declarator })

abbrev pub made_union : List ℕ → Discriminator → Case → List Case → Union
made_union name discriminator c cs =
    roll-Union (record { name = name; discriminator = discriminator; first = c; rest = cs })

-- member = ( type | constr ) declr/"," ";"
unfoldable pub member_with : Reader Expression → Reader TypeTree → Reader Construction
    → Reader Member
member_with expression type inner ts = do
  t ← member_type_with type inner ts
  ds ← listed_with (declarator_with expression) t.1
  rest ← expect (is_mark mark.Semicolon) ds.1
  Ok (made_member t.0 ds.0, rest)

-- case = label+ ( type | constr ) declr ";"
unfoldable pub case_with : Reader Expression → Reader TypeTree → Reader Construction
    → Reader Case
case_with expression type inner ts = do
  ls ← all_with begins_label (label_with expression) ts
  t ← member_type_with type inner ls.1
  d ← declarator_with expression t.1
  rest ← expect (is_mark mark.Semicolon) d.1
  Ok (made_case ls.0 t.0 d.0, rest)

-- before a closing brace members end
abbrev pub goes_on : Option Lexeme → Bool
goes_on t = not (is_mark mark.CloseBrace t)

-- "{" member* "}"
unfoldable pub members_with : Reader Expression → Reader TypeTree → Reader Construction
    → Reader (List Member)
members_with expression type inner ts = do
  rest ← expect (is_mark mark.OpenBrace) ts
  ms ← many_of goes_on (member_with expression type inner) rest
  rest2 ← expect (is_mark mark.CloseBrace) ms.1
  Ok (ms.0, rest2)

-- [":" name]
unfoldable pub base_at : Reader (Option ScopedName)
base_at ts =
    if is_mark mark.Colon (first ts) then (do
      rest ← expect (is_mark mark.Colon) ts
      n ← name_at rest
      Ok (Some n.0, n.1))
    else Ok (None, ts)

-- [":" name] "{" member* "}", of the struct with this name
unfoldable pub structure_rest_with : Reader Expression → Reader TypeTree → Reader Construction
    → List ℕ → Reader Structure
structure_rest_with expression type inner name ts = do
  base ← base_at ts
  ms ← members_with expression type inner base.1
  Ok (made_structure name base.0 ms.0, ms.1)

-- "struct" ID [":" name] "{" member* "}"
unfoldable pub structure_with : Reader Expression → Reader TypeTree → Reader Construction
    → Reader Structure
structure_with expression type inner ts = do
  rest ← expect (is_word word.Struct) ts
  name ← identifier_at rest
  structure_rest_with expression type inner name.0 name.1

-- "{" case+ "}", of the union with this name and discriminator
unfoldable pub cases_with : Reader Expression → Reader TypeTree → Reader Construction
    → List ℕ → Discriminator → Reader Union
cases_with expression type inner name discriminator ts = do
  rest ← expect (is_mark mark.OpenBrace) ts
  c ← case_with expression type inner rest
  cs ← many_of goes_on (case_with expression type inner) c.1
  rest2 ← expect (is_mark mark.CloseBrace) cs.1
  Ok (made_union name discriminator c.0 cs.0, rest2)

-- "switch" "(" disc ")" "{" case+ "}", of the union with this name
unfoldable pub union_rest_with : Reader Expression → Reader TypeTree → Reader Construction
    → List ℕ → Reader Union
union_rest_with expression type inner name ts = do
  rest ← expect (is_word word.Switch) ts
  rest2 ← expect (is_mark mark.OpenParenthesis) rest
  d ← discriminator_at rest2
  rest3 ← expect (is_mark mark.CloseParenthesis) d.1
  cases_with expression type inner name d.0 rest3

-- "union" ID "switch" "(" disc ")" "{" case+ "}"
unfoldable pub union_with : Reader Expression → Reader TypeTree → Reader Construction
    → Reader Union
union_with expression type inner ts = do
  rest ← expect (is_word word.Union) ts
  name ← identifier_at rest
  union_rest_with expression type inner name.0 name.1

abbrev pub enumerated : List ℕ → Several (List ℕ) → Enumeration
enumerated name enumerators = record { name = name; enumerators = enumerators }

-- "enum" ID "{" ID/"," "}"
unfoldable pub enumeration_at : Reader Enumeration
enumeration_at ts = do
  rest ← expect (is_word word.Enum) ts
  name ← identifier_at rest
  rest2 ← expect (is_mark mark.OpenBrace) name.1
  ids ← listed_with identifier_at rest2
  rest3 ← expect (is_mark mark.CloseBrace) ids.1
  Ok (enumerated name.0 ids.0, rest3)

-- constr, by its first keyword
abbrev pub construction_by : Reader Expression → Reader TypeTree → Reader Construction
    → Option Keyword → Reader Construction
construction_by expression type inner (Some word.Struct) ts =
    structure_with expression type inner ts >>= λ s. Ok (construction.Structure s.0, s.1)
construction_by expression type inner (Some word.Union) ts =
    union_with expression type inner ts >>= λ u. Ok (construction.Union u.0, u.1)
construction_by expression type inner others ts =
    enumeration_at ts >>= λ e. Ok (construction.Enumeration e.0, e.1)

unfoldable pub construction_with : Reader Expression → Reader TypeTree → Reader Construction
    → Reader Construction
construction_with expression type inner ts =
    construction_by expression type inner (keyword_of (first ts)) ts

-- at most n deep
unfoldable pub construction_at : ℕ → Reader Construction
construction_at zero ts = Err (length ts)
construction_at (suc n) ts = construction_with (expression_at n) (type_at n) (construction_at n) ts
