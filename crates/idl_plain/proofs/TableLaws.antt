-- Tables have what several definitions say.
use Rattle.std.proofs.Common.{◌≡◌, ◌∙◌, ℕ, Bool, true, false, cond, List, [], ◌∷◌, ◌++◌, Option, None, Some, drop, refl, ap}
use Rattle.std.specs.Prelude.{if◌then◌else◌, is_some}
use Rattle.idl_check.specs.tables.Codes.{faults_by}
use Rattle.idl_check.specs.tables.Declaring.{Written, entity_of}
use Rattle.idl_check.specs.tables.Using.{Bases, last_after, own_after, used_table}
use Rattle.idl_check.specs.told.Types.{element_of}
use Rattle.idl_check.specs.walk.Walk.{Walk, used_after, used_visit, with_scope}
use Rattle.idl_entity.specs.declared.data_type.Element.TheVariants.{Constants}
use Rattle.idl_entity.specs.declared.entity.Entity.{Entity}
use Rattle.idl_env.specs.Facts.{World, after_step}
use Rattle.idl_env.specs.declared.additions.addition.Step.{Step}
use Rattle.idl_env.specs.declared.additions.addition.Step.TheVariants.{Closes, Enters, Leaves, Opens, OpensNameless, Prefixes, Stays}
use Rattle.idl_env.specs.declared.answering.answer.Scope.{Scope}
use Rattle.idl_event.specs.Items.{spend}
use Rattle.idl_event.specs.declared.told.allowance.Allowance.{Allowance}
use Rattle.idl_event.specs.declared.told.event.Event.TheVariants as event
use Rattle.idl_event.specs.declared.told.event.Item.{Item}
use Rattle.idl_event.specs.declared.told.event.Item.TheVariants as item
use Rattle.idl_fault.specs.declared.code.Code.TheVariants.{LeftOut, LikeKeyword, MixedWidths, NestedTooDeep, WrongKind}
use Rattle.idl_lex.specs.kinds.Number.{are_digits, based, integer_value, is_floating, kind_of_value, limited, number, number_kind}
use Rattle.idl_lex.specs.declared.kinds.keyword.Keyword.TheVariants.{Const, Double, Float, Long}
use Rattle.idl_lex.specs.declared.kinds.kind.Defect.TheVariants.{FloatingLiteral, IntegerTooLarge, MalformedInteger}
use Rattle.idl_lex.specs.declared.kinds.kind.TokenKind.{TokenKind}
use Rattle.idl_lex.specs.declared.kinds.kind.TokenKind.TheVariants.{Accepted, Bad, Integer, Refused, String, WideString}
use Rattle.idl_parts.specs.declared.part.Declaration.{Declaration}
use Rattle.idl_parts.specs.declared.part.Declaration.TheVariants as way
use Rattle.idl_parts.specs.declared.part.Use.{Use}
use Rattle.idl_parts.specs.declared.part.Use.TheVariants as usage
use Rattle.idl_plain.specs.Allowance.{left_behind}
use Rattle.idl_plain.specs.Declared.{declared}
use Rattle.idl_plain.specs.Expression.{linked, read}
use Rattle.idl_plain.specs.Operators.{before as at_one, between}
use Rattle.idl_plain.specs.Steps.{stepped}
use Rattle.idl_plain.specs.Tokens.{codes_behind, is_mixed, is_refused}
use Rattle.idl_plain.specs.Types.{of_basics, of_integers, of_sizes, of_types, of_words}
use Rattle.idl_plain.specs.Used.{introduced, rules_of_used, used_at, walk_behind}
use Rattle.idl_repo.specs.TypeCode.{integer_word}
use Rattle.idl_scope.specs.declared.found.Found.{Found}
use Rattle.idl_tree.specs.DataType.{sized_word, spell_basic, spell_discrete, spell_sign, spell_size}
use Rattle.idl_tree.specs.Lexeme.{Word}
use Rattle.idl_tree.specs.NameParts.{last_at}
use Rattle.idl_tree.specs.declared.name.ScopedName.{ScopedName}
use Rattle.idl_tree.specs.declared.declarations.data_type.BasicType.{BasicType}
use Rattle.idl_tree.specs.declared.declarations.data_type.BasicType.TheVariants as basic
use Rattle.idl_tree.specs.declared.declarations.data_type.DiscreteType.{DiscreteType}
use Rattle.idl_tree.specs.declared.declarations.data_type.DiscreteType.TheVariants as discrete
use Rattle.idl_tree.specs.declared.declarations.data_type.IntegerSize.{IntegerSize}
use Rattle.idl_tree.specs.declared.declarations.data_type.IntegerSize.TheVariants as size
use Rattle.idl_tree.specs.declared.declarations.data_type.SizedInteger.{SizedInteger}
use Rattle.idl_tree.specs.declared.declarations.data_type.SizedInteger.TheVariants as sized
use Rattle.idl_tree.specs.declared.expression.UnaryOperator.{UnaryOperator}
use Rattle.idl_unit.specs.TokenRules.{bad_codes, code_if, first, is_left_out, is_miscased, is_other_width, is_too_deep, token_codes}
use Rattle.idl_value.specs.ConstantType.{integer_of, sized_kind, target_of}
use Rattle.idl_value.specs.Evaluation.{Operands, Read, behind, combined, read_links, read_operator, read_parenthesis, read_sign, read_term, signed_value}
use Rattle.idl_value.specs.Term.{Chain, End, Link, Links, Literally, Named, Parenthesised, Signed, Term}
use Rattle.idl_value.specs.integers.Integer.{is_signed, width}
use Rattle.idl_value.specs.declared.constant_type.ConstantType.{ConstantType}
use Rattle.idl_value.specs.declared.constant_type.ConstantType.TheVariants as target
use Rattle.idl_value.specs.declared.integer.IntegerKind.{IntegerKind}
use Rattle.idl_value.specs.declared.integer.IntegerKind.TheVariants as integer
use Rattle.idl_value.specs.declared.operator.BinaryOperator.{BinaryOperator}
use Rattle.idl_value.specs.declared.value.Value.{Value}
use Rattle.idl_value.specs.declared.value.Value.TheVariants as value
use Rattle.idl_value.specs.declared.walk.Passed.{Passed}

-- ---- types

pub integers-told : (k : IntegerKind) → (integer_word k ≡ (of_integers k).0) × (width k ≡ (of_integers k).1.0) × (is_signed k ≡ (of_integers k).1.1)
integers-told integer.Octet = (refl, refl, refl)
integers-told integer.Int8 = (refl, refl, refl)
integers-told integer.Uint8 = (refl, refl, refl)
integers-told integer.Short = (refl, refl, refl)
integers-told integer.UnsignedShort = (refl, refl, refl)
integers-told integer.Long = (refl, refl, refl)
integers-told integer.UnsignedLong = (refl, refl, refl)
integers-told integer.LongLong = (refl, refl, refl)
integers-told integer.UnsignedLongLong = (refl, refl, refl)

sizes-told : (u : Bool) (s : IntegerSize) → (spell_sign u ++ spell_size s ≡ (of_sizes u s).0) × (integer_of u s ≡ (of_sizes u s).1)
sizes-told true size.Short = (refl, refl)
sizes-told true size.Long = (refl, refl)
sizes-told true size.LongLong = (refl, refl)
sizes-told false size.Short = (refl, refl)
sizes-told false size.Long = (refl, refl)
sizes-told false size.LongLong = (refl, refl)

words-told : (s : SizedInteger) → (sized_word s ≡ (of_words s).0) × (sized_kind s ≡ (of_words s).1)
words-told sized.Int8 = (refl, refl)
words-told sized.Int16 = (refl, refl)
words-told sized.Int32 = (refl, refl)
words-told sized.Int64 = (refl, refl)
words-told sized.Uint8 = (refl, refl)
words-told sized.Uint16 = (refl, refl)
words-told sized.Uint32 = (refl, refl)
words-told sized.Uint64 = (refl, refl)

pub types-spelled : (t : DiscreteType) → spell_discrete t ≡ (of_types t).0
types-spelled (discrete.Integer i) = (sizes-told i.is_unsigned i.size).0
types-spelled (discrete.Sized s) = ap (λ w. Word w ∷ []) (words-told s).0
types-spelled discrete.Char = refl
types-spelled discrete.WideChar = refl
types-spelled discrete.Boolean = refl
types-spelled discrete.Octet = refl

pub types-told : (t : DiscreteType) → target_of t ≡ (of_types t).1
types-told (discrete.Integer i) = ap target.Integer (sizes-told i.is_unsigned i.size).1
types-told (discrete.Sized s) = ap target.Integer (words-told s).1
types-told discrete.Char = refl
types-told discrete.WideChar = refl
types-told discrete.Boolean = refl
types-told discrete.Octet = refl

pub basics-spelled : (t : BasicType) → spell_basic t ≡ (of_basics t).0
basics-spelled (basic.Discrete d) = types-spelled d
basics-spelled basic.Float = refl
basics-spelled basic.Double = refl
basics-spelled basic.LongDouble = refl
basics-spelled basic.Any = refl
basics-spelled basic.Object = refl

pub basics-told : (t : BasicType) → element_of t ≡ (of_basics t).1
basics-told (basic.Discrete d) = ap Constants (types-told d)
basics-told basic.Float = refl
basics-told basic.Double = refl
basics-told basic.LongDouble = refl
basics-told basic.Any = refl
basics-told basic.Object = refl

-- ---- declared and used names

pub entities-told : (w : Written) (way : Declaration) (name : List ℕ) (scope : List (List ℕ)) → entity_of w way name scope ≡ declared w (name ∷ scope) way
entities-told w way.Module name scope = refl
entities-told w (way.Interface l) name scope = refl
entities-told w (way.InterfaceAhead l) name scope = refl
entities-told w way.Structure name scope = refl
entities-told w way.StructureAhead name scope = refl
entities-told w way.Union name scope = refl
entities-told w way.UnionAhead name scope = refl
entities-told w way.Exception name scope = refl
entities-told w way.Enumeration name scope = refl
entities-told w way.Enumerator name scope = refl
entities-told w way.Alias name scope = refl
entities-told w way.Native name scope = refl
entities-told w way.Constant name scope = refl
entities-told w (way.Attribute r) name scope = refl
entities-told w (way.Operation o) name scope = refl
entities-told w (way.Parameter d) name scope = refl
entities-told w way.Member name scope = refl

pub scopes-told : (w : Written) (way : Declaration) (name : List ℕ) (s : Scope) (scopes : List Scope)
    → with_scope way name (s ∷ scopes) ≡ (let e = declared w (name ∷ s.path) way in record { path = e.path; kind = e.kind; body = 1 } ∷ s ∷ scopes)
scopes-told w way name s scopes =
    ap (λ (e : Entity). record { path = e.path; kind = e.kind; body = 1 } ∷ s ∷ scopes) (entities-told w way name s.path)

rules-told : (way : Use) (bases : Bases) (e behind : Entity)
    → used_table way bases e behind ≡ (let rules = rules_of_used way bases e behind in if rules.0 then rules.1 else (true, WrongKind) ∷ [])
rules-told (usage.AsBase l) bases e behind = refl
rules-told usage.AsStructBase bases e behind = refl
rules-told usage.AsType bases e behind = refl
rules-told usage.AsElement bases e behind = refl
rules-told usage.AsConstantType bases e behind = refl
rules-told usage.AsDiscriminator bases e behind = refl
rules-told usage.AsOperand bases e behind = refl
rules-told usage.Raised bases e behind = refl
rules-told usage.RaisedBySet bases e behind = refl
rules-told usage.AsIdentified bases e behind = refl
rules-told usage.AsPrefixed bases e behind = refl

-- what a base leaves by what was declared last
base-left : (e behind : Entity) (w : Walk) (o : Option Entity)
    → (let v = record w { last = o } in record v { own = own_after usage.AsStructBase (last_after usage.AsStructBase e.path o) v.own; last = last_after usage.AsStructBase e.path o })
    ≡ walk_behind usage.AsStructBase e behind (record w { last = o })
base-left e behind w None = refl
base-left e behind w (Some s) = refl

abbrev Behind : Use → Type 0
Behind way = (w : Walk) (name : ScopedName) (found : Found) (behind : Entity) → used_after w way name found behind
    ≡ walk_behind way found.entity behind (introduced w name found)

uses-left : (way : Use) → Behind way
uses-left usage.AsStructBase w name found behind =
    base-left found.entity behind (introduced w name found) w.last
uses-left (usage.AsBase l) w name found behind = refl
uses-left usage.AsType w name found behind = refl
uses-left usage.AsElement w name found behind = refl
uses-left usage.AsConstantType w name found behind = refl
uses-left usage.AsDiscriminator w name found behind = refl
uses-left usage.AsOperand w name found behind = refl
uses-left usage.Raised w name found behind = refl
uses-left usage.RaisedBySet w name found behind = refl
uses-left usage.AsIdentified w name found behind = refl
uses-left usage.AsPrefixed w name found behind = refl

pub uses-told : (w : Walk) (way : Use) (name : ScopedName) (found : Found) (behind : Entity) → used_visit w way name found behind ≡ used_at w way name found behind
uses-told w way name found behind = λ i. record {
  faults = faults_by (last_at w.at name) (rules-told way w.bases found.entity behind i);
  after = uses-left way w name found behind i;
}

-- ---- steps

pub steps-told : (w : World) (s : Step) → after_step w s ≡ stepped w s
steps-told w Stays = refl
steps-told w (Opens path kind) = refl
steps-told w (OpensNameless kind) = refl
steps-told w Closes = refl
steps-told w (Prefixes text) = refl
steps-told w Enters = refl
steps-told w Leaves = refl

-- ---- operators

pub between-told : (t : ConstantType) (operator : BinaryOperator) (a b : Value) → combined t operator a b ≡ between t operator a b
between-told (target.Integer kind) operator (value.Integer a) (value.Integer b) = refl
between-told (target.Integer kind) operator (value.Integer a) b = refl
between-told (target.Integer kind) operator a b = refl
between-told t operator a b = refl

pub before-told : (t : ConstantType) (sign : UnaryOperator) (a : Value) → signed_value t sign a ≡ at_one t sign a
before-told (target.Integer kind) sign (value.Integer a) = refl
before-told (target.Integer kind) sign a = refl
before-told t sign a = refl

-- ---- tokens

mixed-told : (kind : TokenKind) (before : List TokenKind) → is_other_width kind (first before) ≡ is_mixed kind before
mixed-told WideString [] = refl
mixed-told WideString (String ∷ before) = refl
mixed-told WideString (other ∷ before) = refl
mixed-told String [] = refl
mixed-told String (WideString ∷ before) = refl
mixed-told String (other ∷ before) = refl
mixed-told kind before = refl

refused-told : (kind : TokenKind) (before : List TokenKind) → is_left_out kind (first before) (first (drop 1 before)) ≡ is_refused kind before
refused-told Refused before = refl
refused-told (Accepted Float) [] = refl
refused-told (Accepted Float) (Accepted Const ∷ before) = refl
refused-told (Accepted Float) (Accepted other ∷ before) = refl
refused-told (Accepted Float) (other ∷ before) = refl
refused-told (Accepted Double) [] = refl
refused-told (Accepted Double) (Accepted Const ∷ before) = refl
refused-told (Accepted Double) (Accepted Long ∷ []) = refl
refused-told (Accepted Double) (Accepted Long ∷ Accepted Const ∷ before) = refl
refused-told (Accepted Double) (Accepted Long ∷ Accepted other ∷ before) = refl
refused-told (Accepted Double) (Accepted Long ∷ other ∷ before) = refl
refused-told (Accepted Double) (Accepted other ∷ before) = refl
refused-told (Accepted Double) (other ∷ before) = refl
refused-told (Accepted other) before = refl
refused-told other before = refl

pub tokens-told : (before : List TokenKind) (kind : TokenKind) → token_codes before kind ≡ codes_behind before kind
tokens-told before kind = λ i.
    bad_codes kind
    ++ (code_if (mixed-told kind before i) MixedWidths
    ++ (code_if (refused-told kind before i) LeftOut
    ++ (code_if (is_too_deep (kind ∷ before)) NestedTooDeep ++ code_if (is_miscased kind) LikeKeyword)))

-- ---- numbers

pub numbers-told : (spelling : List ℕ) → number_kind spelling
    ≡ (if is_some (integer_value spelling) then Integer
    else if are_digits (based spelling).0 (based spelling).1 then Bad IntegerTooLarge
    else if is_floating spelling then Bad FloatingLiteral else Bad MalformedInteger)
numbers-told spelling = by (are_digits (based spelling).0 (based spelling).1) (limited (number (based spelling).0 (based spelling).1)) (is_floating spelling)
  where
    by : (digits : Bool) (n : Option ℕ) (floats : Bool) → cond digits (kind_of_value n) (cond floats (Bad FloatingLiteral) (Bad MalformedInteger))
        ≡ cond (is_some (cond digits n None)) Integer (cond digits (Bad IntegerTooLarge) (cond floats (Bad FloatingLiteral) (Bad MalformedInteger)))
    by true None floats = refl
    by true (Some n) floats = refl
    by false n floats = refl

-- ---- allowances

pub allowances-told : (left : Allowance) (item : Item) → spend left item ≡ left_behind left item
allowances-told left (item.Turn place) = refl
allowances-told left (item.TooDeep place) = refl
allowances-told left (item.Counted place) = refl
allowances-told left (item.Kept (event.Emitted place token)) = refl
allowances-told left (item.Kept e) = refl

-- ---- expressions

mutual
  pub expressions-told : (target : ConstantType) (operands : Operands) (place : Passed) (t : Term) → read_term target operands place t ≡ read target operands place t
  expressions-told target operands place (Named before) = refl
  expressions-told target operands place (Literally l) = refl
  expressions-told target operands place (Parenthesised inner) = ap read_parenthesis (expressions-told target operands (behind place 1 0) inner)
  expressions-told target operands place (Signed sign operand) =
      ap (read_sign target place.token sign) (expressions-told target operands (behind place 1 0) operand)
  expressions-told target operands place (Chain first rest) =
      ap (λ (r : Read). read_links target operands r rest) (expressions-told target operands place first)
      ∙ links-told target operands (read target operands place first) rest

  links-told : (target : ConstantType) (operands : Operands) (left : Read) (rest : Links) → read_links target operands left rest ≡ linked target operands left rest
  links-told target operands left End = refl
  links-told target operands left (Link operator t rest) =
      ap (λ (r : Read). read_links target operands (read_operator target operator left r) rest) (expressions-told target operands (behind left.place 1 0) t)
      ∙ links-told target operands (read_operator target operator left (read target operands (behind left.place 1 0) t)) rest
