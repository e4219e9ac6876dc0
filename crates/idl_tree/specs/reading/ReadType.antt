-- Reading of types and declared names.
use Rattle.std.specs.Prelude.{ℕ, zero, suc, List, length, Option, Some, None, Ok, Err, Bool, true, false, if◌then◌else◌}
use Rattle.idl_lex.specs.declared.kinds.keyword.Keyword.{Keyword}
use Rattle.idl_lex.specs.declared.kinds.keyword.Keyword.TheVariants as word
use Rattle.idl_lex.specs.declared.kinds.mark.Mark.TheVariants as mark
use Rattle.idl_tree.specs.Lexeme.{Lexeme, Word}
use Rattle.idl_tree.specs.reading.ReadExpression.{expression_at}
use Rattle.idl_tree.specs.reading.ReadName.{name_at}
use Rattle.idl_tree.specs.reading.Reading.{Reader, ◌>>=◌, first, expect, many_of}
use Rattle.idl_tree.specs.reading.Tests.{is_mark, is_word, keyword_of, by_word, pick, identifier_at}
use Rattle.idl_tree.specs.declared.declarations.data_type.BasicType.{BasicType}
use Rattle.idl_tree.specs.declared.declarations.data_type.BasicType.TheVariants as basic
use Rattle.idl_tree.specs.declared.declarations.data_type.TypeTree.{TypeTree}
use Rattle.idl_tree.specs.declared.declarations.data_type.TypeTree.TheVariants as data_type
use Rattle.idl_tree.specs.declared.declarations.data_type.DiscreteType.{DiscreteType}
use Rattle.idl_tree.specs.declared.declarations.data_type.DiscreteType.TheVariants as discrete
use Rattle.idl_tree.specs.declared.declarations.data_type.IntegerSize.{IntegerSize}
use Rattle.idl_tree.specs.declared.declarations.data_type.IntegerSize.TheVariants.{Short, Long, LongLong}
use Rattle.idl_tree.specs.declared.declarations.data_type.PlainType.{PlainType}
use Rattle.idl_tree.specs.declared.declarations.data_type.PlainType.TheVariants as plain
use Rattle.idl_tree.specs.declared.declarations.data_type.Sequence.{roll-Sequence}
use Rattle.idl_tree.specs.declared.declarations.data_type.SizedInteger.{SizedInteger}
use Rattle.idl_tree.specs.declared.declarations.data_type.SizedInteger.TheVariants as sized
use Rattle.idl_tree.specs.declared.declarations.data_type.StringType.{StringType}
use Rattle.idl_tree.specs.declared.declarations.declarator.Declarator.{Declarator}
use Rattle.idl_tree.specs.declared.expression.Expression.{Expression}

abbrev pub integer_type : Bool → IntegerSize → DiscreteType
integer_type is_unsigned size = discrete.Integer (record { is_unsigned = is_unsigned; size = size })

-- "long" | "long" "long", behind the first of them
unfoldable pub long_size_at : Reader IntegerSize
long_size_at ts =
    if is_word word.Long (first ts) then by_word word.Long LongLong ts else Ok (Long, ts)

-- "short" | "long" | "long" "long"
unfoldable pub size_at : Reader IntegerSize
size_at ts =
    if is_word word.Long (first ts)
    then (expect (is_word word.Long) ts >>= λ rest. long_size_at rest)
    else by_word word.Short Short ts

abbrev pub unsigned_at : Reader DiscreteType
unsigned_at ts = do
  rest ← expect (is_word word.Unsigned) ts
  size ← size_at rest
  Ok (integer_type true size.0, size.1)

abbrev pub signed_at : Reader DiscreteType
signed_at ts = do
  size ← size_at ts
  Ok (integer_type false size.0, size.1)

-- the sized integer type that a token is
abbrev pub sized_of : Option Lexeme → Option SizedInteger
sized_of (Some (Word word.Int8)) = Some sized.Int8
sized_of (Some (Word word.Int16)) = Some sized.Int16
sized_of (Some (Word word.Int32)) = Some sized.Int32
sized_of (Some (Word word.Int64)) = Some sized.Int64
sized_of (Some (Word word.Uint8)) = Some sized.Uint8
sized_of (Some (Word word.Uint16)) = Some sized.Uint16
sized_of (Some (Word word.Uint32)) = Some sized.Uint32
sized_of (Some (Word word.Uint64)) = Some sized.Uint64
sized_of _ = None

-- int | "char" | "wchar" | "boolean" | "octet", by the first keyword
abbrev pub discrete_by : Option Keyword → Reader DiscreteType
discrete_by (Some word.Unsigned) ts = unsigned_at ts
discrete_by (Some word.Short) ts = signed_at ts
discrete_by (Some word.Long) ts = signed_at ts
discrete_by (Some word.Char) ts = by_word word.Char discrete.Char ts
discrete_by (Some word.Wchar) ts = by_word word.Wchar discrete.WideChar ts
discrete_by (Some word.Boolean) ts = by_word word.Boolean discrete.Boolean ts
discrete_by (Some word.Octet) ts = by_word word.Octet discrete.Octet ts
discrete_by others ts = pick sized_of ts >>= λ s. Ok (discrete.Sized s.0, s.1)

unfoldable pub discrete_at : Reader DiscreteType
discrete_at ts = discrete_by (keyword_of (first ts)) ts

abbrev pub signed_type : IntegerSize → BasicType
signed_type size = basic.Discrete (integer_type false size)

-- "long" | "long" "long" | "long" "double", behind the first of them
abbrev pub long_by : Option Keyword → Reader BasicType
long_by (Some word.Long) ts = by_word word.Long (signed_type LongLong) ts
long_by (Some word.Double) ts = by_word word.Double basic.LongDouble ts
long_by others ts = Ok (signed_type Long, ts)

unfoldable pub long_at : Reader BasicType
long_at ts = do
  rest ← expect (is_word word.Long) ts
  long_by (keyword_of (first rest)) rest

-- a type of keywords alone, by the first of them
abbrev pub basic_by : Option Keyword → Reader BasicType
basic_by (Some word.Long) ts = long_at ts
basic_by (Some word.Float) ts = by_word word.Float basic.Float ts
basic_by (Some word.Double) ts = by_word word.Double basic.Double ts
basic_by (Some word.Any) ts = by_word word.Any basic.Any ts
basic_by (Some word.Object) ts = by_word word.Object basic.Object ts
basic_by others ts = discrete_at ts >>= λ d. Ok (basic.Discrete d.0, d.1)

unfoldable pub basic_at : Reader BasicType
basic_at ts = basic_by (keyword_of (first ts)) ts

-- [ "<" expr ">" ]
unfoldable pub bound_with : Reader Expression → Reader (Option Expression)
bound_with expression ts =
    if is_mark mark.Less (first ts) then (do
      rest ← expect (is_mark mark.Less) ts
      e ← expression rest
      rest2 ← expect (is_mark mark.Greater) e.1
      Ok (Some e.0, rest2))
    else Ok (None, ts)

-- whether a string's keyword is that of a wide one
abbrev pub string_word_of : Option Lexeme → Option Bool
string_word_of (Some (Word word.String)) = Some false
string_word_of (Some (Word word.Wstring)) = Some true
string_word_of _ = None

abbrev pub string_type : Bool → Option Expression → StringType
string_type is_wide bound = record { is_wide = is_wide; bound = bound }

-- string = ( "string" | "wstring" ) [ "<" expr ">" ]
unfoldable pub string_with : Reader Expression → Reader StringType
string_with expression ts = do
  is_wide ← pick string_word_of ts
  bound ← bound_with expression is_wide.1
  Ok (string_type is_wide.0 bound.0, bound.1)

-- ptype, by its first keyword
abbrev pub plain_by : Reader Expression → Option Keyword → Reader PlainType
plain_by expression (Some word.String) ts =
    string_with expression ts >>= λ s. Ok (plain.String s.0, s.1)
plain_by expression (Some word.Wstring) ts =
    string_with expression ts >>= λ s. Ok (plain.String s.0, s.1)
plain_by expression None ts = name_at ts >>= λ n. Ok (plain.Name n.0, n.1)
plain_by expression others ts = basic_at ts >>= λ b. Ok (plain.Basic b.0, b.1)

unfoldable pub plain_with : Reader Expression → Reader PlainType
plain_with expression ts = plain_by expression (keyword_of (first ts)) ts

-- [ "," expr ]
unfoldable pub limit_with : Reader Expression → Reader (Option Expression)
limit_with expression ts =
    if is_mark mark.Comma (first ts) then (do
      rest ← expect (is_mark mark.Comma) ts
      e ← expression rest
      Ok (Some e.0, e.1))
    else Ok (None, ts)

abbrev pub made_sequence : TypeTree → Option Expression → TypeTree
made_sequence element bound =
    data_type.Sequence (roll-Sequence (record { element = element; bound = bound }))

-- "sequence" "<" type [ "," expr ] ">"
unfoldable pub sequence_with : Reader Expression → Reader TypeTree → Reader TypeTree
sequence_with expression inner ts = do
  rest ← expect (is_word word.Sequence) ts
  rest2 ← expect (is_mark mark.Less) rest
  t ← inner rest2
  b ← limit_with expression t.1
  rest3 ← expect (is_mark mark.Greater) b.1
  Ok (made_sequence t.0 b.0, rest3)

-- type = ptype | "sequence" "<" type [ "," expr ] ">"
unfoldable pub type_with : Reader Expression → Reader TypeTree → Reader TypeTree
type_with expression inner ts =
    if is_word word.Sequence (first ts) then sequence_with expression inner ts
    else (plain_with expression ts >>= λ p. Ok (data_type.Plain p.0, p.1))

-- at most n deep
unfoldable pub type_at : ℕ → Reader TypeTree
type_at zero ts = Err (length ts)
type_at (suc n) ts = type_with (expression_at n) (type_at n) ts

-- "[" expr "]"
unfoldable pub length_with : Reader Expression → Reader Expression
length_with expression ts = do
  rest ← expect (is_mark mark.OpenBracket) ts
  e ← expression rest
  rest2 ← expect (is_mark mark.CloseBracket) e.1
  Ok (e.0, rest2)

abbrev pub declared : List ℕ → List Expression → Declarator
declared name lengths = record { name = name; lengths = lengths }

-- declr = ID ( "[" expr "]" )*
unfoldable pub declarator_with : Reader Expression → Reader Declarator
declarator_with expression ts = do
  name ← identifier_at ts
  lengths ← many_of (is_mark mark.OpenBracket) (length_with expression) name.1
  Ok (declared name.0 lengths.0, lengths.1)
