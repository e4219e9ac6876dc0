-- A type that is spelled is read again, and so is a declared name.
-- what would go on with a type
use Rattle.std.proofs.Common.{Bool, List, None, Ok, Option, Result, Some, [], ap, arith, cond, false, length, refl, subst, suc, sym, true, zero, ℕ, ◌++◌, ◌<◌, ◌∙◌, ◌∷◌, ◌≡◌, ◌≤◌}
use Rattle.std.proofs.lemmas.List.{length-append}
use Rattle.idl_lex.specs.declared.kinds.keyword.Keyword.{Keyword}
use Rattle.idl_lex.specs.declared.kinds.keyword.Keyword.TheVariants as word
use Rattle.idl_lex.specs.declared.kinds.mark.Mark.TheVariants as mark
use Rattle.idl_tree.specs.DataType.{sized_word, spell_basic, spell_bound, spell_discrete, spell_limit, spell_plain, spell_string, spell_type}
use Rattle.idl_tree.specs.Expression.{spell_expression}
use Rattle.idl_tree.specs.Lexeme.{Identifier, Lexeme, Lexemes, Punctuation, Word}
use Rattle.idl_tree.specs.Name.{spell_name}
use Rattle.idl_tree.specs.reading.ReadExpression.{expression_at}
use Rattle.idl_tree.specs.reading.ReadType.{basic_at, bound_with, discrete_at, integer_type, limit_with, long_at, long_by, long_size_at, made_sequence, plain_by, plain_with, sequence_with, signed_type, size_at, string_type, string_with, type_at, type_with}
use Rattle.idl_tree.specs.reading.Reading.{Reader, expect, first, ◌>>=◌}
use Rattle.idl_tree.specs.reading.Tests.{is_mark, is_word, keyword_of}
use Rattle.idl_tree.specs.declared.declarations.data_type.BasicType.{BasicType}
use Rattle.idl_tree.specs.declared.declarations.data_type.BasicType.TheVariants as basic
use Rattle.idl_tree.specs.declared.declarations.data_type.TypeTree.{TypeTree, ind-TypeTree, map-TypeTree, roll-TypeTree}
use Rattle.idl_tree.specs.declared.declarations.data_type.TypeTree.TheOpen.{TypeTree-F}
use Rattle.idl_tree.specs.declared.declarations.data_type.TypeTree.TheVariants.{rolls-Plain, rolls-Sequence}
use Rattle.idl_tree.specs.declared.declarations.data_type.TypeTree.TheVariants as data_type
use Rattle.idl_tree.specs.declared.declarations.data_type.DiscreteType.{DiscreteType}
use Rattle.idl_tree.specs.declared.declarations.data_type.DiscreteType.TheVariants as discrete
use Rattle.idl_tree.specs.declared.declarations.data_type.IntegerSize.{IntegerSize}
use Rattle.idl_tree.specs.declared.declarations.data_type.IntegerSize.TheVariants.{Long, LongLong, Short}
use Rattle.idl_tree.specs.declared.declarations.data_type.PlainType.{PlainType}
use Rattle.idl_tree.specs.declared.declarations.data_type.PlainType.TheVariants as plain
use Rattle.idl_tree.specs.declared.declarations.data_type.Sequence.{Sequence, roll-Sequence}
use Rattle.idl_tree.specs.declared.declarations.data_type.SizedInteger.{SizedInteger}
use Rattle.idl_tree.specs.declared.declarations.data_type.SizedInteger.TheVariants as sized
use Rattle.idl_tree.specs.declared.declarations.data_type.StringType.{StringType}
use Rattle.idl_tree.specs.declared.expression.Expression.{Expression}
use Rattle.idl_tree.specs.declared.name.ScopedName.{ScopedName}
use Rattle.idl_tree.proofs.ReadAgain.Again.{Later, goes_or, neither}
use Rattle.idl_tree.proofs.ReadAgain.AgainParts.{Parted, Reads, nothing, spelled_reads, then_reads}
use Rattle.idl_tree.proofs.ReadAgain.ExpressionAgain.{expression_again, goes_expression, name_again}
use Rattle.idl_tree.proofs.Readers.NameLaws.{named}
use Rattle.idl_tree.proofs.Readers.NestedTypeLaws.{spell_type-plain, spell_type-sequence}

abbrev pub goes_type : Option Lexeme → Bool
goes_type t = cond (is_mark mark.ColonColon t) true (cond (is_mark mark.Less t) true (cond (is_word word.Long t) true (is_word word.Double t)))

pub record TypeStops (t : Option Lexeme) : Type 0 where
  pub name : is_mark mark.ColonColon t ≡ false
  pub bound : is_mark mark.Less t ≡ false
  pub long : is_word word.Long t ≡ false
  pub double : is_word word.Double t ≡ false

pub type_stops : (t : Option Lexeme) → goes_type t ≡ false → TypeStops t
type_stops t h =
    let a = neither (is_mark mark.ColonColon t) (cond (is_mark mark.Less t) true (cond (is_word word.Long t) true (is_word word.Double t))) h in
    let b = neither (is_mark mark.Less t) (cond (is_word word.Long t) true (is_word word.Double t)) a.1 in
    let c = neither (is_word word.Long t) (is_word word.Double t) b.1 in
    record { name = a.0; bound = b.0; long = c.0; double = c.1 }

-- ---- types of keywords

-- what a type begins with whose values can be told one from another
abbrev pub is_discrete_word : Option Keyword → Bool
is_discrete_word (Some word.Unsigned) = true
is_discrete_word (Some word.Short) = true
is_discrete_word (Some word.Long) = true
is_discrete_word (Some word.Int8) = true
is_discrete_word (Some word.Int16) = true
is_discrete_word (Some word.Int32) = true
is_discrete_word (Some word.Int64) = true
is_discrete_word (Some word.Uint8) = true
is_discrete_word (Some word.Uint16) = true
is_discrete_word (Some word.Uint32) = true
is_discrete_word (Some word.Uint64) = true
is_discrete_word (Some word.Char) = true
is_discrete_word (Some word.Wchar) = true
is_discrete_word (Some word.Boolean) = true
is_discrete_word (Some word.Octet) = true
is_discrete_word _ = false

sized_words : (s : SizedInteger) → is_discrete_word (Some (sized_word s)) ≡ true
sized_words sized.Int8 = refl
sized_words sized.Int16 = refl
sized_words sized.Int32 = refl
sized_words sized.Int64 = refl
sized_words sized.Uint8 = refl
sized_words sized.Uint16 = refl
sized_words sized.Uint32 = refl
sized_words sized.Uint64 = refl

pub discrete_words : (d : DiscreteType) (rest : Lexemes) → is_discrete_word (keyword_of (first (spell_discrete d ++ rest))) ≡ true
discrete_words (discrete.Integer i) rest = integers i.is_unsigned i.size
  where
    integers : (is_unsigned : Bool) (size : IntegerSize) → is_discrete_word (keyword_of (first (spell_discrete (integer_type is_unsigned size) ++ rest))) ≡ true
    integers true size = refl
    integers false Short = refl
    integers false Long = refl
    integers false LongLong = refl
discrete_words (discrete.Sized s) rest = sized_words s
discrete_words discrete.Char rest = refl
discrete_words discrete.WideChar rest = refl
discrete_words discrete.Boolean rest = refl
discrete_words discrete.Octet rest = refl

sized_reads : (s : SizedInteger) (rest : Lexemes) → (discrete_at (Word (sized_word s) ∷ rest) ≡ Ok (discrete.Sized s, rest)) × (basic_at (Word (sized_word s) ∷ rest) ≡ Ok (basic.Discrete (discrete.Sized s), rest))
unfolding discrete_at basic_at
sized_reads sized.Int8 rest = (refl, refl)
sized_reads sized.Int16 rest = (refl, refl)
sized_reads sized.Int32 rest = (refl, refl)
sized_reads sized.Int64 rest = (refl, refl)
sized_reads sized.Uint8 rest = (refl, refl)
sized_reads sized.Uint16 rest = (refl, refl)
sized_reads sized.Uint32 rest = (refl, refl)
sized_reads sized.Uint64 rest = (refl, refl)

pub discrete_reads : (d : DiscreteType) → Reads goes_type (spell_discrete d) discrete_at d
unfolding discrete_at size_at long_size_at
discrete_reads (discrete.Integer i) rest h = integers i.is_unsigned i.size
  where
    integers : (is_unsigned : Bool) (size : IntegerSize) → discrete_at (spell_discrete (integer_type is_unsigned size) ++ rest) ≡ Ok (integer_type is_unsigned size, rest)
    integers true Short = refl
    integers true Long = rw (type_stops (first rest) h).long refl
    integers true LongLong = refl
    integers false Short = refl
    integers false Long = rw (type_stops (first rest) h).long refl
    integers false LongLong = refl
discrete_reads (discrete.Sized s) rest h = (sized_reads s rest).0
discrete_reads discrete.Char rest h = refl
discrete_reads discrete.WideChar rest h = refl
discrete_reads discrete.Boolean rest h = refl
discrete_reads discrete.Octet rest h = refl

long_ends : (t : Option Lexeme) (ts : Lexemes) → TypeStops t → long_by (keyword_of t) ts ≡ Ok (signed_type Long, ts)
long_ends None ts stops = refl
long_ends (Some (Word word.Long)) ts stops = absurd (let h = stops.long in cc)
long_ends (Some (Word word.Double)) ts stops = absurd (let h = stops.double in cc)
long_ends _ ts stops = refl

abbrev as_basic : Result (DiscreteType × Lexemes) ℕ → Result (BasicType × Lexemes) ℕ
as_basic o = o >>= λ d. Ok (basic.Discrete d.0, d.1)

discrete_basic_reads : (d : DiscreteType) → Reads goes_type (spell_discrete d) basic_at (basic.Discrete d)
unfolding basic_at long_at
discrete_basic_reads (discrete.Integer i) rest h = integers i.is_unsigned i.size
  where
    integers : (is_unsigned : Bool) (size : IntegerSize) → basic_at (spell_discrete (integer_type is_unsigned size) ++ rest) ≡ Ok (basic.Discrete (integer_type is_unsigned size), rest)
    integers true size = ap as_basic (discrete_reads (integer_type true size) rest h)
    integers false Short = ap as_basic (discrete_reads (integer_type false Short) rest h)
    integers false Long = long_ends (first rest) rest (type_stops (first rest) h)
    integers false LongLong = refl
discrete_basic_reads (discrete.Sized s) rest h = (sized_reads s rest).1
discrete_basic_reads discrete.Char rest h = ap as_basic (discrete_reads discrete.Char rest h)
discrete_basic_reads discrete.WideChar rest h = ap as_basic (discrete_reads discrete.WideChar rest h)
discrete_basic_reads discrete.Boolean rest h = ap as_basic (discrete_reads discrete.Boolean rest h)
discrete_basic_reads discrete.Octet rest h = ap as_basic (discrete_reads discrete.Octet rest h)

pub basic_reads : (b : BasicType) → Reads goes_type (spell_basic b) basic_at b
unfolding basic_at long_at
basic_reads (basic.Discrete d) rest h = discrete_basic_reads d rest h
basic_reads basic.Float rest h = refl
basic_reads basic.Double rest h = refl
basic_reads basic.LongDouble rest h = refl
basic_reads basic.Any rest h = refl
basic_reads basic.Object rest h = refl

-- ---- types that hold no other one

pub expression_reads : (e : Expression) (n : ℕ) → length (spell_expression e) < n → Reads goes_expression (spell_expression e) (expression_at n) e
expression_reads e n lt rest h = expression_again e n rest lt h

bound_reads : (b : Option Expression) (n : ℕ) → length (spell_bound b) ≤ n → Reads (is_mark mark.Less) (spell_bound b) (bound_with (expression_at n)) b
unfolding bound_with
bound_reads None n le rest h = rw h refl
bound_reads (Some e) n le rest h =
    let sum = length-append (spell_expression e) (Punctuation mark.Greater ∷ []) in
    then_reads goes_expression nothing (spell_expression e) (Punctuation mark.Greater ∷ []) (expression_at n) (λ e ts. expect (is_mark mark.Greater) ts >>= λ r. Ok (Some e, r)) e (Some e)
    (expression_reads e n (omega (arith, le, sum))) (λ rest h. refl) (λ rest h. refl) rest refl

pub string_reads : (s : StringType) (n : ℕ) → length (spell_string s) ≤ n → Reads (is_mark mark.Less) (spell_string s) (string_with (expression_at n)) s
unfolding string_with
string_reads s n le = by_word s.is_wide s.bound le
  where
    by_word : (w : Bool) (b : Option Expression) → length (spell_string (string_type w b)) ≤ n → Reads (is_mark mark.Less) (spell_string (string_type w b)) (string_with (expression_at n)) (string_type w b)
    by_word true b le rest h = ap (λ (o : Result (Option Expression × Lexemes) ℕ). o >>= λ x. Ok (string_type true x.0, x.1)) (bound_reads b n (omega (arith, le)) rest h)
    by_word false b le rest h = ap (λ (o : Result (Option Expression × Lexemes) ℕ). o >>= λ x. Ok (string_type false x.0, x.1)) (bound_reads b n (omega (arith, le)) rest h)

abbrev as_plain : Result (BasicType × Lexemes) ℕ → Result (PlainType × Lexemes) ℕ
as_plain o = o >>= λ b. Ok (plain.Basic b.0, b.1)

plain_by_discrete : (k : Option Keyword) → is_discrete_word k ≡ true → (e : Reader Expression) (ts : Lexemes) → plain_by e k ts ≡ as_plain (basic_at ts)
plain_by_discrete (Some word.String) h e ts = absurd cc
plain_by_discrete (Some word.Wstring) h e ts = absurd cc
plain_by_discrete None h e ts = absurd cc
plain_by_discrete _ h e ts = refl

plain_discrete : (d : DiscreteType) (e : Reader Expression) (rest : Lexemes) → plain_with e (spell_discrete d ++ rest) ≡ as_plain (basic_at (spell_discrete d ++ rest))
unfolding plain_with
plain_discrete d e rest = plain_by_discrete (keyword_of (first (spell_discrete d ++ rest))) (discrete_words d rest) e (spell_discrete d ++ rest)

plain_basic : (b : BasicType) (e : Reader Expression) (rest : Lexemes) → plain_with e (spell_basic b ++ rest) ≡ as_plain (basic_at (spell_basic b ++ rest))
unfolding plain_with
plain_basic (basic.Discrete d) e rest = plain_discrete d e rest
plain_basic basic.Float e rest = refl
plain_basic basic.Double e rest = refl
plain_basic basic.LongDouble e rest = refl
plain_basic basic.Any e rest = refl
plain_basic basic.Object e rest = refl

plain_name : (b : Bool) (s : List ℕ) (ss : List (List ℕ)) (e : Reader Expression) (rest : Lexemes) → is_mark mark.ColonColon (first rest) ≡ false
    → plain_with e (spell_name (named b s ss) ++ rest) ≡ Ok (plain.Name (named b s ss), rest)
unfolding plain_with
plain_name true s ss e rest h = ap (λ (o : Result (ScopedName × Lexemes) ℕ). o >>= λ n. Ok (plain.Name n.0, n.1)) (name_again (named true s ss) rest h)
plain_name false s ss e rest h = ap (λ (o : Result (ScopedName × Lexemes) ℕ). o >>= λ n. Ok (plain.Name n.0, n.1)) (name_again (named false s ss) rest h)

plain_string : (s : StringType) (e : Reader Expression) (rest : Lexemes) → plain_with e (spell_string s ++ rest) ≡ (string_with e (spell_string s ++ rest) >>= λ s. Ok (plain.String s.0, s.1))
unfolding plain_with
plain_string s e rest = by_word s.is_wide s.bound
  where
    by_word : (w : Bool) (b : Option Expression) → plain_with e (spell_string (string_type w b) ++ rest) ≡ (string_with e (spell_string (string_type w b) ++ rest) >>= λ s. Ok (plain.String s.0, s.1))
    by_word true b = refl
    by_word false b = refl

pub plain_reads : (p : PlainType) (n : ℕ) → length (spell_plain p) ≤ n → Reads goes_type (spell_plain p) (plain_with (expression_at n)) p
plain_reads (plain.Basic b) n le rest h = plain_basic b (expression_at n) rest ∙ ap as_plain (basic_reads b rest h)
plain_reads (plain.Name m) n le rest h = plain_name m.is_global m.first m.rest (expression_at n) rest (type_stops (first rest) h).name
plain_reads (plain.String s) n le rest h =
    plain_string s (expression_at n) rest ∙ ap (λ (o : Result (StringType × Lexemes) ℕ). o >>= λ s. Ok (plain.String s.0, s.1)) (string_reads s n le rest (type_stops (first rest) h).bound)

-- ---- what a type begins with

abbrev pub is_type_start : Option Lexeme → Bool
is_type_start (Some (Word word.Float)) = true
is_type_start (Some (Word word.Double)) = true
is_type_start (Some (Word word.Any)) = true
is_type_start (Some (Word word.Object)) = true
is_type_start (Some (Word word.String)) = true
is_type_start (Some (Word word.Wstring)) = true
is_type_start (Some (Word word.Sequence)) = true
is_type_start (Some (Identifier name)) = true
is_type_start (Some (Punctuation mark.ColonColon)) = true
is_type_start t = is_discrete_word (keyword_of t)

-- not `sequence`
abbrev is_plain_start : Option Lexeme → Bool
is_plain_start (Some (Word word.Sequence)) = false
is_plain_start t = is_type_start t

discrete_is_plain : (t : Option Lexeme) → is_discrete_word (keyword_of t) ≡ true → is_plain_start t ≡ true
discrete_is_plain (Some (Word word.Sequence)) h = absurd cc
discrete_is_plain (Some (Word word.Float)) h = refl
discrete_is_plain (Some (Word word.Double)) h = refl
discrete_is_plain (Some (Word word.Any)) h = refl
discrete_is_plain (Some (Word word.Object)) h = refl
discrete_is_plain (Some (Word word.String)) h = refl
discrete_is_plain (Some (Word word.Wstring)) h = refl
discrete_is_plain (Some (Identifier name)) h = refl
discrete_is_plain (Some (Punctuation mark.ColonColon)) h = refl
discrete_is_plain t h = h

string_start : (w : Bool) (b : Option Expression) (rest : Lexemes) → is_plain_start (first (spell_string (string_type w b) ++ rest)) ≡ true
string_start true b rest = refl
string_start false b rest = refl

name_start : (b : Bool) (s : List ℕ) (ss : List (List ℕ)) (rest : Lexemes) → is_plain_start (first (spell_name (named b s ss) ++ rest)) ≡ true
name_start true s ss rest = refl
name_start false s ss rest = refl

plain_start : (p : PlainType) (rest : Lexemes) → is_plain_start (first (spell_plain p ++ rest)) ≡ true
plain_start (plain.Basic (basic.Discrete d)) rest = discrete_is_plain (first (spell_discrete d ++ rest)) (discrete_words d rest)
plain_start (plain.Basic basic.Float) rest = refl
plain_start (plain.Basic basic.Double) rest = refl
plain_start (plain.Basic basic.LongDouble) rest = refl
plain_start (plain.Basic basic.Any) rest = refl
plain_start (plain.Basic basic.Object) rest = refl
plain_start (plain.String s) rest = string_start s.is_wide s.bound rest
plain_start (plain.Name m) rest = name_start m.is_global m.first m.rest rest

plain_is_no_sequence : (t : Option Lexeme) → is_plain_start t ≡ true → is_word word.Sequence t ≡ false
plain_is_no_sequence (Some (Word word.Sequence)) h = absurd cc
plain_is_no_sequence _ h = refl

plain_is_start : (t : Option Lexeme) → is_plain_start t ≡ true → is_type_start t ≡ true
plain_is_start (Some (Word word.Sequence)) h = refl
plain_is_start t h = h

-- ---- types in one another

-- a type is read again, and begins so
pub record IsTypeAgain (t : TypeTree) : Type 0 where
  pub starts : (rest : Lexemes) → is_type_start (first (spell_type t ++ rest)) ≡ true
  pub again : Later goes_type spell_type (λ n. type_at (suc n)) t

plain_direct : (p : PlainType) (n : ℕ) → length (spell_plain p) ≤ n → Reads goes_type (spell_plain p) (type_at (suc n)) (data_type.Plain p)
unfolding type_at type_with
plain_direct p n le rest h =
    rw (plain_is_no_sequence (first (spell_plain p ++ rest)) (plain_start p rest))
    (ap (λ (o : Result (PlainType × Lexemes) ℕ). o >>= λ x. Ok (data_type.Plain x.0, x.1)) (plain_reads p n le rest h))

plain_is_again : (p : PlainType) → IsTypeAgain (data_type.Plain p)
plain_is_again p = record {
  starts = λ rest. ap (λ (w : Lexemes). is_type_start (first (w ++ rest))) (spell_type-plain p) ∙ plain_is_start (first (spell_plain p ++ rest)) (plain_start p rest);
  again = λ n le. spelled_reads goes_type (spell_type (data_type.Plain p)) (spell_plain p) (type_at (suc n)) (data_type.Plain p) (spell_type-plain p)
      (plain_direct p n (omega (arith, le, ap length (spell_type-plain p))));
}

abbrev goes_limit : Option Lexeme → Bool
goes_limit = goes_or (is_mark mark.Comma) goes_expression

limit_reads : (b : Option Expression) (n : ℕ) → length (spell_limit b) ≤ n → Reads goes_limit (spell_limit b) (limit_with (expression_at n)) b
unfolding limit_with
limit_reads None n le rest h = rw (neither (is_mark mark.Comma (first rest)) (goes_expression (first rest)) h).0 refl
limit_reads (Some e) n le rest h =
    ap (λ (o : Result (Expression × Lexemes) ℕ). o >>= λ x. Ok (Some x.0, x.1)) (expression_reads e n (omega (arith, le)) rest (neither (is_mark mark.Comma (first rest)) (goes_expression (first rest)) h).1)

abbrev spell_sequence_rest : Option Expression → Lexemes
spell_sequence_rest b = spell_limit b ++ Punctuation mark.Greater ∷ []

limit_parted : (b : Option Expression) → Parted goes_type nothing (spell_sequence_rest b)
limit_parted None rest h = refl
limit_parted (Some e) rest h = refl

sequence_direct : (t : TypeTree) (b : Option Expression) (n : ℕ) → IsTypeAgain t → length (spell_type t ++ spell_sequence_rest b) < n
    → (rest : Lexemes) → type_at (suc n) (Word word.Sequence ∷ Punctuation mark.Less ∷ ((spell_type t ++ spell_sequence_rest b) ++ rest)) ≡ Ok (made_sequence t b, rest)
unfolding type_at type_with sequence_with
sequence_direct t b zero is lt rest = absurd (omega (arith, lt))
sequence_direct t b (suc n) is lt rest =
    let sum = length-append (spell_type t) (spell_sequence_rest b) in
    let sum2 = length-append (spell_limit b) (Punctuation mark.Greater ∷ []) in
    then_reads goes_type nothing (spell_type t) (spell_sequence_rest b) (type_at (suc n)) (λ t ts. limit_with (expression_at (suc n)) ts >>= λ b. expect (is_mark mark.Greater) b.1 >>= λ r. Ok (made_sequence t b.0, r)) t (made_sequence t b)
    (is.again n (omega (arith, lt, sum, sum2)))
    (then_reads goes_limit nothing (spell_limit b) (Punctuation mark.Greater ∷ []) (limit_with (expression_at (suc n))) (λ b ts. expect (is_mark mark.Greater) ts >>= λ r. Ok (made_sequence t b, r)) b (made_sequence t b)
    (limit_reads b (suc n) (omega (arith, lt, sum, sum2))) (λ rest h. refl) (λ rest h. refl))
    (limit_parted b) rest refl

sequence_is_again : (t : TypeTree) (b : Option Expression) → IsTypeAgain t → IsTypeAgain (made_sequence t b)
sequence_is_again t b is = record {
  starts = λ rest. ap (λ (w : Lexemes). is_type_start (first (w ++ rest))) (spell_type-sequence t b);
  again = λ n le. spelled_reads goes_type (spell_type (made_sequence t b)) (Word word.Sequence ∷ Punctuation mark.Less ∷ (spell_type t ++ spell_sequence_rest b)) (type_at (suc n)) (made_sequence t b) (spell_type-sequence t b)
      (λ rest h. sequence_direct t b n is (omega (arith, le, ap length (spell_type-sequence t b))) rest);
}

abbrev SequenceClaim : Sequence → Type 0
SequenceClaim s = IsTypeAgain (data_type.Sequence s)

abbrev Such : {X : Type 0} → (X → Type 0) → Type 0
Such {X} claim = (x : X) × claim x

by_type : (y : TypeTree-F (Such IsTypeAgain) (Such SequenceClaim)) → IsTypeAgain (roll-TypeTree (map-TypeTree (Such IsTypeAgain) (Such SequenceClaim) TypeTree Sequence (λ t. t.0) (λ s. s.0) y))
by_type (TypeTree-F.Plain p) = subst IsTypeAgain (sym (rolls-Plain p)) (plain_is_again p)
by_type (TypeTree-F.Sequence s) = subst IsTypeAgain (sym (rolls-Sequence s.0)) s.1

pub type_is_again : (t : TypeTree) → IsTypeAgain t
type_is_again = ind-TypeTree IsTypeAgain SequenceClaim
    (λ x y is. subst (λ z. IsTypeAgain (roll-TypeTree z)) is (by_type y))
    (λ x y is. subst (λ z. SequenceClaim (roll-Sequence z)) is (sequence_is_again y.element.0 y.bound y.element.1))

pub type_reads : (t : TypeTree) (n : ℕ) → length (spell_type t) < n → Reads goes_type (spell_type t) (type_at n) t
type_reads t zero lt = absurd (omega (arith, lt))
type_reads t (suc n) lt = (type_is_again t).again n (omega (arith, lt))
