-- What holds of the readers of types.
use Rattle.std.proofs.Common.{◌≡◌, ℕ, suc, Bool, true, false, cond, List, [], ◌∷◌, ◌++◌, Option, Some, None, refl, ap, arith, ◌⊎◌, inl, inr}
use Rattle.idl_lex.specs.declared.kinds.keyword.Keyword.{Keyword}
use Rattle.idl_lex.specs.declared.kinds.keyword.Keyword.TheVariants as word
use Rattle.idl_lex.specs.declared.kinds.mark.Mark.TheVariants as mark
use Rattle.idl_tree.specs.DataType.{sized_word, spell_size, spell_discrete, spell_basic, spell_bound, spell_string, spell_plain, spell_length, spell_declarator}
use Rattle.idl_tree.specs.Expression.{spell_expression}
use Rattle.idl_tree.specs.Lexeme.{Lexeme, Lexemes, Word, Punctuation, Identifier}
use Rattle.idl_tree.specs.Name.{spell_name}
use Rattle.idl_tree.specs.reading.ReadName.{name_at}
use Rattle.idl_tree.specs.reading.ReadType.{integer_type, long_size_at, size_at, unsigned_at, signed_at, sized_of, discrete_by, discrete_at, signed_type, long_by, long_at, basic_by, basic_at, bound_with, string_word_of, string_type, string_with, plain_by, plain_with, length_with, declared, declarator_with}
use Rattle.idl_tree.specs.reading.Reading.{Reader, first, many_of}
use Rattle.idl_tree.specs.reading.Tests.{is_mark, is_word, keyword_of, pick, identifier_at}
use Rattle.idl_tree.specs.declared.declarations.data_type.BasicType.{BasicType}
use Rattle.idl_tree.specs.declared.declarations.data_type.BasicType.TheVariants as basic
use Rattle.idl_tree.specs.declared.declarations.data_type.DiscreteType.TheVariants as discrete
use Rattle.idl_tree.specs.declared.declarations.data_type.IntegerSize.{IntegerSize}
use Rattle.idl_tree.specs.declared.declarations.data_type.IntegerSize.TheVariants.{Short, Long, LongLong}
use Rattle.idl_tree.specs.declared.declarations.data_type.PlainType.TheVariants as plain
use Rattle.idl_tree.specs.declared.declarations.data_type.SizedInteger.{SizedInteger}
use Rattle.idl_tree.specs.declared.declarations.data_type.SizedInteger.TheVariants as sized
use Rattle.idl_tree.specs.declared.expression.Expression.{Expression}
use Rattle.idl_tree.proofs.Laws.{Laws, same, either, next_at, mapped_at, behind_at, ends_at, then_laws, last_laws, done_laws, skip_laws, choice_laws, shape}
use Rattle.idl_tree.proofs.Many.{many_spell, many_laws}
use Rattle.idl_tree.proofs.Readers.NameLaws.{flat_map-many, name_laws}
use Rattle.idl_tree.proofs.Readers.Switch.{switch_laws, by_laws, mapped_laws, word_at, word_laws, by_word_laws}
use Rattle.idl_tree.proofs.Readers.TokenLaws.{Picks, identifier_laws, only_mark, only_word, one_token, pick_laws, close_at, close_laws, some_is}

-- ---- integer types

abbrev more_long_value : Unit {0} ⊎ Unit {0} → IntegerSize
more_long_value = either (λ u. LongLong) (λ u. Long)

abbrev more_long_spell : Unit {0} ⊎ Unit {0} → Lexemes
more_long_spell = either (λ u. Word word.Long ∷ []) (λ u. [])

abbrev size_value : (Unit {0} ⊎ Unit {0}) ⊎ Unit {0} → IntegerSize
size_value = either more_long_value (λ u. Short)

abbrev size_spell : (Unit {0} ⊎ Unit {0}) ⊎ Unit {0} → Lexemes
size_spell = either (λ x. Word word.Long ∷ more_long_spell x) (λ u. Word word.Short ∷ [])

sizes : (x : (Unit {0} ⊎ Unit {0}) ⊎ Unit {0}) → spell_size (size_value x) ≡ size_spell x
sizes (inl (inl u)) = refl
sizes (inl (inr u)) = refl
sizes (inr u) = refl

abbrev more_long_at : ℕ → Reader IntegerSize
more_long_at n ts = cond (is_word word.Long (first ts)) (word_at word.Long LongLong n ts) (ends_at Long n ts)

pub size_laws : (d N : ℕ) → Laws d N same spell_size (λ n. size_at)
unfolding size_at long_size_at
size_laws d N = shape d N size_value size_spell spell_size
    (λ n ts. cond (is_word word.Long (first ts)) (behind_at (is_word word.Long) more_long_at n ts) (word_at word.Short Short n ts))
    (λ n. size_at) sizes (λ n ts. refl)
    (choice_laws d N (is_word word.Long) more_long_value (λ x. Word word.Long ∷ more_long_spell x) (behind_at (is_word word.Long) more_long_at) (λ u. Short) (λ u. Word word.Short ∷ []) (word_at word.Short Short)
    (skip_laws d N (is_word word.Long) (Word word.Long) more_long_value more_long_spell more_long_at (only_word word.Long)
    (choice_laws (suc d) N (is_word word.Long) (λ u. LongLong) (λ u. Word word.Long ∷ []) (word_at word.Long LongLong) (λ u. Long) (λ u. []) (ends_at Long) (word_laws (suc d) N word.Long LongLong) (done_laws (suc d) N Long)))
    (word_laws d N word.Short Short))

unsigned_laws : (d N : ℕ) → Laws d N same spell_discrete (λ n. unsigned_at)
unsigned_laws d N = shape d N (integer_type true) (λ s. Word word.Unsigned ∷ spell_size s) spell_discrete
    (behind_at (is_word word.Unsigned) (mapped_at (integer_type true) (λ n. size_at))) (λ n. unsigned_at) (λ s. refl) (λ n ts. refl)
    (skip_laws d N (is_word word.Unsigned) (Word word.Unsigned) (integer_type true) spell_size (mapped_at (integer_type true) (λ n. size_at)) (only_word word.Unsigned)
    (last_laws (suc d) N (integer_type true) spell_size (λ n. size_at) (size_laws (suc d) N)))

signed_laws : (d N : ℕ) → Laws d N same spell_discrete (λ n. signed_at)
signed_laws d N = mapped_laws d N (integer_type false) spell_size spell_discrete (λ n. size_at) (λ s. refl) (size_laws d N)

abbrev pub sized_token : SizedInteger → Lexeme
sized_token s = Word (sized_word s)

pub sized_words_picked : Picks sized_of sized_token
sized_words_picked = record { example = sized.Int8; wanted = refl; only = only; again = again }
  where
    only : (t : Lexeme) (a : SizedInteger) → sized_of (Some t) ≡ Some a → t ≡ sized_token a
    only (Word word.Int8) a h = ap sized_token (some_is sized.Int8 a h)
    only (Word word.Int16) a h = ap sized_token (some_is sized.Int16 a h)
    only (Word word.Int32) a h = ap sized_token (some_is sized.Int32 a h)
    only (Word word.Int64) a h = ap sized_token (some_is sized.Int64 a h)
    only (Word word.Uint8) a h = ap sized_token (some_is sized.Uint8 a h)
    only (Word word.Uint16) a h = ap sized_token (some_is sized.Uint16 a h)
    only (Word word.Uint32) a h = ap sized_token (some_is sized.Uint32 a h)
    only (Word word.Uint64) a h = ap sized_token (some_is sized.Uint64 a h)
    only _ a h = absurd cc

    again : (a : SizedInteger) → sized_of (Some (sized_token a)) ≡ Some a
    again sized.Int8 = refl
    again sized.Int16 = refl
    again sized.Int32 = refl
    again sized.Int64 = refl
    again sized.Uint8 = refl
    again sized.Uint16 = refl
    again sized.Uint32 = refl
    again sized.Uint64 = refl

discrete_each : (d N : ℕ) (k : Option Keyword) → Laws d N same spell_discrete (λ n. discrete_by k)
discrete_each d N (Some word.Unsigned) = unsigned_laws d N
discrete_each d N (Some word.Short) = signed_laws d N
discrete_each d N (Some word.Long) = signed_laws d N
discrete_each d N (Some word.Char) = by_word_laws d N spell_discrete word.Char discrete.Char refl
discrete_each d N (Some word.Wchar) = by_word_laws d N spell_discrete word.Wchar discrete.WideChar refl
discrete_each d N (Some word.Boolean) = by_word_laws d N spell_discrete word.Boolean discrete.Boolean refl
discrete_each d N (Some word.Octet) = by_word_laws d N spell_discrete word.Octet discrete.Octet refl
discrete_each d N _ = mapped_laws d N discrete.Sized (one_token sized_token) spell_discrete (λ n. pick sized_of) (λ s. refl) (pick_laws d N sized_of sized_token sized_words_picked)

pub discrete_laws : (d N : ℕ) → Laws d N same spell_discrete (λ n. discrete_at)
unfolding discrete_at
discrete_laws d N = by_laws d N keyword_of spell_discrete (λ k n. discrete_by k) None (discrete_each d N)

-- ---- types of keywords

-- what stands behind `long`, by its first keyword
abbrev long_value : Option Keyword → BasicType
long_value (Some word.Long) = signed_type LongLong
long_value (Some word.Double) = basic.LongDouble
long_value _ = signed_type Long

abbrev long_spell : Option Keyword → Lexemes
long_spell (Some word.Long) = Word word.Long ∷ []
long_spell (Some word.Double) = Word word.Double ∷ []
long_spell _ = []

long_each : (d N : ℕ) (k : Option Keyword) → Laws d N (λ (u : Unit {0}). long_value k) (λ u. long_spell k) (λ n. long_by k)
long_each d N (Some word.Long) = word_laws d N word.Long (signed_type LongLong)
long_each d N (Some word.Double) = word_laws d N word.Double basic.LongDouble
long_each d N _ = done_laws d N (signed_type Long)

longs : (k : Option Keyword) → spell_basic (long_value k) ≡ Word word.Long ∷ long_spell k
longs (Some word.Long) = refl
longs (Some word.Double) = refl
longs _ = refl

long_laws : (d N : ℕ) → Laws d N same spell_basic (λ n. long_at)
unfolding long_at
long_laws d N = shape d N (λ (p : Option Keyword × Unit {0}). long_value p.0) (λ p. Word word.Long ∷ long_spell p.0) spell_basic
    (behind_at (is_word word.Long) (λ n ts. long_by (keyword_of (first ts)) ts)) (λ n. long_at) (λ p. longs p.0) (λ n ts. refl)
    (skip_laws d N (is_word word.Long) (Word word.Long) (λ (p : Option Keyword × Unit {0}). long_value p.0) (λ p. long_spell p.0) (λ n ts. long_by (keyword_of (first ts)) ts) (only_word word.Long)
    (switch_laws (suc d) N keyword_of (λ k (u : Unit {0}). long_value k) (λ k u. long_spell k) (λ k n. long_by k) None (long_each (suc d) N)))

basic_each : (d N : ℕ) (k : Option Keyword) → Laws d N same spell_basic (λ n. basic_by k)
basic_each d N (Some word.Long) = long_laws d N
basic_each d N (Some word.Float) = by_word_laws d N spell_basic word.Float basic.Float refl
basic_each d N (Some word.Double) = by_word_laws d N spell_basic word.Double basic.Double refl
basic_each d N (Some word.Any) = by_word_laws d N spell_basic word.Any basic.Any refl
basic_each d N (Some word.Object) = by_word_laws d N spell_basic word.Object basic.Object refl
basic_each d N _ = mapped_laws d N basic.Discrete spell_discrete spell_basic (λ n. discrete_at) (λ s. refl) (discrete_laws d N)

pub basic_laws : (d N : ℕ) → Laws d N same spell_basic (λ n. basic_at)
unfolding basic_at
basic_laws d N = by_laws d N keyword_of spell_basic (λ k n. basic_by k) None (basic_each d N)

-- ---- bounds

abbrev bound_value : (Expression × Unit {0}) ⊎ Unit {0} → Option Expression
bound_value = either (λ p. Some p.0) (λ u. None)

abbrev bound_spell : (Expression × Unit {0}) ⊎ Unit {0} → Lexemes
bound_spell = either (λ p. Punctuation mark.Less ∷ (spell_expression p.0 ++ Punctuation mark.Greater ∷ [])) (λ u. [])

bounds : (x : (Expression × Unit {0}) ⊎ Unit {0}) → spell_bound (bound_value x) ≡ bound_spell x
bounds (inl p) = refl
bounds (inr u) = refl

abbrev some_bound_at : (ℕ → Reader Expression) → ℕ → Reader (Option Expression)
some_bound_at r = behind_at (is_mark mark.Less) (next_at r (λ e. close_at mark.Greater (Some e)))

pub bound_laws : (d N : ℕ) (r : ℕ → Reader Expression) → Laws (suc d) N same spell_expression r → Laws d N same spell_bound (λ n. bound_with (r n))
unfolding bound_with
bound_laws d N r laws = shape d N bound_value bound_spell spell_bound
    (λ n ts. cond (is_mark mark.Less (first ts)) (some_bound_at r n ts) (ends_at None n ts)) (λ n. bound_with (r n)) bounds (λ n ts. refl)
    (choice_laws d N (is_mark mark.Less) (λ (p : Expression × Unit {0}). Some p.0) (λ p. Punctuation mark.Less ∷ (spell_expression p.0 ++ Punctuation mark.Greater ∷ [])) (some_bound_at r) (λ (u : Unit {0}). None) (λ u. []) (ends_at None)
    (skip_laws d N (is_mark mark.Less) (Punctuation mark.Less) (λ (p : Expression × Unit {0}). Some p.0) (λ p. spell_expression p.0 ++ Punctuation mark.Greater ∷ []) (next_at r (λ e. close_at mark.Greater (Some e))) (only_mark mark.Less)
    (then_laws (suc d) N spell_expression r (λ (e : Expression) (u : Unit {0}). Some e) (λ u. Punctuation mark.Greater ∷ []) (λ e. close_at mark.Greater (Some e)) laws (λ e. close_laws (suc d) N mark.Greater (Some e))))
    (done_laws d N None))

-- ---- types that hold no other one

abbrev pub string_token : Bool → Lexeme
string_token true = Word word.Wstring
string_token false = Word word.String

pub string_words_picked : Picks string_word_of string_token
string_words_picked = record { example = false; wanted = refl; only = only; again = again }
  where
    only : (t : Lexeme) (a : Bool) → string_word_of (Some t) ≡ Some a → t ≡ string_token a
    only (Word word.String) a h = ap string_token (some_is false a h)
    only (Word word.Wstring) a h = ap string_token (some_is true a h)
    only _ a h = absurd cc

    again : (a : Bool) → string_word_of (Some (string_token a)) ≡ Some a
    again true = refl
    again false = refl

strings : (p : Bool × Option Expression) → spell_string (string_type p.0 p.1) ≡ one_token string_token p.0 ++ spell_bound p.1
strings (true, b) = refl
strings (false, b) = refl

pub string_laws : (d N : ℕ) (r : ℕ → Reader Expression) → Laws (suc d) N same spell_expression r → Laws d N same spell_string (λ n. string_with (r n))
unfolding string_with
string_laws d N r laws = shape d N (λ (p : Bool × Option Expression). string_type p.0 p.1) (λ p. one_token string_token p.0 ++ spell_bound p.1) spell_string
    (next_at (λ n. pick string_word_of) (λ w. mapped_at (string_type w) (λ n. bound_with (r n)))) (λ n. string_with (r n)) strings (λ n ts. refl)
    (then_laws d N (one_token string_token) (λ n. pick string_word_of) string_type spell_bound (λ w. mapped_at (string_type w) (λ n. bound_with (r n)))
    (pick_laws d N string_word_of string_token string_words_picked)
    (λ w. last_laws d N (string_type w) spell_bound (λ n. bound_with (r n)) (bound_laws d N r laws)))

plain_each : (d N : ℕ) (r : ℕ → Reader Expression) → Laws (suc d) N same spell_expression r → (k : Option Keyword) → Laws d N same spell_plain (λ n. plain_by (r n) k)
plain_each d N r laws (Some word.String) = mapped_laws d N plain.String spell_string spell_plain (λ n. string_with (r n)) (λ s. refl) (string_laws d N r laws)
plain_each d N r laws (Some word.Wstring) = mapped_laws d N plain.String spell_string spell_plain (λ n. string_with (r n)) (λ s. refl) (string_laws d N r laws)
plain_each d N r laws None = mapped_laws d N plain.Name spell_name spell_plain (λ n. name_at) (λ n. refl) (name_laws d N)
plain_each d N r laws _ = mapped_laws d N plain.Basic spell_basic spell_plain (λ n. basic_at) (λ b. refl) (basic_laws d N)

pub plain_laws : (d N : ℕ) (r : ℕ → Reader Expression) → Laws (suc d) N same spell_expression r → Laws d N same spell_plain (λ n. plain_with (r n))
unfolding plain_with
plain_laws d N r laws = by_laws d N keyword_of spell_plain (λ k n. plain_by (r n) k) None (plain_each d N r laws)

-- ---- declared names

length_laws : (d N : ℕ) (r : ℕ → Reader Expression) → Laws (suc d) N same spell_expression r → Laws d N same spell_length (λ n. length_with (r n))
unfolding length_with
length_laws d N r laws = shape d N (λ (p : Expression × Unit {0}). p.0) (λ p. Punctuation mark.OpenBracket ∷ (spell_expression p.0 ++ Punctuation mark.CloseBracket ∷ [])) spell_length
    (behind_at (is_mark mark.OpenBracket) (next_at r (λ e. close_at mark.CloseBracket e))) (λ n. length_with (r n)) (λ p. refl) (λ n ts. refl)
    (skip_laws d N (is_mark mark.OpenBracket) (Punctuation mark.OpenBracket) (λ (p : Expression × Unit {0}). p.0) (λ p. spell_expression p.0 ++ Punctuation mark.CloseBracket ∷ []) (next_at r (λ e. close_at mark.CloseBracket e)) (only_mark mark.OpenBracket)
    (then_laws (suc d) N spell_expression r (λ (e : Expression) (u : Unit {0}). e) (λ u. Punctuation mark.CloseBracket ∷ []) (λ e. close_at mark.CloseBracket e) laws (λ e. close_laws (suc d) N mark.CloseBracket e)))

abbrev lengths_at : (ℕ → Reader Expression) → ℕ → Reader (List Expression)
lengths_at r n = many_of (is_mark mark.OpenBracket) (length_with (r n))

pub declarator_laws : (d N : ℕ) (r : ℕ → Reader Expression) → Laws (suc d) N same spell_expression r → Laws d N same spell_declarator (λ n. declarator_with (r n))
unfolding declarator_with
declarator_laws d N r laws = shape d N (λ (p : List ℕ × List Expression). declared p.0 p.1) (λ p. one_token Identifier p.0 ++ many_spell spell_length p.1) spell_declarator
    (next_at (λ n. identifier_at) (λ name. mapped_at (declared name) (lengths_at r))) (λ n. declarator_with (r n))
    (λ p. ap (λ (w : Lexemes). Identifier p.0 ∷ w) (flat_map-many spell_length p.1)) (λ n ts. refl)
    (then_laws d N (one_token Identifier) (λ n. identifier_at) declared (many_spell spell_length) (λ name. mapped_at (declared name) (lengths_at r)) (identifier_laws d N)
    (λ name. last_laws d N (declared name) (many_spell spell_length) (lengths_at r) (many_laws d N (is_mark mark.OpenBracket) spell_length (λ n. length_with (r n)) (λ e. omega arith) (length_laws d N r laws))))
