-- Types and declared names.
use Rattle.std.proofs.Common.{◌≡◌, ℕ, zero, suc, ◌≤◌, Bool, true, false, Option, Some, None, refl, arith}
use Rattle.idl_lex.specs.declared.kinds.keyword.Keyword.{Keyword}
use Rattle.idl_lex.specs.declared.kinds.keyword.Keyword.TheVariants as word
use Rattle.idl_lex.specs.declared.kinds.mark.Mark.TheVariants as mark
use Rattle.idl_tree.specs.Lexeme.{Lexeme, Word}
use Rattle.idl_tree.specs.reading.Levels.{Opening, Closing, Neither, side_of}
use Rattle.idl_tree.specs.reading.ReadType.{integer_type, long_size_at, size_at, unsigned_at, signed_at, sized_of, discrete_by, discrete_at, signed_type, long_by, long_at, basic_by, basic_at, bound_with, string_word_of, string_type, string_with, plain_by, plain_with, limit_with, made_sequence, sequence_with, type_with, type_at, length_with, declared, declarator_with}
use Rattle.idl_tree.specs.reading.Reading.{Reader, first}
use Rattle.idl_tree.specs.reading.Tests.{is_mark, keyword_of}
use Rattle.idl_tree.specs.declared.declarations.data_type.BasicType.TheVariants as basic
use Rattle.idl_tree.specs.declared.declarations.data_type.DiscreteType.TheVariants as discrete
use Rattle.idl_tree.specs.declared.declarations.data_type.IntegerSize.TheVariants.{Short, Long, LongLong}
use Rattle.idl_tree.specs.declared.declarations.data_type.PlainType.TheVariants as plain
use Rattle.idl_tree.specs.declared.declarations.data_type.SizedInteger.{SizedInteger}
use Rattle.idl_tree.specs.declared.declarations.data_type.TypeTree.{TypeTree}
use Rattle.idl_tree.specs.declared.declarations.data_type.TypeTree.TheVariants as data_type
use Rattle.idl_tree.specs.declared.expression.Expression.{Expression}
use Rattle.idl_tree.proofs.Levels.Alike.{Alike, lower, nothing, done, after, valued, beside, opening, closing, looking, chosen_alike, many}
use Rattle.idl_tree.proofs.Levels.Expressions.{expressions}
use Rattle.idl_tree.proofs.Levels.Tokens.{mark_passes, word_passes, PicksBeside, picks, identifiers, by_words, names}

-- ---- keywords

long_sizes : (b : ℕ) → Alike b b long_size_at long_size_at
unfolding long_size_at
long_sizes b = chosen_alike b b _ (by_words b word.Long LongLong) (done b Long)

sizes : (b : ℕ) → Alike b b size_at size_at
unfolding size_at
sizes b = chosen_alike b b _ (beside b b (word_passes word.Long) (long_sizes b)) (by_words b word.Short Short)

unsigned : (b : ℕ) → Alike b b unsigned_at unsigned_at
unsigned b = beside b b (word_passes word.Unsigned) (valued b (integer_type true) (sizes b))

signed : (b : ℕ) → Alike b b signed_at signed_at
signed b = valued b (integer_type false) (sizes b)

sized : PicksBeside sized_of
sized = record { wanted = refl; side = side }
  where
    side : (t : Lexeme) (a : SizedInteger) → sized_of (Some t) ≡ Some a → side_of t ≡ Neither
    side (Word w) a h = refl
    side _ a h = absurd cc

discretes_by : (b : ℕ) (k : Option Keyword) → Alike b b (discrete_by k) (discrete_by k)
discretes_by b (Some word.Unsigned) = unsigned b
discretes_by b (Some word.Short) = signed b
discretes_by b (Some word.Long) = signed b
discretes_by b (Some word.Char) = by_words b word.Char discrete.Char
discretes_by b (Some word.Wchar) = by_words b word.Wchar discrete.WideChar
discretes_by b (Some word.Boolean) = by_words b word.Boolean discrete.Boolean
discretes_by b (Some word.Octet) = by_words b word.Octet discrete.Octet
discretes_by b _ = valued b discrete.Sized (picks b sized)

pub discretes : (b : ℕ) → Alike b b discrete_at discrete_at
unfolding discrete_at
discretes b = looking b b (λ ts. keyword_of (first ts)) {f = discrete_by} {g = discrete_by} (discretes_by b)

longs_by : (b : ℕ) (k : Option Keyword) → Alike b b (long_by k) (long_by k)
longs_by b (Some word.Long) = by_words b word.Long (signed_type LongLong)
longs_by b (Some word.Double) = by_words b word.Double basic.LongDouble
longs_by b _ = done b (signed_type Long)

longs : (b : ℕ) → Alike b b long_at long_at
unfolding long_at
longs b = beside b b (word_passes word.Long) (looking b b (λ ts. keyword_of (first ts)) {f = long_by} {g = long_by} (longs_by b))

basics_by : (b : ℕ) (k : Option Keyword) → Alike b b (basic_by k) (basic_by k)
basics_by b (Some word.Long) = longs b
basics_by b (Some word.Float) = by_words b word.Float basic.Float
basics_by b (Some word.Double) = by_words b word.Double basic.Double
basics_by b (Some word.Any) = by_words b word.Any basic.Any
basics_by b (Some word.Object) = by_words b word.Object basic.Object
basics_by b _ = valued b basic.Discrete (discretes b)

basics : (b : ℕ) → Alike b b basic_at basic_at
unfolding basic_at
basics b = looking b b (λ ts. keyword_of (first ts)) {f = basic_by} {g = basic_by} (basics_by b)

string_words : PicksBeside string_word_of
string_words = record { wanted = refl; side = side }
  where
    side : (t : Lexeme) (a : Bool) → string_word_of (Some t) ≡ Some a → side_of t ≡ Neither
    side (Word w) a h = refl
    side _ a h = absurd cc

-- ---- types

module _ (b : ℕ) {e e2 : Reader Expression} (inner : Alike b b e e2) where
  bounds : Alike (suc b) (suc b) (bound_with e) (bound_with e2)
  unfolding bound_with
  bounds = chosen_alike (suc b) (suc b) _
      (opening b (suc b) (mark_passes mark.Less Opening refl) (after b (suc b) _ _ inner (λ x. closing b (suc b) (mark_passes mark.Greater Closing refl) (done (suc b) (Some x)))))
      (done (suc b) None)

  pub strings : Alike (suc b) (suc b) (string_with e) (string_with e2)
  unfolding string_with
  strings = after (suc b) (suc b) _ _ (picks (suc b) string_words) (λ is_wide. valued (suc b) (string_type is_wide) bounds)

  plains_by : (k : Option Keyword) → Alike (suc b) (suc b) (plain_by e k) (plain_by e2 k)
  plains_by (Some word.String) = valued (suc b) plain.String strings
  plains_by (Some word.Wstring) = valued (suc b) plain.String strings
  plains_by None = valued (suc b) plain.Name (names (suc b))
  plains_by _ = valued (suc b) plain.Basic (basics (suc b))

  plains : Alike (suc b) (suc b) (plain_with e) (plain_with e2)
  unfolding plain_with
  plains = looking (suc b) (suc b) (λ ts. keyword_of (first ts)) {f = plain_by e} {g = plain_by e2} plains_by

  limits : Alike b b (limit_with e) (limit_with e2)
  unfolding limit_with
  limits = chosen_alike b b _ (beside b b (mark_passes mark.Comma Neither refl) (valued b (λ (x : Expression). Some x) inner)) (done b None)

  sequences : {t t2 : Reader TypeTree} → Alike b b t t2 → Alike (suc b) (suc b) (sequence_with e t) (sequence_with e2 t2)
  unfolding sequence_with
  sequences types = beside (suc b) (suc b) (word_passes word.Sequence) (opening b (suc b) (mark_passes mark.Less Opening refl)
      (after b (suc b) _ _ types (λ x. after b (suc b) _ _ limits (λ y. closing b (suc b) (mark_passes mark.Greater Closing refl) (done (suc b) (made_sequence x y))))))

  all_types : {t t2 : Reader TypeTree} → Alike b b t t2 → Alike (suc b) (suc b) (type_with e t) (type_with e2 t2)
  unfolding type_with
  all_types types = chosen_alike (suc b) (suc b) _ (sequences types) (valued (suc b) data_type.Plain plains)

  lengths : Alike (suc b) (suc b) (length_with e) (length_with e2)
  unfolding length_with
  lengths = opening b (suc b) (mark_passes mark.OpenBracket Opening refl) (after b (suc b) _ _ inner (λ x. closing b (suc b) (mark_passes mark.CloseBracket Closing refl) (done (suc b) x)))

  pub declarators : Alike b b (declarator_with e) (declarator_with e2)
  unfolding declarator_with
  declarators = after b b _ _ (identifiers b) (λ name. valued b (declared name) (many b (is_mark mark.OpenBracket) (lower b lengths)))

pub types : (b n m : ℕ) → b ≤ n → b ≤ m → Alike b b (type_at n) (type_at m)
unfolding type_at
types zero n m below_n below_m = nothing
types (suc b) zero m below_n below_m = absurd (omega (arith, below_n))
types (suc b) (suc n) zero below_n below_m = absurd (omega (arith, below_m))
types (suc b) (suc n) (suc m) below_n below_m =
    let less_n : b ≤ n = omega (arith, below_n) in
    let less_m : b ≤ m = omega (arith, below_m) in
    all_types b (expressions b n m less_n less_m) (types b n m less_n less_m)
