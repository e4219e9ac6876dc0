-- What holds of the reader of types.
use Rattle.std.proofs.Common.{◌≡◌, ◌∙◌, ℕ, zero, suc, cond, [], ◌∷◌, ◌++◌, Option, Some, None, refl, sym, ap, ◌⊎◌, inl, inr}
use Rattle.idl_lex.specs.declared.kinds.keyword.Keyword.TheVariants as word
use Rattle.idl_lex.specs.declared.kinds.mark.Mark.TheVariants as mark
use Rattle.idl_tree.specs.DataType.{spell_plain, spell_limit, spell_type, data_type_step, sequence_step}
use Rattle.idl_tree.specs.Expression.{spell_expression}
use Rattle.idl_tree.specs.Lexeme.{Lexemes, Word, Punctuation}
use Rattle.idl_tree.specs.reading.ReadExpression.{expression_at}
use Rattle.idl_tree.specs.reading.ReadType.{plain_with, limit_with, made_sequence, sequence_with, type_with, type_at}
use Rattle.idl_tree.specs.reading.Reading.{Reader, first}
use Rattle.idl_tree.specs.reading.Tests.{is_mark, is_word}
use Rattle.idl_tree.specs.declared.declarations.data_type.BasicType.TheVariants as basic
use Rattle.idl_tree.specs.declared.declarations.data_type.TypeTree.{TypeTree, fold-TypeTree}
use Rattle.idl_tree.specs.declared.declarations.data_type.TypeTree.TheFolds.{fold-roll-TypeTree, fold-roll-Sequence}
use Rattle.idl_tree.specs.declared.declarations.data_type.TypeTree.TheOpen.{TypeTree-F}
use Rattle.idl_tree.specs.declared.declarations.data_type.TypeTree.TheVariants.{rolls-Plain, rolls-Sequence}
use Rattle.idl_tree.specs.declared.declarations.data_type.TypeTree.TheVariants as data_type
use Rattle.idl_tree.specs.declared.declarations.data_type.PlainType.{PlainType}
use Rattle.idl_tree.specs.declared.declarations.data_type.PlainType.TheVariants as plain
use Rattle.idl_tree.specs.declared.declarations.data_type.Sequence.{roll-Sequence}
use Rattle.idl_tree.specs.declared.expression.Expression.{Expression}
use Rattle.idl_tree.proofs.Readers.ExpressionLaws.{expression_laws}
use Rattle.idl_tree.proofs.Laws.{Laws, same, either, either_spells, next_at, mapped_at, behind_at, ends_at, then_laws, last_laws, done_laws, skip_laws, choice_laws, shape, deeper, later, later_laws, no_laws}
use Rattle.idl_tree.proofs.Readers.TokenLaws.{only_mark, only_word, close_at, close_laws}
use Rattle.idl_tree.proofs.Readers.TypeLaws.{plain_laws}

pub spell_type-plain : (p : PlainType) → spell_type (data_type.Plain p) ≡ spell_plain p
unfolding spell_type
spell_type-plain p = ap (fold-TypeTree Lexemes Lexemes data_type_step sequence_step) (sym (rolls-Plain p)) ∙ fold-roll-TypeTree Lexemes Lexemes data_type_step sequence_step (TypeTree-F.Plain p)

pub spell_type-sequence : (t : TypeTree) (b : Option Expression) → spell_type (made_sequence t b) ≡ Word word.Sequence ∷ Punctuation mark.Less ∷ (spell_type t ++ (spell_limit b ++ Punctuation mark.Greater ∷ []))
unfolding spell_type
spell_type-sequence t b =
    let s = roll-Sequence (record { element = t; bound = b }) in
    ap (fold-TypeTree Lexemes Lexemes data_type_step sequence_step) (sym (rolls-Sequence s))
    ∙ fold-roll-TypeTree Lexemes Lexemes data_type_step sequence_step (TypeTree-F.Sequence s)
    ∙ fold-roll-Sequence Lexemes Lexemes data_type_step sequence_step (record { element = t; bound = b })

abbrev limit_value : Expression ⊎ Unit {0} → Option Expression
limit_value = either (λ e. Some e) (λ u. None)

abbrev limit_spell : Expression ⊎ Unit {0} → Lexemes
limit_spell = either (λ e. Punctuation mark.Comma ∷ spell_expression e) (λ u. [])

limits : (x : Expression ⊎ Unit {0}) → spell_limit (limit_value x) ≡ limit_spell x
limits (inl e) = refl
limits (inr u) = refl

abbrev some_limit_at : (ℕ → Reader Expression) → ℕ → Reader (Option Expression)
some_limit_at r = behind_at (is_mark mark.Comma) (mapped_at (λ (e : Expression). Some e) r)

limit_laws : (d N : ℕ) (r : ℕ → Reader Expression) → Laws (suc d) N same spell_expression r → Laws d N same spell_limit (λ n. limit_with (r n))
unfolding limit_with
limit_laws d N r laws = shape d N limit_value limit_spell spell_limit (λ n ts. cond (is_mark mark.Comma (first ts)) (some_limit_at r n ts) (ends_at None n ts)) (λ n. limit_with (r n)) limits (λ n ts. refl)
    (choice_laws d N (is_mark mark.Comma) (λ (e : Expression). Some e) (λ e. Punctuation mark.Comma ∷ spell_expression e) (some_limit_at r) (λ (u : Unit {0}). None) (λ u. []) (ends_at None)
    (skip_laws d N (is_mark mark.Comma) (Punctuation mark.Comma) (λ (e : Expression). Some e) spell_expression (mapped_at (λ (e : Expression). Some e) r) (only_mark mark.Comma) (last_laws (suc d) N (λ (e : Expression). Some e) spell_expression r laws))
    (done_laws d N None))

-- ---- sequences

abbrev sequence_parts : Type 0
sequence_parts = TypeTree × (Option Expression × Unit {0})

abbrev sequence_of : sequence_parts → TypeTree
sequence_of p = made_sequence p.0 p.1.0

abbrev sequence_spell : sequence_parts → Lexemes
sequence_spell p = Word word.Sequence ∷ Punctuation mark.Less ∷ (spell_type p.0 ++ (spell_limit p.1.0 ++ Punctuation mark.Greater ∷ []))

abbrev after_element : (ℕ → Reader Expression) → TypeTree → ℕ → Reader TypeTree
after_element re t = next_at (λ n. limit_with (re n)) (λ b. close_at mark.Greater (made_sequence t b))

abbrev sequence_reader : (ℕ → Reader Expression) → (ℕ → Reader TypeTree) → ℕ → Reader TypeTree
sequence_reader re rt = behind_at (is_word word.Sequence) (behind_at (is_mark mark.Less) (next_at rt (after_element re)))

sequence_laws : (d N : ℕ) (re : ℕ → Reader Expression) (rt : ℕ → Reader TypeTree) → Laws (suc d) N same spell_expression re → Laws (suc d) N same spell_type rt → Laws d N sequence_of sequence_spell (sequence_reader re rt)
sequence_laws d N re rt expressions types =
    let wide = deeper (suc d) N same spell_expression re expressions in
    skip_laws d N (is_word word.Sequence) (Word word.Sequence) sequence_of (λ p. Punctuation mark.Less ∷ (spell_type p.0 ++ (spell_limit p.1.0 ++ Punctuation mark.Greater ∷ []))) (behind_at (is_mark mark.Less) (next_at rt (after_element re))) (only_word word.Sequence)
    (skip_laws (suc d) N (is_mark mark.Less) (Punctuation mark.Less) sequence_of (λ p. spell_type p.0 ++ (spell_limit p.1.0 ++ Punctuation mark.Greater ∷ [])) (next_at rt (after_element re)) (only_mark mark.Less)
    (then_laws (suc (suc d)) N spell_type rt (λ (t : TypeTree) (q : Option Expression × Unit {0}). made_sequence t q.0) (λ q. spell_limit q.0 ++ Punctuation mark.Greater ∷ []) (after_element re) (deeper (suc d) N same spell_type rt types)
    (λ t. then_laws (suc (suc d)) N spell_limit (λ n. limit_with (re n)) (λ (b : Option Expression) (u : Unit {0}). made_sequence t b) (λ u. Punctuation mark.Greater ∷ []) (λ b. close_at mark.Greater (made_sequence t b))
    (limit_laws (suc (suc d)) N re (deeper (suc (suc d)) N same spell_expression re wide))
    (λ b. close_laws (suc (suc d)) N mark.Greater (made_sequence t b)))))

type_with_laws : (d N : ℕ) (re : ℕ → Reader Expression) (rt : ℕ → Reader TypeTree) → Laws (suc d) N same spell_expression re → Laws (suc d) N same spell_type rt → Laws d N same spell_type (λ n. type_with (re n) (rt n))
unfolding type_with sequence_with
type_with_laws d N re rt expressions types = shape d N (either sequence_of data_type.Plain) (either sequence_spell spell_plain) spell_type (λ n ts. cond (is_word word.Sequence (first ts)) (sequence_reader re rt n ts) (mapped_at data_type.Plain (λ n. plain_with (re n)) n ts)) (λ n. type_with (re n) (rt n))
    (either_spells spell_type sequence_of sequence_spell data_type.Plain spell_plain (λ p. spell_type-sequence p.0 p.1.0) spell_type-plain)
    (λ n ts. refl)
    (choice_laws d N (is_word word.Sequence) sequence_of sequence_spell (sequence_reader re rt) data_type.Plain spell_plain (mapped_at data_type.Plain (λ n. plain_with (re n)))
    (sequence_laws d N re rt expressions types)
    (last_laws d N data_type.Plain spell_plain (λ n. plain_with (re n)) (plain_laws d N re expressions)))

pub some_type : TypeTree
some_type = data_type.Plain (plain.Basic basic.Any)

type_reads : (n : ℕ) (ts : Lexemes) → type_at (suc n) ts ≡ type_with (expression_at n) (type_at n) ts
unfolding type_at
type_reads n ts = refl

pub type_laws : (N : ℕ) → Laws 0 N same spell_type type_at
type_laws zero = no_laws 0 spell_type type_at some_type
type_laws (suc N) = shape 0 (suc N) same spell_type spell_type (λ n. type_with (later expression_at n) (later type_at n)) type_at (λ b. refl) type_reads
    (type_with_laws 0 (suc N) (later expression_at) (later type_at) (later_laws N spell_expression expression_at (expression_laws N)) (later_laws N spell_type type_at (type_laws N)))
