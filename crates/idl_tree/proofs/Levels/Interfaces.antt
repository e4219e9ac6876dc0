-- Attributes and operations.
use Rattle.std.proofs.Common.{◌≡◌, ℕ, suc, List, Option, Some, None, Bool, is_some, refl}
use Rattle.idl_lex.specs.declared.kinds.keyword.Keyword.{Keyword}
use Rattle.idl_lex.specs.declared.kinds.keyword.Keyword.TheVariants as word
use Rattle.idl_lex.specs.declared.kinds.mark.Mark.TheVariants as mark
use Rattle.idl_tree.specs.Lexeme.{Lexeme, Word}
use Rattle.idl_tree.specs.reading.Levels.{Opening, Closing, Neither, side_of}
use Rattle.idl_tree.specs.reading.ReadExpression.{text_of}
use Rattle.idl_tree.specs.reading.ReadInterface.{list_at, raises_at, raises_if, plain_names, more_names_at, readonly_rest, readonly_names_at, made_readonly_attribute, readonly_attribute_with, getraises_at, plain_attribute_names, attribute_by, attribute_names_at, made_attribute, attribute_with, direction_of, passed, parameter_with, parameters_with, result_with, text_at, context_at, context_if, made_operation, operation_rest_with, operation_with}
use Rattle.idl_tree.specs.reading.Reading.{Reader, ◌>>=◌, first}
use Rattle.idl_tree.specs.reading.Tests.{is_mark, is_word, keyword_of, identifier_at}
use Rattle.idl_tree.specs.declared.declarations.attribute.AttributeNames.TheVariants as attribute_names
use Rattle.idl_tree.specs.declared.declarations.attribute.AttributeRaises.TheVariants.{Get, Set}
use Rattle.idl_tree.specs.declared.declarations.attribute.ReadonlyNames.TheVariants as readonly
use Rattle.idl_tree.specs.declared.declarations.data_type.TypeTree.{TypeTree}
use Rattle.idl_tree.specs.declared.declarations.operation.Direction.{Direction}
use Rattle.idl_tree.specs.declared.declarations.operation.Operation.{Operation}
use Rattle.idl_tree.specs.declared.declarations.operation.Parameter.{Parameter}
use Rattle.idl_tree.specs.declared.name.ScopedName.{ScopedName}
use Rattle.idl_tree.specs.declared.several.Several.{Several}
use Rattle.idl_tree.proofs.Levels.Alike.{Alike, lower, done, after, valued, beside, opening, closing, looking, chosen_alike, passing, many}
use Rattle.idl_tree.proofs.Levels.Constructions.{listed, all}
use Rattle.idl_tree.proofs.Levels.Expressions.{behinds, texts}
use Rattle.idl_tree.proofs.Levels.Tokens.{mark_passes, word_passes, PicksBeside, picks, identifiers, names}

directions : PicksBeside direction_of
directions = record { wanted = refl; side = side }
  where
    side : (t : Lexeme) (a : Direction) → direction_of (Some t) ≡ Some a → side_of t ≡ Neither
    side (Word w) a h = refl
    side _ a h = absurd cc

more_names : (b : ℕ) → Alike b b more_names_at more_names_at
more_names b = many b (is_mark mark.Comma) (behinds b mark.Comma refl (identifiers b))

pub text : (b : ℕ) → Alike b b text_at text_at
unfolding text_at
text b = all b (λ t. is_some (text_of t)) (picks b texts)

module _ (b : ℕ) where
  lists : Alike (suc b) (suc b) list_at list_at
  unfolding list_at
  lists = opening b (suc b) (mark_passes mark.OpenParenthesis Opening refl) (after b (suc b) _ _ (listed b (names b)) (λ ns. closing b (suc b) (mark_passes mark.CloseParenthesis Closing refl) (done (suc b) ns)))

  raises : (k : Keyword) → Alike (suc b) (suc b) (raises_at k) (raises_at k)
  unfolding raises_at
  raises k = beside (suc b) (suc b) (word_passes k) lists

  raises_there : (k : Keyword) → Alike (suc b) (suc b) (raises_if k) (raises_if k)
  unfolding raises_if
  raises_there k = chosen_alike (suc b) (suc b) _ (valued (suc b) (λ (ns : Several ScopedName). Some ns) (raises k)) (done (suc b) None)

  -- ---- attributes

  readonly_rests : (name : List ℕ) → Alike (suc b) (suc b) (readonly_rest name) (readonly_rest name)
  unfolding readonly_rest
  readonly_rests name = chosen_alike (suc b) (suc b) _ (valued (suc b) (readonly.Raising name) (raises word.Raises)) (valued (suc b) (plain_names name) (more_names (suc b)))

  readonly_names : Alike (suc b) (suc b) readonly_names_at readonly_names_at
  unfolding readonly_names_at
  readonly_names = after (suc b) (suc b) _ _ (identifiers (suc b)) readonly_rests

  getraises : Alike (suc b) (suc b) getraises_at getraises_at
  unfolding getraises_at
  getraises = after (suc b) (suc b) _ _ (raises word.Getraises) (λ got. valued (suc b) (Get got) (raises_there word.Setraises))

  attributes_by : (name : List ℕ) (k : Option Keyword) → Alike (suc b) (suc b) (attribute_by name k) (attribute_by name k)
  attributes_by name (Some word.Getraises) = valued (suc b) (attribute_names.Raising name) getraises
  attributes_by name (Some word.Setraises) = valued (suc b) (λ (set : Several ScopedName). attribute_names.Raising name (Set set)) (raises word.Setraises)
  attributes_by name _ = valued (suc b) (plain_attribute_names name) (more_names (suc b))

  all_attribute_names : Alike (suc b) (suc b) attribute_names_at attribute_names_at
  unfolding attribute_names_at
  all_attribute_names = after (suc b) (suc b) _ _ (identifiers (suc b)) (λ name. looking (suc b) (suc b) (λ ts. keyword_of (first ts)) {f = attribute_by name} {g = attribute_by name} (attributes_by name))

  -- ---- contexts

  contexts : Alike (suc b) (suc b) context_at context_at
  unfolding context_at
  contexts = beside (suc b) (suc b) (word_passes word.Context) (opening b (suc b) (mark_passes mark.OpenParenthesis Opening refl) (after b (suc b) _ _ (listed b (text b)) (λ ts.
      closing b (suc b) (mark_passes mark.CloseParenthesis Closing refl) (done (suc b) ts))))

  contexts_there : Alike (suc b) (suc b) context_if context_if
  unfolding context_if
  contexts_there = chosen_alike (suc b) (suc b) _ (valued (suc b) (λ (ts : Several (Several (List ℕ))). Some ts) contexts) (done (suc b) None)

  -- ---- over what reads types

  module _ {t t2 : Reader TypeTree} (types : Alike (suc b) (suc b) t t2) where
    pub readonly_attributes : Alike (suc b) (suc b) (readonly_attribute_with t) (readonly_attribute_with t2)
    unfolding readonly_attribute_with
    readonly_attributes = beside (suc b) (suc b) (word_passes word.Readonly) (beside (suc b) (suc b) (word_passes word.Attribute) (after (suc b) (suc b) _ _ types (λ kind. valued (suc b) (made_readonly_attribute kind) readonly_names)))

    pub attributes : Alike (suc b) (suc b) (attribute_with t) (attribute_with t2)
    unfolding attribute_with
    attributes = beside (suc b) (suc b) (word_passes word.Attribute) (after (suc b) (suc b) _ _ types (λ kind. valued (suc b) (made_attribute kind) all_attribute_names))

-- ---- operations

module _ (b : ℕ) {t t2 : Reader TypeTree} (types : Alike b b t t2) where
  parameter : Alike b b (parameter_with t) (parameter_with t2)
  unfolding parameter_with
  parameter = after b b _ _ (picks b directions) (λ d. after b b _ _ types (λ kind. valued b (passed d kind) (identifiers b)))

  parameters : Alike b b (parameters_with t) (parameters_with t2)
  unfolding parameters_with
  parameters = chosen_alike b b _ (done b None) (valued b (λ (ps : Several Parameter). Some ps) (listed b parameter))

  results : Alike b b (result_with t) (result_with t2)
  unfolding result_with
  results = chosen_alike b b _ (beside b b (word_passes word.Void) (done b None)) (valued b (λ (kind : TypeTree). Some kind) types)

  operation_rests : (is_oneway : Bool) (result : Option TypeTree) (name : List ℕ) → Alike (suc b) (suc b) (operation_rest_with t is_oneway result name) (operation_rest_with t2 is_oneway result name)
  unfolding operation_rest_with
  operation_rests is_oneway result name = opening b (suc b) (mark_passes mark.OpenParenthesis Opening refl) (after b (suc b) _ _ parameters (λ ps. closing b (suc b) (mark_passes mark.CloseParenthesis Closing refl)
      (after (suc b) (suc b) _ _ (raises_there b word.Raises) (λ rs. valued (suc b) (made_operation is_oneway result name ps rs) (contexts_there b)))))

abbrev operation_behind : Reader TypeTree → Bool → Reader Operation
operation_behind t is_oneway ts = result_with t ts >>= λ result. identifier_at result.1 >>= λ name. operation_rest_with t is_oneway result.0 name.0 name.1

pub operations : (b : ℕ) {t t2 : Reader TypeTree} → Alike (suc b) (suc b) t t2 → Alike (suc b) (suc b) (operation_with t) (operation_with t2)
unfolding operation_with
operations b {t} {t2} types = passing (suc b) (suc b) (is_word word.Oneway) (λ x. x) {f = operation_behind t} {g = operation_behind t2} (word_passes word.Oneway).some
    (λ is_oneway. after (suc b) (suc b) _ _ (results (suc b) types) (λ result. after (suc b) (suc b) _ _ (identifiers (suc b)) (λ name. operation_rests b (lower b types) is_oneway result name)))
