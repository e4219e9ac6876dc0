-- Expressions.
use Rattle.std.proofs.Common.{◌≡◌, ℕ, zero, suc, ◌≤◌, List, Option, Some, is_some, Ok, refl, arith}
use Rattle.idl_lex.specs.declared.kinds.mark.Mark.{Mark}
use Rattle.idl_lex.specs.declared.kinds.mark.Mark.TheVariants as mark
use Rattle.idl_tree.specs.Lexeme.{Lexeme, Word, Punctuation, Integer, Character, WideCharacter, Text, WideText}
use Rattle.idl_tree.specs.reading.Levels.{Opening, Closing, Neither, side_of}
use Rattle.idl_tree.specs.reading.ReadExpression.{shift_operator_of, sum_operator_of, product_operator_of, unary_operator_of, step_with, chain_with, behind_with, parted_with, text_of, wide_text_of, Single, single_of, single_literal, pieces_at, text_literal, wide_text_literal, literal_at, parentheses_with, primary_with, made_unary, unary_with, made_product, made_sum, made_shift, made_and, made_exclusive_or, made_expression, or_with, expression_at}
use Rattle.idl_tree.specs.reading.Reading.{Reader, ◌>>=◌}
use Rattle.idl_tree.specs.reading.Tests.{is_mark}
use Rattle.idl_tree.specs.declared.expression.Expression.{Expression}
use Rattle.idl_tree.specs.declared.expression.Primary.{Primary}
use Rattle.idl_tree.specs.declared.expression.Primary.TheVariants as primary
use Rattle.idl_tree.specs.declared.expression.ProductOperator.{ProductOperator}
use Rattle.idl_tree.specs.declared.expression.ShiftOperator.{ShiftOperator}
use Rattle.idl_tree.specs.declared.expression.SumOperator.{SumOperator}
use Rattle.idl_tree.specs.declared.expression.UnaryOperator.{UnaryOperator}
use Rattle.idl_tree.proofs.Levels.Alike.{Alike, nothing, done, after, valued, beside, opening, closing, chosen_alike, passing, many}
use Rattle.idl_tree.proofs.Levels.Tokens.{mark_passes, PicksBeside, picks, some_beside, names}

-- ---- operators

shifts : PicksBeside shift_operator_of
shifts = record { wanted = refl; side = side }
  where
    side : (t : Lexeme) (a : ShiftOperator) → shift_operator_of (Some t) ≡ Some a → side_of t ≡ Neither
    side (Punctuation mark.ShiftLeft) a h = refl
    side (Punctuation mark.ShiftRight) a h = refl
    side _ a h = absurd cc

sums : PicksBeside sum_operator_of
sums = record { wanted = refl; side = side }
  where
    side : (t : Lexeme) (a : SumOperator) → sum_operator_of (Some t) ≡ Some a → side_of t ≡ Neither
    side (Punctuation mark.Plus) a h = refl
    side (Punctuation mark.Minus) a h = refl
    side _ a h = absurd cc

products : PicksBeside product_operator_of
products = record { wanted = refl; side = side }
  where
    side : (t : Lexeme) (a : ProductOperator) → product_operator_of (Some t) ≡ Some a → side_of t ≡ Neither
    side (Punctuation mark.Star) a h = refl
    side (Punctuation mark.Slash) a h = refl
    side (Punctuation mark.Percent) a h = refl
    side _ a h = absurd cc

unaries : PicksBeside unary_operator_of
unaries = record { wanted = refl; side = side }
  where
    side : (t : Lexeme) (a : UnaryOperator) → unary_operator_of (Some t) ≡ Some a → side_of t ≡ Neither
    side (Punctuation mark.Minus) a h = refl
    side (Punctuation mark.Plus) a h = refl
    side (Punctuation mark.Tilde) a h = refl
    side _ a h = absurd cc

-- ---- ranks

steps : (b : ℕ) {O A : Type 0} {operator : Option Lexeme → Option O} {r other : Reader A} → PicksBeside operator → Alike b b r other → Alike b b (step_with operator r) (step_with operator other)
unfolding step_with
steps b is one = after b b _ _ (picks b is) (λ o. valued b (λ x. (o, x)) one)

chains : (b : ℕ) {O A C : Type 0} (make : A → List (O × A) → C) {operator : Option Lexeme → Option O} {r other : Reader A} → PicksBeside operator → Alike b b r other → Alike b b (chain_with make operator r) (chain_with make operator other)
unfolding chain_with
chains b make {operator} is one = after b b _ _ one (λ x. valued b (make x) (many b (λ t. is_some (operator t)) (steps b is one)))

pub behinds : (b : ℕ) {A : Type 0} (m : Mark) {r other : Reader A} → side_of (Punctuation m) ≡ Neither → Alike b b r other → Alike b b (behind_with m r) (behind_with m other)
unfolding behind_with
behinds b m is one = beside b b (mark_passes m Neither is) one

pub parted : (b : ℕ) {A C : Type 0} (make : A → List A → C) (m : Mark) {r other : Reader A} → side_of (Punctuation m) ≡ Neither → Alike b b r other → Alike b b (parted_with make m r) (parted_with make m other)
unfolding parted_with
parted b make m is one = after b b _ _ one (λ x. valued b (make x) (many b (is_mark m) (behinds b m is one)))

-- ---- literals

pub texts : PicksBeside text_of
texts = record { wanted = refl; side = side }
  where
    side : (t : Lexeme) (a : List ℕ) → text_of (Some t) ≡ Some a → side_of t ≡ Neither
    side (Text s) a h = refl
    side _ a h = absurd cc

wide_texts : PicksBeside wide_text_of
wide_texts = record { wanted = refl; side = side }
  where
    side : (t : Lexeme) (a : List ℕ) → wide_text_of (Some t) ≡ Some a → side_of t ≡ Neither
    side (WideText s) a h = refl
    side _ a h = absurd cc

singles : PicksBeside single_of
singles = record { wanted = refl; side = side }
  where
    side : (t : Lexeme) (a : Single) → single_of (Some t) ≡ Some a → side_of t ≡ Neither
    side (Integer n) a h = refl
    side (Character c) a h = refl
    side (WideCharacter c) a h = refl
    side (Word w) a h = refl
    side _ a h = absurd cc

pieces : (b : ℕ) {piece : Option Lexeme → Option (List ℕ)} → PicksBeside piece → Alike b b (pieces_at piece) (pieces_at piece)
unfolding pieces_at
pieces b {piece} is = after b b _ _ (picks b is) (λ x. valued b (λ (xs : List (List ℕ)). (x, xs)) (many b (λ t. is_some (piece t)) (picks b is)))

literals : (b : ℕ) → Alike b b literal_at literal_at
unfolding literal_at
literals b = chosen_alike b b _ (valued b text_literal (pieces b texts)) (chosen_alike b b _ (valued b wide_text_literal (pieces b wide_texts)) (valued b single_literal (picks b singles)))

-- ---- operands

module _ (b : ℕ) {r other : Reader Expression} (one : Alike b b r other) where
  parentheses : Alike (suc b) (suc b) (parentheses_with r) (parentheses_with other)
  unfolding parentheses_with
  parentheses = opening b (suc b) (mark_passes mark.OpenParenthesis Opening refl)
      (after b (suc b) _ _ one (λ e. closing b (suc b) (mark_passes mark.CloseParenthesis Closing refl) (done (suc b) (primary.Parentheses e))))

  primaries : Alike (suc b) (suc b) (primary_with r) (primary_with other)
  unfolding primary_with
  primaries = chosen_alike (suc b) (suc b) _ parentheses
      (chosen_alike (suc b) (suc b) _ (valued (suc b) primary.Name (names (suc b))) (valued (suc b) primary.Literal (literals (suc b))))

operands : (b : ℕ) {r other : Reader Primary} → Alike b b r other → Alike b b (unary_with r) (unary_with other)
unfolding unary_with
operands b {r} {other} one = passing b b unary_operator_of is_some {f = λ (o : Option UnaryOperator) (ts : List Lexeme). r ts >>= λ p. Ok (made_unary o p.0, p.1)} {g = λ (o : Option UnaryOperator) (ts : List Lexeme). other ts >>= λ p. Ok (made_unary o p.0, p.1)}
    (some_beside unaries) (λ o. valued b (made_unary o) one)

-- ---- all ranks

ranks : (b : ℕ) {r other : Reader Expression} → Alike b b r other → Alike (suc b) (suc b) (or_with r) (or_with other)
ranks b one =
    parted (suc b) made_expression mark.Bar refl
    (parted (suc b) made_exclusive_or mark.Caret refl
    (parted (suc b) made_and mark.Ampersand refl
    (chains (suc b) made_shift shifts
    (chains (suc b) made_sum sums
    (chains (suc b) made_product products
    (operands (suc b) (primaries b one)))))))

pub expressions : (b n m : ℕ) → b ≤ n → b ≤ m → Alike b b (expression_at n) (expression_at m)
unfolding expression_at
expressions zero n m below_n below_m = nothing
expressions (suc b) zero m below_n below_m = absurd (omega (arith, below_n))
expressions (suc b) (suc n) zero below_n below_m = absurd (omega (arith, below_m))
expressions (suc b) (suc n) (suc m) below_n below_m = ranks b (expressions b n m (omega (arith, below_n)) (omega (arith, below_m)))
