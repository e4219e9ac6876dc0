-- What holds of the readers of expressions.
use Rattle.std.proofs.Common.{◌≡◌, ℕ, zero, suc, cond, is_some, List, [], ◌∷◌, ◌++◌, drop, Option, Some, None, Ok, refl, ap, arith}
use Rattle.idl_lex.specs.declared.kinds.keyword.Keyword.TheVariants as word
use Rattle.idl_lex.specs.declared.kinds.mark.Mark.{Mark}
use Rattle.idl_lex.specs.declared.kinds.mark.Mark.TheVariants as mark
use Rattle.idl_tree.specs.Expression.{spell_literal, shift_mark, sum_mark, product_mark, spell_expression, spell_exclusive_or, spell_and, spell_shift, spell_sum, spell_product, spell_unary, spell_primary}
use Rattle.idl_tree.specs.Lexeme.{Lexeme, Lexemes, Word, Punctuation, Integer, Character, WideCharacter, Text, WideText}
use Rattle.idl_tree.specs.Name.{spell_name}
use Rattle.idl_tree.specs.reading.ReadExpression.{shift_operator_of, sum_operator_of, product_operator_of, unary_operator_of, step_with, chain_with, behind_with, parted_with, text_of, wide_text_of, Single, Whole, Narrow, Wide, Yes, No, single_of, single_literal, pieces_at, text_literal, wide_text_literal, literal_at, parentheses_with, primary_with, made_unary, unary_with, made_product, made_sum, made_shift, made_and, made_exclusive_or, made_expression, or_with, expression_at}
use Rattle.idl_tree.specs.reading.ReadName.{name_at, begins_name}
use Rattle.idl_tree.specs.reading.Reading.{Reader, ◌>>=◌, first, many_of}
use Rattle.idl_tree.specs.reading.Tests.{is_mark, pick, picked}
use Rattle.idl_tree.specs.declared.expression.Expression.{Expression}
use Rattle.idl_tree.specs.declared.expression.Primary.{Primary}
use Rattle.idl_tree.specs.declared.expression.Primary.TheVariants as primary
use Rattle.idl_tree.specs.declared.expression.ProductOperator.{ProductOperator}
use Rattle.idl_tree.specs.declared.expression.ProductOperator.TheVariants.{Times, Divided, Remainder}
use Rattle.idl_tree.specs.declared.expression.ShiftOperator.{ShiftOperator}
use Rattle.idl_tree.specs.declared.expression.ShiftOperator.TheVariants.{Left, Right}
use Rattle.idl_tree.specs.declared.expression.SumOperator.{SumOperator}
use Rattle.idl_tree.specs.declared.expression.SumOperator.TheVariants as sum
use Rattle.idl_tree.specs.declared.expression.UnaryOperator.{UnaryOperator}
use Rattle.idl_tree.specs.declared.expression.UnaryOperator.TheVariants as unary
use Rattle.idl_tree.specs.declared.literal.Literal.TheVariants as literal
use Rattle.idl_tree.proofs.Laws.{Laws, same, either, either_spells, next_at, mapped_at, behind_at, then_laws, last_laws, skip_laws, choice_laws, shape, later, later_laws, no_laws, deeper}
use Rattle.idl_tree.proofs.Many.{many_spell, many_laws}
use Rattle.idl_tree.proofs.Readers.NameLaws.{flat_map-many, name_laws}
use Rattle.idl_tree.proofs.SpellLemmas.{spell_unary-made, spell_product-made, spell_sum-made, spell_shift-made, spell_and-made, spell_exclusive_or-made, spell_expression-made, spell_primary-name, spell_primary-literal, spell_primary-parentheses}
use Rattle.idl_tree.proofs.Readers.TokenLaws.{Picks, only_mark, one_token, pick_laws, close_at, close_laws, some_is}

-- ---- operators

abbrev pub shift_token : ShiftOperator → Lexeme
shift_token o = Punctuation (shift_mark o)

abbrev pub sum_token : SumOperator → Lexeme
sum_token o = Punctuation (sum_mark o)

abbrev pub product_token : ProductOperator → Lexeme
product_token o = Punctuation (product_mark o)

abbrev pub unary_token : UnaryOperator → Lexeme
unary_token unary.Minus = Punctuation mark.Minus
unary_token unary.Plus = Punctuation mark.Plus
unary_token unary.Complement = Punctuation mark.Tilde

pub shifts_picked : Picks shift_operator_of shift_token
shifts_picked = record { example = Left; wanted = refl; only = only; again = again }
  where
    only : (t : Lexeme) (a : ShiftOperator) → shift_operator_of (Some t) ≡ Some a → t ≡ shift_token a
    only (Punctuation mark.ShiftLeft) a h = ap shift_token (some_is Left a h)
    only (Punctuation mark.ShiftRight) a h = ap shift_token (some_is Right a h)
    only _ a h = absurd cc

    again : (a : ShiftOperator) → shift_operator_of (Some (shift_token a)) ≡ Some a
    again Left = refl
    again Right = refl

pub sums_picked : Picks sum_operator_of sum_token
sums_picked = record { example = sum.Plus; wanted = refl; only = only; again = again }
  where
    only : (t : Lexeme) (a : SumOperator) → sum_operator_of (Some t) ≡ Some a → t ≡ sum_token a
    only (Punctuation mark.Plus) a h = ap sum_token (some_is sum.Plus a h)
    only (Punctuation mark.Minus) a h = ap sum_token (some_is sum.Minus a h)
    only _ a h = absurd cc

    again : (a : SumOperator) → sum_operator_of (Some (sum_token a)) ≡ Some a
    again sum.Plus = refl
    again sum.Minus = refl

pub products_picked : Picks product_operator_of product_token
products_picked = record { example = Times; wanted = refl; only = only; again = again }
  where
    only : (t : Lexeme) (a : ProductOperator) → product_operator_of (Some t) ≡ Some a → t ≡ product_token a
    only (Punctuation mark.Star) a h = ap product_token (some_is Times a h)
    only (Punctuation mark.Slash) a h = ap product_token (some_is Divided a h)
    only (Punctuation mark.Percent) a h = ap product_token (some_is Remainder a h)
    only _ a h = absurd cc

    again : (a : ProductOperator) → product_operator_of (Some (product_token a)) ≡ Some a
    again Times = refl
    again Divided = refl
    again Remainder = refl

pub unaries_picked : Picks unary_operator_of unary_token
unaries_picked = record { example = unary.Minus; wanted = refl; only = only; again = again }
  where
    only : (t : Lexeme) (a : UnaryOperator) → unary_operator_of (Some t) ≡ Some a → t ≡ unary_token a
    only (Punctuation mark.Minus) a h = ap unary_token (some_is unary.Minus a h)
    only (Punctuation mark.Plus) a h = ap unary_token (some_is unary.Plus a h)
    only (Punctuation mark.Tilde) a h = ap unary_token (some_is unary.Complement a h)
    only _ a h = absurd cc

    again : (a : UnaryOperator) → unary_operator_of (Some (unary_token a)) ≡ Some a
    again unary.Minus = refl
    again unary.Plus = refl
    again unary.Complement = refl

-- ---- ranks of operators

abbrev pub pair : {A B : Type 0} → A → B → A × B
pair a b = (a, b)

abbrev spell_step : {O A : Type 0} → (O → Lexeme) → (A → Lexemes) → O × A → Lexemes
spell_step token spell s = token s.0 ∷ spell s.1

step_laws : (d N : ℕ) {O A : Type 0} (operator : Option Lexeme → Option O) (token : O → Lexeme) (spell : A → Lexemes) (r : ℕ → Reader A) → Picks operator token → Laws d N same spell r
    → Laws d N same (spell_step token spell) (λ n. step_with operator (r n))
unfolding step_with
step_laws d N {O} {A} operator token spell r is laws = shape d N (λ (p : O × A). (p.0, p.1)) (λ p. one_token token p.0 ++ spell p.1) (spell_step token spell) (next_at (λ n. pick operator) (λ o. mapped_at (pair o) r)) (λ n. step_with operator (r n)) (λ b. refl) (λ n ts. refl)
    (then_laws d N (one_token token) (λ n. pick operator) (λ (o : O) (x : A). pair o x) spell (λ o. mapped_at (pair o) r) (pick_laws d N operator token is)
    (λ o. last_laws d N (pair o) spell r laws))

pub chain_laws : (d N : ℕ) {O A C : Type 0} (make : A → List (O × A) → C) (operator : Option Lexeme → Option O) (token : O → Lexeme) (spell : A → Lexemes) (spell' : C → Lexemes) (r : ℕ → Reader A)
    → ((x : A) (xs : List (O × A)) → spell' (make x xs) ≡ spell x ++ many_spell (spell_step token spell) xs) → Picks operator token → Laws d N same spell r
    → Laws d N same spell' (λ n. chain_with make operator (r n))
unfolding chain_with
chain_laws d N {O} {A} make operator token spell spell' r spells is laws =
    shape d N (λ (p : A × List (O × A)). make p.0 p.1) (λ p. spell p.0 ++ many_spell (spell_step token spell) p.1) spell' (next_at r (λ x. mapped_at (make x) (λ n. many_of (λ t. is_some (operator t)) (step_with operator (r n))))) (λ n. chain_with make operator (r n))
    (λ p. spells p.0 p.1) (λ n ts. refl)
    (then_laws d N spell r make (many_spell (spell_step token spell)) (λ x. mapped_at (make x) (λ n. many_of (λ t. is_some (operator t)) (step_with operator (r n)))) laws
    (λ x. last_laws d N (make x) (many_spell (spell_step token spell)) (λ n. many_of (λ t. is_some (operator t)) (step_with operator (r n)))
    (many_laws d N (λ t. is_some (operator t)) (spell_step token spell) (λ n. step_with operator (r n)) (λ s. omega arith) (step_laws d N operator token spell r is laws))))

abbrev pub spell_behind : {A : Type 0} → Mark → (A → Lexemes) → A → Lexemes
spell_behind m spell x = Punctuation m ∷ spell x

pub behind_laws : (d N : ℕ) {A : Type 0} (m : Mark) (spell : A → Lexemes) (r : ℕ → Reader A) → Laws (suc d) N same spell r → Laws d N same (spell_behind m spell) (λ n. behind_with m (r n))
unfolding behind_with
behind_laws d N m spell r laws = skip_laws d N (is_mark m) (Punctuation m) same spell r (only_mark m) laws

pub parted_laws : (d N : ℕ) {A C : Type 0} (make : A → List A → C) (m : Mark) (spell : A → Lexemes) (spell' : C → Lexemes) (r : ℕ → Reader A)
    → ((x : A) (xs : List A) → spell' (make x xs) ≡ spell x ++ many_spell (spell_behind m spell) xs) → Laws d N same spell r
    → Laws d N same spell' (λ n. parted_with make m (r n))
unfolding parted_with
parted_laws d N {A} make m spell spell' r spells laws =
    shape d N (λ (p : A × List A). make p.0 p.1) (λ p. spell p.0 ++ many_spell (spell_behind m spell) p.1) spell' (next_at r (λ x. mapped_at (make x) (λ n. many_of (is_mark m) (behind_with m (r n))))) (λ n. parted_with make m (r n))
    (λ p. spells p.0 p.1) (λ n ts. refl)
    (then_laws d N spell r make (many_spell (spell_behind m spell)) (λ x. mapped_at (make x) (λ n. many_of (is_mark m) (behind_with m (r n)))) laws
    (λ x. last_laws d N (make x) (many_spell (spell_behind m spell)) (λ n. many_of (is_mark m) (behind_with m (r n)))
    (many_laws d N (is_mark m) (spell_behind m spell) (λ n. behind_with m (r n)) (λ s. omega arith) (behind_laws d N m spell r (deeper d N same spell r laws)))))

-- ---- literals

pub texts_picked : Picks text_of Text
texts_picked = record { example = []; wanted = refl; only = only; again = λ a. refl }
  where
    only : (t : Lexeme) (a : List ℕ) → text_of (Some t) ≡ Some a → t ≡ Text a
    only (Text s) a h = ap Text (some_is s a h)
    only _ a h = absurd cc

pub wide_texts_picked : Picks wide_text_of WideText
wide_texts_picked = record { example = []; wanted = refl; only = only; again = λ a. refl }
  where
    only : (t : Lexeme) (a : List ℕ) → wide_text_of (Some t) ≡ Some a → t ≡ WideText a
    only (WideText s) a h = ap WideText (some_is s a h)
    only _ a h = absurd cc

abbrev single_token : Single → Lexeme
single_token (Whole n) = Integer n
single_token (Narrow c) = Character c
single_token (Wide c) = WideCharacter c
single_token Yes = Word word.True
single_token No = Word word.False

pub singles_picked : Picks single_of single_token
singles_picked = record { example = Yes; wanted = refl; only = only; again = again }
  where
    only : (t : Lexeme) (a : Single) → single_of (Some t) ≡ Some a → t ≡ single_token a
    only (Integer n) a h = ap single_token (some_is (Whole n) a h)
    only (Character c) a h = ap single_token (some_is (Narrow c) a h)
    only (WideCharacter c) a h = ap single_token (some_is (Wide c) a h)
    only (Word word.True) a h = ap single_token (some_is Yes a h)
    only (Word word.False) a h = ap single_token (some_is No a h)
    only _ a h = absurd cc

    again : (a : Single) → single_of (Some (single_token a)) ≡ Some a
    again (Whole n) = refl
    again (Narrow c) = refl
    again (Wide c) = refl
    again Yes = refl
    again No = refl

abbrev pieces : Type 0
pieces = List ℕ × List (List ℕ)

abbrev spell_pieces : (List ℕ → Lexeme) → pieces → Lexemes
spell_pieces token p = one_token token p.0 ++ many_spell (one_token token) p.1

pieces_laws : (d N : ℕ) (piece : Option Lexeme → Option (List ℕ)) (token : List ℕ → Lexeme) → Picks piece token → Laws d N same (spell_pieces token) (λ n. pieces_at piece)
unfolding pieces_at
pieces_laws d N piece token is = shape d N (λ (p : pieces). (p.0, p.1)) (spell_pieces token) (spell_pieces token) (next_at (λ n. pick piece) (λ x. mapped_at (pair x) (λ n. many_of (λ t. is_some (piece t)) (pick piece)))) (λ n. pieces_at piece) (λ p. refl) (λ n ts. refl)
    (then_laws d N (one_token token) (λ n. pick piece) (λ (x : List ℕ) (xs : List (List ℕ)). pair x xs) (many_spell (one_token token)) (λ x. mapped_at (pair x) (λ n. many_of (λ t. is_some (piece t)) (pick piece))) (pick_laws d N piece token is)
    (λ x. last_laws d N (pair x) (many_spell (one_token token)) (λ n. many_of (λ t. is_some (piece t)) (pick piece))
    (many_laws d N (λ t. is_some (piece t)) (one_token token) (λ n. pick piece) (λ s. omega arith) (pick_laws d N piece token is))))

literal_laws : (d N : ℕ) → Laws d N same spell_literal (λ n. literal_at)
unfolding literal_at
literal_laws d N = shape d N _ _ spell_literal _ (λ n. literal_at)
    (either_spells spell_literal text_literal (spell_pieces Text) (either wide_text_literal single_literal) (either (spell_pieces WideText) (one_token single_token))
    (λ p. ap (λ (w : Lexemes). Text p.0 ∷ w) (flat_map-many (one_token Text) p.1))
    (either_spells spell_literal wide_text_literal (spell_pieces WideText) single_literal (one_token single_token)
    (λ p. ap (λ (w : Lexemes). WideText p.0 ∷ w) (flat_map-many (one_token WideText) p.1)) single))
    (λ n ts. refl)
    (choice_laws d N (λ t. is_some (text_of t)) _ _ (mapped_at text_literal (λ n. pieces_at text_of)) _ _ _
    (last_laws d N text_literal (spell_pieces Text) (λ n. pieces_at text_of) (pieces_laws d N text_of Text texts_picked))
    (choice_laws d N (λ t. is_some (wide_text_of t)) _ _ (mapped_at wide_text_literal (λ n. pieces_at wide_text_of)) _ _ (mapped_at single_literal (λ n. pick single_of))
    (last_laws d N wide_text_literal (spell_pieces WideText) (λ n. pieces_at wide_text_of) (pieces_laws d N wide_text_of WideText wide_texts_picked))
    (last_laws d N single_literal (one_token single_token) (λ n. pick single_of) (pick_laws d N single_of single_token singles_picked))))
  where
    single : (s : Single) → spell_literal (single_literal s) ≡ one_token single_token s
    single (Whole n) = refl
    single (Narrow c) = refl
    single (Wide c) = refl
    single Yes = refl
    single No = refl

-- ---- operands

unary_laws : (d N : ℕ) (r : ℕ → Reader Primary) → Laws d N same spell_primary r → Laws d N same spell_unary (λ n. unary_with (r n))
unfolding unary_with
unary_laws d N r laws = shape d N _ _ spell_unary _ (λ n. unary_with (r n))
    (either_spells spell_unary (λ (p : UnaryOperator × Primary). made_unary (Some p.0) p.1) (λ p. one_token unary_token p.0 ++ spell_primary p.1) (made_unary None) spell_primary prefixed (λ p. spell_unary-made None p))
    (λ n ts. reads n ts (unary_operator_of (first ts)))
    (choice_laws d N (λ t. is_some (unary_operator_of t)) _ _ _ _ _ _
    (then_laws d N (one_token unary_token) (λ n. pick unary_operator_of) (λ o p. made_unary (Some o) p) spell_primary (λ o. mapped_at (made_unary (Some o)) r) (pick_laws d N unary_operator_of unary_token unaries_picked) (λ o. last_laws d N (made_unary (Some o)) spell_primary r laws))
    (last_laws d N (made_unary None) spell_primary r laws))
  where
    prefixed : (p : UnaryOperator × Primary) → spell_unary (made_unary (Some p.0) p.1) ≡ one_token unary_token p.0 ++ spell_primary p.1
    prefixed (unary.Minus, p) = spell_unary-made (Some unary.Minus) p
    prefixed (unary.Plus, p) = spell_unary-made (Some unary.Plus) p
    prefixed (unary.Complement, p) = spell_unary-made (Some unary.Complement) p

    reads : (n : ℕ) (ts : Lexemes) (o : Option UnaryOperator) → (r (suc n) (cond (is_some o) (drop 1 ts) ts) >>= λ p. Ok (made_unary o p.0, p.1)) ≡ cond (is_some o) (picked o ts >>= λ x. mapped_at (made_unary (Some x.0)) r (suc n) x.1) (mapped_at (made_unary None) r (suc n) ts)
    reads n ts (Some o) = refl
    reads n ts None = refl

abbrev parentheses_at : (ℕ → Reader Expression) → ℕ → Reader Primary
parentheses_at r = behind_at (is_mark mark.OpenParenthesis) (next_at r (λ e. close_at mark.CloseParenthesis (primary.Parentheses e)))

abbrev spell_enclosed : Expression × Unit {0} → Lexemes
spell_enclosed p = Punctuation mark.OpenParenthesis ∷ (spell_expression p.0 ++ Punctuation mark.CloseParenthesis ∷ [])

parentheses_laws : (d N : ℕ) (r : ℕ → Reader Expression) → Laws (suc d) N same spell_expression r → Laws d N (λ (p : Expression × Unit {0}). primary.Parentheses p.0) spell_enclosed (parentheses_at r)
parentheses_laws d N r laws = skip_laws d N (is_mark mark.OpenParenthesis) (Punctuation mark.OpenParenthesis) (λ (p : Expression × Unit {0}). primary.Parentheses p.0) (λ p. spell_expression p.0 ++ Punctuation mark.CloseParenthesis ∷ []) (next_at r (λ e. close_at mark.CloseParenthesis (primary.Parentheses e))) (only_mark mark.OpenParenthesis)
    (then_laws (suc d) N spell_expression r (λ (e : Expression) (u : Unit {0}). primary.Parentheses e) (λ u. Punctuation mark.CloseParenthesis ∷ []) (λ e. close_at mark.CloseParenthesis (primary.Parentheses e)) laws (λ e. close_laws (suc d) N mark.CloseParenthesis (primary.Parentheses e)))

primary_laws : (d N : ℕ) (r : ℕ → Reader Expression) → Laws (suc d) N same spell_expression r → Laws d N same spell_primary (λ n. primary_with (r n))
unfolding primary_with parentheses_with
primary_laws d N r laws = shape d N _ _ spell_primary _ (λ n. primary_with (r n))
    (either_spells spell_primary (λ (p : Expression × Unit {0}). primary.Parentheses p.0) spell_enclosed (either primary.Name primary.Literal) (either spell_name spell_literal) (λ p. spell_primary-parentheses p.0)
    (either_spells spell_primary primary.Name spell_name primary.Literal spell_literal spell_primary-name spell_primary-literal))
    (λ n ts. refl)
    (choice_laws d N (is_mark mark.OpenParenthesis) _ _ (parentheses_at r) _ _ _ (parentheses_laws d N r laws)
    (choice_laws d N begins_name _ _ (mapped_at primary.Name (λ n. name_at)) _ _ (mapped_at primary.Literal (λ n. literal_at)) (last_laws d N primary.Name spell_name (λ n. name_at) (name_laws d N)) (last_laws d N primary.Literal spell_literal (λ n. literal_at) (literal_laws d N))))

-- ---- all ranks

or_laws : (d N : ℕ) (r : ℕ → Reader Expression) → Laws (suc d) N same spell_expression r → Laws d N same spell_expression (λ n. or_with (r n))
or_laws d N r laws =
    parted_laws d N made_expression mark.Bar spell_exclusive_or spell_expression _ spell_expression-made
    (parted_laws d N made_exclusive_or mark.Caret spell_and spell_exclusive_or _ spell_exclusive_or-made
    (parted_laws d N made_and mark.Ampersand spell_shift spell_and _ spell_and-made
    (chain_laws d N made_shift shift_operator_of shift_token spell_sum spell_shift _ spell_shift-made shifts_picked
    (chain_laws d N made_sum sum_operator_of sum_token spell_product spell_sum _ spell_sum-made sums_picked
    (chain_laws d N made_product product_operator_of product_token spell_unary spell_product _ spell_product-made products_picked
    (unary_laws d N _ (primary_laws d N r laws)))))))

pub some_expression : Expression
some_expression = made_expression (made_exclusive_or (made_and (made_shift (made_sum (made_product (made_unary None (primary.Literal literal.True)) []) []) []) []) []) []

expression_reads : (n : ℕ) (ts : Lexemes) → expression_at (suc n) ts ≡ or_with (expression_at n) ts
unfolding expression_at
expression_reads n ts = refl

pub expression_laws : (N : ℕ) → Laws 0 N same spell_expression expression_at
expression_laws zero = no_laws 0 spell_expression expression_at some_expression
expression_laws (suc N) = shape 0 (suc N) same spell_expression spell_expression (λ n. or_with (later expression_at n)) expression_at (λ b. refl) expression_reads (or_laws 0 (suc N) (later expression_at) (later_laws N spell_expression expression_at (expression_laws N)))
