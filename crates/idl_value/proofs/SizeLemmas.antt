-- How many tokens a term is.
use Rattle.std.proofs.Common.{◌≡◌, ◌∙◌, ℕ, ◌+◌, ◌*◌, ◌≤◌, List, [], ◌∷◌, ◌++◌, Option, None, Some, length, map, flat_map, refl, sym, ap, subst, arith, true, false}
use Rattle.std.proofs.lemmas.List.{length-append, length-map}
use Rattle.std.proofs.lemmas.List.Concat.{flat_map_single}
use Rattle.idl_tree.specs.idl_lex.declared.kinds.mark.Mark.TheVariants as mark
use Rattle.idl_tree.proofs.Many.{many_spell}
use Rattle.idl_tree.proofs.SpellLemmas.{spell_and-made, spell_exclusive_or-made, spell_expression-made, spell_primary-literal, spell_primary-name, spell_primary-parentheses, spell_product-made, spell_shift-made, spell_sum-made, spell_unary-made}
use Rattle.idl_tree.specs.Expression.{product_mark, shift_mark, spell_and, spell_exclusive_or, spell_expression, spell_literal, spell_primary, spell_product, spell_shift, spell_sum, spell_unary, spell_unary_operator, sum_mark}
use Rattle.idl_tree.specs.Lexeme.{Lexeme, Lexemes, Punctuation, Identifier, Text, WideText}
use Rattle.idl_tree.specs.Several.{spell_all}
use Rattle.idl_tree.specs.declared.several.Several.{Several}
use Rattle.idl_tree.specs.Name.{spell_leading, spell_name}
use Rattle.idl_tree.specs.reading.ReadExpression.{made_and, made_exclusive_or, made_expression, made_product, made_shift, made_sum, made_unary}
use Rattle.idl_tree.specs.declared.expression.And.{And, roll-And}
use Rattle.idl_tree.specs.declared.expression.ExclusiveOr.{ExclusiveOr, roll-ExclusiveOr}
use Rattle.idl_tree.specs.declared.expression.Expression.{Expression, roll-Expression}
use Rattle.idl_tree.specs.declared.expression.Primary.{Primary, roll-Primary}
use Rattle.idl_tree.specs.declared.expression.Primary.TheFolds.{ind-Expression, map-Primary}
use Rattle.idl_tree.specs.declared.expression.Primary.TheOpen.{Primary-F}
use Rattle.idl_tree.specs.declared.expression.Primary.TheVariants.{rolls-Literal, rolls-Name, rolls-Parentheses}
use Rattle.idl_tree.specs.declared.expression.Primary.TheVariants as primary
use Rattle.idl_tree.specs.declared.expression.Product.{Product, roll-Product}
use Rattle.idl_tree.specs.declared.expression.ProductOperator.{ProductOperator}
use Rattle.idl_tree.specs.declared.expression.Shift.{Shift, roll-Shift}
use Rattle.idl_tree.specs.declared.expression.ShiftOperator.{ShiftOperator}
use Rattle.idl_tree.specs.declared.expression.Sum.{Sum, roll-Sum}
use Rattle.idl_tree.specs.declared.expression.SumOperator.{SumOperator}
use Rattle.idl_tree.specs.declared.expression.Unary.{Unary, roll-Unary}
use Rattle.idl_tree.specs.declared.expression.UnaryOperator.{UnaryOperator}
use Rattle.idl_tree.specs.declared.expression.UnaryOperator.TheVariants as unary
use Rattle.idl_tree.specs.declared.literal.Literal.{Literal}
use Rattle.idl_tree.specs.declared.literal.Literal.TheVariants as literal
use Rattle.idl_tree.specs.declared.name.ScopedName.{ScopedName}
use Rattle.idl_value.specs.Term.{Term, Named, Literally, Parenthesised, Signed, Chain, Links, End, Link, links, before_last, leading, signed, shift_operator, sum_operator, product_operator, expression_term, exclusive_or_term, and_term, shift_term, sum_term, product_term, unary_term, primary_term}
use Rattle.idl_value.specs.declared.operator.BinaryOperator.{BinaryOperator}
use Rattle.idl_value.specs.declared.operator.BinaryOperator.TheVariants as operator
use Rattle.idl_value.proofs.TermEquations.{expression_term-made, exclusive_or_term-made, and_term-made, shift_term-made, sum_term-made, product_term-made, unary_term-made, primary_term-name, primary_term-literal, primary_term-parentheses}

abbrev mutual
  pub size : Term → ℕ
  size (Named before) = before + 1
  size (Literally l) = length (spell_literal l)
  size (Parenthesised inner) = 2 + size inner
  size (Signed sign operand) = 1 + size operand
  size (Chain first rest) = size first + links_size rest

  pub links_size : Links → ℕ
  links_size End = 0
  links_size (Link operator term rest) = 1 + size term + links_size rest

-- two tokens for each part
parts-length : (xs : List (List ℕ)) → length (flat_map (λ part. Punctuation mark.ColonColon ∷ Identifier part ∷ []) xs) ≡ 2 * length xs
parts-length [] = refl
parts-length (x ∷ xs) = let h = parts-length xs in omega (arith, h)

pub name-length : (n : ScopedName) → length (spell_name n) ≡ before_last n + 1
name-length n =
    let h = length-append (spell_leading n.is_global) (Identifier n.first ∷ flat_map (λ part. Punctuation mark.ColonColon ∷ Identifier part ∷ []) n.rest) in
    let p = parts-length n.rest in
    let g : length (spell_leading n.is_global) ≡ leading n.is_global = elim n.is_global as (λ b. length (spell_leading b) ≡ leading b) [ true ↦ refl | false ↦ refl ] in
    omega (arith, h, p, g)

-- one token each
pub length-spell_all : {X : Type 0} (f : X → Lexeme) (xs : Several X) → length (spell_all (λ x. f x ∷ []) xs) ≡ length xs.rest + 1
length-spell_all f xs =
    let e = ap length (flat_map_single f xs.rest) ∙ length-map xs.rest f in
    omega (arith, e)

-- a literal is one token or more
pub literal-length : (l : Literal) → 1 ≤ length (spell_literal l)
literal-length (literal.Text pieces) = let h = length-spell_all Text pieces in omega (arith, h)
literal-length (literal.WideText pieces) = let h = length-spell_all WideText pieces in omega (arith, h)
literal-length other = omega arith

-- the claims by which the induction goes

abbrev AndSized : And → Type 0
AndSized x = size (and_term x) ≡ length (spell_and x)

abbrev ExclusiveOrSized : ExclusiveOr → Type 0
ExclusiveOrSized x = size (exclusive_or_term x) ≡ length (spell_exclusive_or x)

abbrev ExpressionSized : Expression → Type 0
ExpressionSized x = size (expression_term x) ≡ length (spell_expression x)

abbrev PrimarySized : Primary → Type 0
PrimarySized x = size (primary_term x) ≡ length (spell_primary x)

abbrev ProductSized : Product → Type 0
ProductSized x = size (product_term x) ≡ length (spell_product x)

abbrev ShiftSized : Shift → Type 0
ShiftSized x = size (shift_term x) ≡ length (spell_shift x)

abbrev SumSized : Sum → Type 0
SumSized x = size (sum_term x) ≡ length (spell_sum x)

abbrev UnarySized : Unary → Type 0
UnarySized x = size (unary_term x) ≡ length (spell_unary x)

abbrev Such : {X : Type 0} → (X → Type 0) → Type 0
Such {X} claim = (x : X) × claim x

-- links of operands that are as long as they are spelled
links-sized : {S X : Type 0} (g : S → X) (op : X → BinaryOperator) (term : X → Term) (spell : X → Lexemes)
    → ((s : S) → length (spell (g s)) ≡ 1 + size (term (g s))) → (xs : List S)
    → links_size (links op term (map g xs)) ≡ length (many_spell spell (map g xs))
links-sized g op term spell each [] = refl
links-sized g op term spell each (x ∷ xs) =
    let h = links-sized g op term spell each xs in
    let e = each x in
    let a = length-append (spell (g x)) (many_spell spell (map g xs)) in
    omega (arith, h, e, a)

chain-sized : (first : Term) (ls : Links) (a b : Lexemes) → size first ≡ length a → links_size ls ≡ length b → size (Chain first ls) ≡ length (a ++ b)
chain-sized first ls a b h g = let e = length-append a b in omega (arith, h, g, e)

expression_sized : (x : Such ExclusiveOrSized) (xs : List (Such ExclusiveOrSized)) → ExpressionSized (made_expression x.0 (map (λ s. s.0) xs))
expression_sized x xs =
    ap size (expression_term-made x.0 (map (λ s. s.0) xs))
    ∙ chain-sized (exclusive_or_term x.0) (links (λ s. operator.Or) exclusive_or_term (map (λ s. s.0) xs)) (spell_exclusive_or x.0) (many_spell (λ s. Punctuation mark.Bar ∷ spell_exclusive_or s) (map (λ s. s.0) xs)) x.1
    (links-sized (λ s. s.0) (λ s. operator.Or) exclusive_or_term (λ s. Punctuation mark.Bar ∷ spell_exclusive_or s) (λ s. let h = s.1 in omega (arith, h)) xs)
    ∙ sym (ap length (spell_expression-made x.0 (map (λ s. s.0) xs)))

exclusive_or_sized : (x : Such AndSized) (xs : List (Such AndSized)) → ExclusiveOrSized (made_exclusive_or x.0 (map (λ s. s.0) xs))
exclusive_or_sized x xs =
    ap size (exclusive_or_term-made x.0 (map (λ s. s.0) xs))
    ∙ chain-sized (and_term x.0) (links (λ s. operator.ExclusiveOr) and_term (map (λ s. s.0) xs)) (spell_and x.0) (many_spell (λ s. Punctuation mark.Caret ∷ spell_and s) (map (λ s. s.0) xs)) x.1
    (links-sized (λ s. s.0) (λ s. operator.ExclusiveOr) and_term (λ s. Punctuation mark.Caret ∷ spell_and s) (λ s. let h = s.1 in omega (arith, h)) xs)
    ∙ sym (ap length (spell_exclusive_or-made x.0 (map (λ s. s.0) xs)))

and_sized : (x : Such ShiftSized) (xs : List (Such ShiftSized)) → AndSized (made_and x.0 (map (λ s. s.0) xs))
and_sized x xs =
    ap size (and_term-made x.0 (map (λ s. s.0) xs))
    ∙ chain-sized (shift_term x.0) (links (λ s. operator.And) shift_term (map (λ s. s.0) xs)) (spell_shift x.0) (many_spell (λ s. Punctuation mark.Ampersand ∷ spell_shift s) (map (λ s. s.0) xs)) x.1
    (links-sized (λ s. s.0) (λ s. operator.And) shift_term (λ s. Punctuation mark.Ampersand ∷ spell_shift s) (λ s. let h = s.1 in omega (arith, h)) xs)
    ∙ sym (ap length (spell_and-made x.0 (map (λ s. s.0) xs)))

shift_sized : (x : Such SumSized) (xs : List (ShiftOperator × Such SumSized)) → ShiftSized (made_shift x.0 (map (λ s. (s.0, s.1.0)) xs))
shift_sized x xs =
    ap size (shift_term-made x.0 (map (λ s. (s.0, s.1.0)) xs))
    ∙ chain-sized (sum_term x.0) (links (λ s. shift_operator s.0) (λ s. sum_term s.1) (map (λ s. (s.0, s.1.0)) xs)) (spell_sum x.0) (many_spell (λ s. Punctuation (shift_mark s.0) ∷ spell_sum s.1) (map (λ s. (s.0, s.1.0)) xs)) x.1
    (links-sized (λ s. (s.0, s.1.0)) (λ s. shift_operator s.0) (λ s. sum_term s.1) (λ s. Punctuation (shift_mark s.0) ∷ spell_sum s.1) (λ s. let h = s.1.1 in omega (arith, h)) xs)
    ∙ sym (ap length (spell_shift-made x.0 (map (λ s. (s.0, s.1.0)) xs)))

sum_sized : (x : Such ProductSized) (xs : List (SumOperator × Such ProductSized)) → SumSized (made_sum x.0 (map (λ s. (s.0, s.1.0)) xs))
sum_sized x xs =
    ap size (sum_term-made x.0 (map (λ s. (s.0, s.1.0)) xs))
    ∙ chain-sized (product_term x.0) (links (λ s. sum_operator s.0) (λ s. product_term s.1) (map (λ s. (s.0, s.1.0)) xs)) (spell_product x.0) (many_spell (λ s. Punctuation (sum_mark s.0) ∷ spell_product s.1) (map (λ s. (s.0, s.1.0)) xs)) x.1
    (links-sized (λ s. (s.0, s.1.0)) (λ s. sum_operator s.0) (λ s. product_term s.1) (λ s. Punctuation (sum_mark s.0) ∷ spell_product s.1) (λ s. let h = s.1.1 in omega (arith, h)) xs)
    ∙ sym (ap length (spell_sum-made x.0 (map (λ s. (s.0, s.1.0)) xs)))

product_sized : (x : Such UnarySized) (xs : List (ProductOperator × Such UnarySized)) → ProductSized (made_product x.0 (map (λ s. (s.0, s.1.0)) xs))
product_sized x xs =
    ap size (product_term-made x.0 (map (λ s. (s.0, s.1.0)) xs))
    ∙ chain-sized (unary_term x.0) (links (λ s. product_operator s.0) (λ s. unary_term s.1) (map (λ s. (s.0, s.1.0)) xs)) (spell_unary x.0) (many_spell (λ s. Punctuation (product_mark s.0) ∷ spell_unary s.1) (map (λ s. (s.0, s.1.0)) xs)) x.1
    (links-sized (λ s. (s.0, s.1.0)) (λ s. product_operator s.0) (λ s. unary_term s.1) (λ s. Punctuation (product_mark s.0) ∷ spell_unary s.1) (λ s. let h = s.1.1 in omega (arith, h)) xs)
    ∙ sym (ap length (spell_product-made x.0 (map (λ s. (s.0, s.1.0)) xs)))

operator_sized : (o : Option UnaryOperator) (p : Primary) → PrimarySized p → size (signed o (primary_term p)) ≡ length (spell_unary_operator o ++ spell_primary p)
operator_sized None p h = h
operator_sized (Some unary.Minus) p h = omega (arith, h)
operator_sized (Some unary.Plus) p h = omega (arith, h)
operator_sized (Some unary.Complement) p h = omega (arith, h)

unary_sized : (o : Option UnaryOperator) (p : Primary) → PrimarySized p → UnarySized (made_unary o p)
unary_sized o p h = ap size (unary_term-made o p) ∙ operator_sized o p h ∙ sym (ap length (spell_unary-made o p))

name_sized : (n : ScopedName) → PrimarySized (primary.Name n)
name_sized n = ap size (primary_term-name n) ∙ sym (name-length n) ∙ sym (ap length (spell_primary-name n))

literal_sized : (l : Literal) → PrimarySized (primary.Literal l)
literal_sized l = ap size (primary_term-literal l) ∙ sym (ap length (spell_primary-literal l))

parentheses_sized : (e : Expression) → ExpressionSized e → PrimarySized (primary.Parentheses e)
parentheses_sized e h =
    let a = length-append (spell_expression e) (Punctuation mark.CloseParenthesis ∷ []) in
    let s : 2 + size (expression_term e) ≡ length (Punctuation mark.OpenParenthesis ∷ (spell_expression e ++ Punctuation mark.CloseParenthesis ∷ [])) = omega (arith, h, a) in
    ap size (primary_term-parentheses e) ∙ s ∙ sym (ap length (spell_primary-parentheses e))

by_primary : (y : Primary-F (Such PrimarySized) (Such AndSized) (Such ExclusiveOrSized) (Such ExpressionSized) (Such ProductSized) (Such ShiftSized) (Such SumSized) (Such UnarySized))
    → PrimarySized (roll-Primary (map-Primary (Such PrimarySized) (Such AndSized) (Such ExclusiveOrSized) (Such ExpressionSized) (Such ProductSized) (Such ShiftSized) (Such SumSized) (Such UnarySized)
    Primary And ExclusiveOr Expression Product Shift Sum Unary (λ e. e.0) (λ e. e.0) (λ e. e.0) (λ e. e.0) (λ e. e.0) (λ e. e.0) (λ e. e.0) (λ e. e.0) y))
by_primary (Primary-F.Name n) = subst PrimarySized (sym (rolls-Name n)) (name_sized n)
by_primary (Primary-F.Literal l) = subst PrimarySized (sym (rolls-Literal l)) (literal_sized l)
by_primary (Primary-F.Parentheses e) = subst PrimarySized (sym (rolls-Parentheses e.0)) (parentheses_sized e.0 e.1)

pub expression_term-size : (e : Expression) → size (expression_term e) ≡ length (spell_expression e)
expression_term-size = ind-Expression PrimarySized AndSized ExclusiveOrSized ExpressionSized ProductSized ShiftSized SumSized UnarySized
    (λ x y is. subst (λ z. PrimarySized (roll-Primary z)) is (by_primary y))
    (λ x y is. subst (λ z. AndSized (roll-And z)) is (and_sized y.first y.rest))
    (λ x y is. subst (λ z. ExclusiveOrSized (roll-ExclusiveOr z)) is (exclusive_or_sized y.first y.rest))
    (λ x y is. subst (λ z. ExpressionSized (roll-Expression z)) is (expression_sized y.first y.rest))
    (λ x y is. subst (λ z. ProductSized (roll-Product z)) is (product_sized y.first y.rest))
    (λ x y is. subst (λ z. ShiftSized (roll-Shift z)) is (shift_sized y.first y.rest))
    (λ x y is. subst (λ z. SumSized (roll-Sum z)) is (sum_sized y.first y.rest))
    (λ x y is. subst (λ z. UnarySized (roll-Unary z)) is (unary_sized y.operator y.operand.0 y.operand.1))
