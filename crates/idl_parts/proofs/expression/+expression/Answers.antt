use Rattle.std.proofs.Common.{[], ◌∷◌, ◌++◌, ℕ, ap, arith, get_or, length, refl, subst, ◌≡◌}
use Rattle.std.proofs.lemmas.Grind.{common_steps}
use Rattle.idl_lex.specs.declared.kinds.mark.Mark.TheVariants.{Ampersand, Bar, Caret, OpenParenthesis, CloseParenthesis}
use Rattle.idl_parts.specs.ExpressionParts.{and_parts, exclusive_or_parts, expression_parts, operator_parts, primary_parts, product_parts, shift_parts, sum_parts, unary_parts}
use Rattle.idl_parts.specs.Item.{Pushes}
use Rattle.idl_parts.specs.Part.{Plain, Uses, punctuation}
use Rattle.idl_parts.specs.declared.part.UnitPart.TheVariants.{Tokens}
use Rattle.idl_parts.specs.declared.part.Use.TheVariants.{AsOperand}
use Rattle.idl_tree.specs.Expression.{product_mark, shift_mark, spell_literal, sum_mark}
use Rattle.idl_tree.specs.declared.expression.And.{out-And}
use Rattle.idl_tree.specs.declared.expression.ExclusiveOr.{out-ExclusiveOr}
use Rattle.idl_tree.specs.declared.expression.Expression.{out-Expression}
use Rattle.idl_tree.specs.declared.expression.Product.{out-Product}
use Rattle.idl_tree.specs.declared.expression.Shift.{out-Shift}
use Rattle.idl_tree.specs.declared.expression.Sum.{out-Sum}
use Rattle.idl_parts.proofs.ExpressionEquations.{and_parts-out, exclusive_or_parts-out, expression_parts-out, primary_parts-literal, primary_parts-name, primary_parts-parentheses, product_parts-out, shift_parts-out, sum_parts-out, unary_parts-out}
use Rattle.idl_parts.proofs.PushLemmas.{pushes-append, pushes-end, pushes-one, pushes-turn}
use Rattle.idl_parts.proofs.expression.+expression.Goals as goal

pub push_primary-returns-in_ok-push-in-Parentheses-2 :
    goal.push_primary-returns-in_ok-push-in-Parentheses-2
push_primary-returns-in_ok-push-in-Parentheses-2 t c =
    let a = c.args.sites.now.items in
    let b = c.push-in-Parentheses.new.self.items in
    let m = c.push_expression.new.sites.items in
    let z = c.push-in-Parentheses-2.new.self.items in
    let inner = c.in-Parentheses.inner in
    let h : Pushes b m (expression_parts c.get.result.now) = c.in_ok-push_expression-in-Parentheses.ensures in
    rw (c.in-Parentheses.is, primary_parts-parentheses)
    (pushes-append a b z (punctuation OpenParenthesis ∷ []) (expression_parts inner ++ punctuation CloseParenthesis ∷ [])
    (pushes-one a b (Tokens 1) (punctuation OpenParenthesis) c.in_ok-push-in-Parentheses.ensures.items refl)
    (pushes-append b m z (expression_parts inner) (punctuation CloseParenthesis ∷ [])
    (subst (λ e. Pushes b m (expression_parts e)) c.get.ensures h)
    (pushes-one m z (Tokens 1) (punctuation CloseParenthesis) c.in_ok-push-in-Parentheses-2.ensures.items refl)))

pub push_unary-returns : goal.push_unary-returns
push_unary-returns t c =
    let a = c.args.sites.now.items in
    let m = c.push_operator.new.sites.items in
    let z = c.push_primary.new.sites.items in
    rw unary_parts-out (pushes-append a m z (operator_parts c.args.unary.now.operator) (primary_parts c.args.unary.now.operand) c.in_ok-push_operator.ensures c.in_ok-push_primary.ensures)

pub push_expression-returns : goal.push_expression-returns
push_expression-returns t c =
    let x = out-Expression c.args.expression.now in
    let same : c.as_slice-operand-items.result.now ≡ x.rest = c.as_slice-operand-items.ensures in
    let long = ap length same in
    rw expression_parts-out
    (pushes-end (λ operand. punctuation Bar ∷ exclusive_or_parts operand) x.rest c.loop-operand.operand-index c.args.sites.now.items c.loop-operand.sites.items (exclusive_or_parts x.first) (omega arith) c.loop-operand.invariant)

pub push_exclusive_or-returns : goal.push_exclusive_or-returns
push_exclusive_or-returns t c =
    let x = out-ExclusiveOr c.args.exclusive_or.now in
    let same : c.as_slice-operand-items.result.now ≡ x.rest = c.as_slice-operand-items.ensures in
    let long = ap length same in
    rw exclusive_or_parts-out
    (pushes-end (λ operand. punctuation Caret ∷ and_parts operand) x.rest c.loop-operand.operand-index c.args.sites.now.items c.loop-operand.sites.items (and_parts x.first) (omega arith) c.loop-operand.invariant)

pub push_and-returns : goal.push_and-returns
push_and-returns t c =
    let x = out-And c.args.and.now in
    let same : c.as_slice-operand-items.result.now ≡ x.rest = c.as_slice-operand-items.ensures in
    let long = ap length same in
    rw and_parts-out
    (pushes-end (λ operand. punctuation Ampersand ∷ shift_parts operand) x.rest c.loop-operand.operand-index c.args.sites.now.items c.loop-operand.sites.items (shift_parts x.first) (omega arith) c.loop-operand.invariant)

pub push_shift-returns : goal.push_shift-returns
push_shift-returns t c =
    let x = out-Shift c.args.shift.now in
    let same : c.as_slice-operator-items.result.now ≡ x.rest = c.as_slice-operator-items.ensures in
    let long = ap length same in
    rw shift_parts-out
    (pushes-end (λ s. punctuation (shift_mark s.0) ∷ sum_parts s.1) x.rest c.loop-operator._operator-index c.args.sites.now.items c.loop-operator.sites.items (sum_parts x.first) (omega arith) c.loop-operator.invariant)

pub push_shift-loop-operator-preserved : goal.push_shift-loop-operator-preserved
push_shift-loop-operator-preserved t c =
    let x = out-Shift c.args.shift.now in
    let same : c.as_slice-operator-items.result.now ≡ x.rest = c.as_slice-operator-items.ensures in
    let long = ap length same in
    let item = c.loop-operator-item.result in
    let b = c.loop-operator.sites.items in
    let m = c.push.new.self.items in
    let z = c.push_sum-in-loop-operator.new.sites.items in
    pushes-turn (λ s. punctuation (shift_mark s.0) ∷ sum_parts s.1) x.rest c.loop-operator._operator-index item c.args.sites.now.items b z (sum_parts x.first) (omega arith)
    (subst (λ xs. item ≡ get_or xs c.loop-operator._operator-index item) same c.loop-operator-item.is)
    c.loop-operator.invariant
    (pushes-append b m z (punctuation (shift_mark item.0) ∷ []) (sum_parts item.1) (pushes-one b m (Tokens 1) (punctuation (shift_mark item.0)) c.in_ok-push.ensures.items refl) c.in_ok-push_sum-2.ensures)

pub push_sum-returns : goal.push_sum-returns
push_sum-returns t c =
    let x = out-Sum c.args.sum.now in
    let same : c.as_slice-operator-items.result.now ≡ x.rest = c.as_slice-operator-items.ensures in
    let long = ap length same in
    rw sum_parts-out
    (pushes-end (λ s. punctuation (sum_mark s.0) ∷ product_parts s.1) x.rest c.loop-operator._operator-index c.args.sites.now.items c.loop-operator.sites.items (product_parts x.first) (omega arith) c.loop-operator.invariant)

pub push_sum-loop-operator-preserved : goal.push_sum-loop-operator-preserved
push_sum-loop-operator-preserved t c =
    let x = out-Sum c.args.sum.now in
    let same : c.as_slice-operator-items.result.now ≡ x.rest = c.as_slice-operator-items.ensures in
    let long = ap length same in
    let item = c.loop-operator-item.result in
    let b = c.loop-operator.sites.items in
    let m = c.push.new.self.items in
    let z = c.push_product-in-loop-operator.new.sites.items in
    pushes-turn (λ s. punctuation (sum_mark s.0) ∷ product_parts s.1) x.rest c.loop-operator._operator-index item c.args.sites.now.items b z (product_parts x.first) (omega arith)
    (subst (λ xs. item ≡ get_or xs c.loop-operator._operator-index item) same c.loop-operator-item.is)
    c.loop-operator.invariant
    (pushes-append b m z (punctuation (sum_mark item.0) ∷ []) (product_parts item.1) (pushes-one b m (Tokens 1) (punctuation (sum_mark item.0)) c.in_ok-push.ensures.items refl) c.in_ok-push_product-2.ensures)

pub push_product-returns : goal.push_product-returns
push_product-returns t c =
    let x = out-Product c.args.product.now in
    let same : c.as_slice-operator-items.result.now ≡ x.rest = c.as_slice-operator-items.ensures in
    let long = ap length same in
    rw product_parts-out
    (pushes-end (λ s. punctuation (product_mark s.0) ∷ unary_parts s.1) x.rest c.loop-operator._operator-index c.args.sites.now.items c.loop-operator.sites.items (unary_parts x.first) (omega arith) c.loop-operator.invariant)

pub push_product-loop-operator-preserved : goal.push_product-loop-operator-preserved
push_product-loop-operator-preserved t c =
    let x = out-Product c.args.product.now in
    let same : c.as_slice-operator-items.result.now ≡ x.rest = c.as_slice-operator-items.ensures in
    let long = ap length same in
    let item = c.loop-operator-item.result in
    let b = c.loop-operator.sites.items in
    let m = c.push.new.self.items in
    let z = c.push_unary-in-loop-operator.new.sites.items in
    pushes-turn (λ s. punctuation (product_mark s.0) ∷ unary_parts s.1) x.rest c.loop-operator._operator-index item c.args.sites.now.items b z (unary_parts x.first) (omega arith)
    (subst (λ xs. item ≡ get_or xs c.loop-operator._operator-index item) same c.loop-operator-item.is)
    c.loop-operator.invariant
    (pushes-append b m z (punctuation (product_mark item.0) ∷ []) (unary_parts item.1) (pushes-one b m (Tokens 1) (punctuation (product_mark item.0)) c.in_ok-push.ensures.items refl) c.in_ok-push_unary-2.ensures)

pub push_expression-loop-operand-preserved : goal.push_expression-loop-operand-preserved
unfolding expression_parts
push_expression-loop-operand-preserved t c = grind (arith, common_steps)

pub push_exclusive_or-loop-operand-preserved : goal.push_exclusive_or-loop-operand-preserved
unfolding exclusive_or_parts
push_exclusive_or-loop-operand-preserved t c = grind (arith, common_steps)

pub push_and-loop-operand-preserved : goal.push_and-loop-operand-preserved
unfolding and_parts
push_and-loop-operand-preserved t c = grind (arith, common_steps)

pub push_primary-returns-in_ok-push-in-Name : goal.push_primary-returns-in_ok-push-in-Name
push_primary-returns-in_ok-push-in-Name t c =
    rw (c.in-Name.is, primary_parts-name) (pushes-one _ _ _ (Uses AsOperand c.in-Name.name) c.in_ok-push-in-Name.ensures.items refl)

pub push_primary-returns-in_ok-push-in-Literal : goal.push_primary-returns-in_ok-push-in-Literal
push_primary-returns-in_ok-push-in-Literal t c =
    rw (c.in-Literal.is, primary_parts-literal)
    (pushes-one _ _ _ (Plain (spell_literal c.in-Literal.literal)) c.in_ok-push-in-Literal.ensures.items (ap (λ (n : ℕ). Plain n) c.literal_len.ensures))
