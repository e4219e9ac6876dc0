-- A walk from the left comes to the first fault, and to the value.
use Rattle.std.proofs.Common.{◌≡◌, ◌∙◌, ℕ, ◌≤◌, suc, [], ◌∷◌, Option, None, Some, Result, Ok, Err, length, zero, pos, negsuc, true, false, if◌then◌else◌, refl, ap, arith}
use Rattle.idl_tree.specs.Expression.{spell_literal}
use Rattle.idl_tree.specs.declared.expression.Expression.{Expression}
use Rattle.idl_tree.specs.declared.expression.UnaryOperator.{UnaryOperator}
use Rattle.idl_value.specs.Evaluation.{Evaluation, Faulty, Operands, Read, Valued, admitted, ahead, at_token, behind, bound_of, fault, first_of, in_target, is_held, positive, start, value_of, literal_value, named, operand_at, operated, read_links, read_operator, read_term, signed_at}
use Rattle.idl_value.specs.Term.{Term, Named, Literally, Parenthesised, Signed, Chain, Links, End, Link, expression_term}
use Rattle.idl_value.specs.Walk.{Walked, held_outcome, named_outcome, positive_outcome, operated_outcome, outcome_at, signed_outcome, walk_links, walk_operator, walk_parenthesis, walk_sign, walk_term}
use Rattle.idl_value.specs.declared.operator.BinaryOperator.{BinaryOperator}
use Rattle.idl_value.specs.declared.integer.IntegerKind.TheVariants.{UnsignedLong}
use Rattle.idl_value.specs.declared.outcome.ValueCode.{ValueCode}
use Rattle.idl_value.specs.declared.outcome.ValueCode.TheVariants.{OutOfRange}
use Rattle.idl_value.specs.declared.outcome.Outcome.TheVariants as outcome
use Rattle.idl_value.specs.declared.constant_type.ConstantType.{ConstantType}
use Rattle.idl_value.specs.declared.constant_type.ConstantType.TheVariants as target
use Rattle.idl_value.specs.declared.value.Value.{Value}
use Rattle.idl_value.specs.declared.value.Value.TheVariants as value
use Rattle.idl_value.specs.declared.walk.Passed.{Passed}

-- what is told, and the place
abbrev pub first_read : Read → Walked
first_read r = record { outcome = first_of r.evaluation; place = r.place }

outcome-first : (token : ℕ) (r : Result Value ValueCode) → outcome_at token r ≡ first_of (at_token token r)
outcome-first token (Ok v) = refl
outcome-first token (Err code) = refl

named-first : (t : ConstantType) (token : ℕ) (v : Option Value) → named_outcome t token v ≡ first_of (named t token v)
named-first t token None = refl
named-first t token (Some v) = outcome-first token (admitted t v)

signed-first : (t : ConstantType) (token : ℕ) (s : UnaryOperator) (a : Evaluation) → signed_outcome t token s (first_of a) ≡ first_of (signed_at t token s a)
signed-first t token s (Valued v) = outcome-first token _
signed-first t token s (Faulty []) = refl
signed-first t token s (Faulty (f ∷ fs)) = refl

operated-first : (t : ConstantType) (token : ℕ) (o : BinaryOperator) (a b : Evaluation) → operated_outcome t token o (first_of a) (first_of b) ≡ first_of (operated t token o a b)
operated-first t token o (Valued v) (Valued w) = outcome-first token _
operated-first t token o (Valued v) (Faulty []) = refl
operated-first t token o (Valued v) (Faulty (g ∷ gs)) = refl
operated-first t token o (Faulty []) (Valued w) = refl
operated-first t token o (Faulty (f ∷ fs)) (Valued w) = refl
operated-first t token o (Faulty []) (Faulty []) = refl
operated-first t token o (Faulty []) (Faulty (g ∷ gs)) = refl
operated-first t token o (Faulty (f ∷ fs)) (Faulty gs) = refl

-- a walk comes to the first fault
mutual
  pub walk-read : (t : ConstantType) (os : Operands) (p : Passed) (e : Term) → walk_term t os p e ≡ first_read (read_term t os p e)
  walk-read t os p (Named before) =
      let o = named-first t (ahead p.token before) (operand_at os p.name) in
      λ i. record { outcome = o i; place = behind (behind p before 0) 1 1 }
  walk-read t os p (Literally l) =
      let o = outcome-first p.token (admitted t (literal_value l)) in
      λ i. record { outcome = o i; place = behind p (length (spell_literal l)) 0 }
  walk-read t os p (Parenthesised e) = ap walk_parenthesis (walk-read t os (behind p 1 0) e)
  walk-read t os p (Signed s e) =
      let r = read_term t os (behind p 1 0) e in
      let o = signed-first t p.token s r.evaluation in
      ap (walk_sign t p.token s) (walk-read t os (behind p 1 0) e) ∙ (λ i. record { outcome = o i; place = r.place })
  walk-read t os p (Chain e ls) =
      ap (λ left. walk_links t os left ls) (walk-read t os p e) ∙ walk-links t os (read_term t os p e) ls

  walk-links : (t : ConstantType) (os : Operands) (left : Read) (ls : Links) → walk_links t os (first_read left) ls ≡ first_read (read_links t os left ls)
  walk-links t os left End = refl
  walk-links t os left (Link op e ls) =
      let right = read_term t os (behind left.place 1 0) e in
      let o = operated-first t left.place.token op left.evaluation right.evaluation in
      let both : walk_operator t op (first_read left) (walk_term t os (behind left.place 1 0) e) ≡ first_read (read_operator t op left right) =
      ap (walk_operator t op (first_read left)) (walk-read t os (behind left.place 1 0) e) ∙ (λ i. record { outcome = o i; place = right.place }) in
      ap (λ w. walk_links t os w ls) both ∙ walk-links t os (read_operator t op left right) ls

pub ahead_none : (n : ℕ) → n ≤ 18446744073709551615 → ahead n 0 ≡ n
ahead_none n h = omega arith

held-first : (t : ConstantType) (a : Evaluation) → held_outcome t (first_of a) ≡ first_of (in_target t a)
held-first t (Valued v) =
    elim (is_held t v) as (λ b. (if b then outcome.Value v else outcome.Fault (fault 0 OutOfRange)) ≡ first_of (if b then Valued v else Faulty (fault 0 OutOfRange ∷ []))) [ true ↦ refl | false ↦ refl ]
held-first t (Faulty []) = refl
held-first t (Faulty (f ∷ fs)) = refl

positive-first : (a : Evaluation) → positive_outcome (first_of a) ≡ first_of (positive a)
positive-first (Valued (value.Integer (pos zero))) = refl
positive-first (Valued (value.Integer (pos (suc n)))) = refl
positive-first (Valued (value.Integer (negsuc n))) = refl
positive-first (Valued (value.Boolean b)) = refl
positive-first (Valued (value.Character c)) = refl
positive-first (Valued (value.WideCharacter c)) = refl
positive-first (Valued (value.Text s)) = refl
positive-first (Valued (value.WideText s)) = refl
positive-first (Valued (value.Enumerator p n)) = refl
positive-first (Faulty []) = refl
positive-first (Faulty (f ∷ fs)) = refl

-- what is told of a whole expression
pub walk-value : (t : ConstantType) (os : Operands) (e : Expression) → held_outcome t (walk_term t os start (expression_term e)).outcome ≡ first_of (value_of t os e)
unfolding value_of
walk-value t os e =
    ap (λ w. held_outcome t w.outcome) (walk-read t os start (expression_term e))
    ∙ held-first t (read_term t os start (expression_term e)).evaluation

pub walk-bound : (os : Operands) (e : Expression) → positive_outcome (first_of (value_of (target.Integer UnsignedLong) os e)) ≡ first_of (bound_of os e)
unfolding bound_of
walk-bound os e = positive-first (value_of (target.Integer UnsignedLong) os e)
