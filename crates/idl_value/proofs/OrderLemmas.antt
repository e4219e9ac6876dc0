-- The faults of an expression are in the order of their tokens.
use Rattle.std.proofs.Common.{◌≡◌, ℕ, ◌+◌, ◌^◌, ◌<◌, ◌≤◌, List, [], ◌∷◌, ◌++◌, Option, None, Some, Result, Ok, Err, length, true, false, if◌then◌else◌, arith, subst}
use Rattle.idl_tree.specs.Expression.{spell_expression, spell_literal}
use Rattle.idl_tree.specs.declared.expression.Expression.{Expression}
use Rattle.idl_tree.specs.declared.expression.UnaryOperator.{UnaryOperator}
use Rattle.idl_value.specs.Evaluation.{Evaluation, Faulty, Operands, Read, Valued, admitted, ahead, at_token, behind, combined, fault, faults_of, in_target, is_held, literal_value, named, operand_at, operated, read_links, read_operator, read_term, signed_at, signed_value, start, value_of}
use Rattle.idl_value.specs.Order.{IsAscending}
use Rattle.idl_value.specs.Term.{Term, Named, Literally, Parenthesised, Signed, Chain, Links, End, Link, expression_term}
use Rattle.idl_value.specs.declared.operator.BinaryOperator.{BinaryOperator}
use Rattle.idl_value.specs.declared.outcome.ValueCode.{ValueCode}
use Rattle.idl_value.specs.declared.outcome.ValueCode.TheVariants.{OutOfRange}
use Rattle.idl_value.specs.declared.outcome.ValueFault.{ValueFault}
use Rattle.idl_value.specs.declared.constant_type.ConstantType.{ConstantType}
use Rattle.idl_value.specs.declared.value.Value.{Value}
use Rattle.idl_value.specs.declared.walk.Passed.{Passed}
use Rattle.idl_value.proofs.SizeLemmas.{size, links_size, expression_term-size, literal-length}

earlier : (low from to : ℕ) (fs : List ValueFault) → low ≤ from → IsAscending from fs to → IsAscending low fs to
earlier low from to [] l h = omega (arith, l, h)
earlier low from to (f ∷ fs) l h = (omega (arith, l, h.0), h.1)

later : (from to high : ℕ) (fs : List ValueFault) → to ≤ high → IsAscending from fs to → IsAscending from fs high
later from to high [] l h = omega (arith, l, h)
later from to high (f ∷ fs) l h = (h.0, later (f.token + 1) to high fs l h.1)

joined : (from middle to : ℕ) (fs gs : List ValueFault) → IsAscending from fs middle → IsAscending middle gs to → IsAscending from (fs ++ gs) to
joined from middle to [] gs h k = earlier from middle to gs h k
joined from middle to (f ∷ fs) gs h k = (h.0, joined (f.token + 1) middle to fs gs h.1 k)

at-ascends : (from token to : ℕ) (r : Result Value ValueCode) → from ≤ token → token + 1 ≤ to → IsAscending from (faults_of (at_token token r)) to
at-ascends from token to (Ok v) h k = omega (arith, h, k)
at-ascends from token to (Err code) h k = (h, k)

named-ascends : (t : ConstantType) (from token to : ℕ) (v : Option Value) → from ≤ token → token + 1 ≤ to → IsAscending from (faults_of (named t token v)) to
named-ascends t from token to None h k = omega (arith, h, k)
named-ascends t from token to (Some v) h k = at-ascends from token to (admitted t v) h k

signed-ascends : (t : ConstantType) (token to : ℕ) (s : UnaryOperator) (a : Evaluation) → IsAscending (token + 1) (faults_of a) to → IsAscending token (faults_of (signed_at t token s a)) to
signed-ascends t token to s (Valued v) h = at-ascends token token to (signed_value t s v) (omega arith) h
signed-ascends t token to s (Faulty fs) h = earlier token (token + 1) to fs (omega arith) h

operated-ascends : (t : ConstantType) (from token to : ℕ) (o : BinaryOperator) (a b : Evaluation) → IsAscending from (faults_of a) token → IsAscending (token + 1) (faults_of b) to
    → IsAscending from (faults_of (operated t token o a b)) to
operated-ascends t from token to o (Valued v) (Valued w) h k = at-ascends from token to (combined t o v w) h k
operated-ascends t from token to o (Valued v) (Faulty gs) h k = earlier from (token + 1) to gs (omega (arith, h)) k
operated-ascends t from token to o (Faulty fs) (Valued w) h k = later from token to fs (omega (arith, k)) h
operated-ascends t from token to o (Faulty fs) (Faulty gs) h k = joined from token to fs gs h (earlier token (token + 1) to gs (omega arith) k)

-- the numbers that there are
abbrev pub Below : ℕ → Type 0
Below n = n < 2 ^ 64

-- a term has its tokens
mutual
  pub read-token : (t : ConstantType) (os : Operands) (p : Passed) (e : Term) → Below (p.token + size e) → (read_term t os p e).place.token ≡ p.token + size e
  read-token t os p (Named before) h = omega (arith, h)
  read-token t os p (Literally l) h = omega (arith, h)
  read-token t os p (Parenthesised e) h = let g = read-token t os (behind p 1 0) e (omega (arith, h)) in omega (arith, h, g)
  read-token t os p (Signed s e) h = let g = read-token t os (behind p 1 0) e (omega (arith, h)) in omega (arith, h, g)
  read-token t os p (Chain e ls) h =
      let g = read-token t os p e (omega (arith, h)) in
      let k = links-token t os (read_term t os p e) ls (omega (arith, h, g)) in
      omega (arith, h, g, k)

  pub links-token : (t : ConstantType) (os : Operands) (left : Read) (ls : Links) → Below (left.place.token + links_size ls)
      → (read_links t os left ls).place.token ≡ left.place.token + links_size ls
  links-token t os left End h = omega arith
  links-token t os left (Link o e ls) h =
      let g = read-token t os (behind left.place 1 0) e (omega (arith, h)) in
      let k = links-token t os (read_operator t o left (read_term t os (behind left.place 1 0) e)) ls (omega (arith, h, g)) in
      omega (arith, h, g, k)

mutual
  pub read-ascends : (t : ConstantType) (os : Operands) (p : Passed) (e : Term) → Below (p.token + size e)
      → IsAscending p.token (faults_of (read_term t os p e).evaluation) (read_term t os p e).place.token
  read-ascends t os p (Named before) h =
      named-ascends t p.token (ahead p.token before) (ahead (ahead p.token before) 1) (operand_at os p.name) (omega (arith, h)) (omega (arith, h))
  read-ascends t os p (Literally l) h =
      let one = literal-length l in
      at-ascends p.token p.token (ahead p.token (length (spell_literal l))) (admitted t (literal_value l)) (omega arith) (omega (arith, one, h))
  read-ascends t os p (Parenthesised e) h =
      let q = behind p 1 0 in
      let r = read_term t os q e in
      let g = read-token t os q e (omega (arith, h)) in
      earlier p.token q.token (ahead r.place.token 1) (faults_of r.evaluation) (omega (arith, h))
      (later q.token r.place.token (ahead r.place.token 1) (faults_of r.evaluation) (omega (arith, h, g)) (read-ascends t os q e (omega (arith, h))))
  read-ascends t os p (Signed s e) h =
      let q = behind p 1 0 in
      let r = read_term t os q e in
      signed-ascends t p.token r.place.token s r.evaluation
      (earlier (p.token + 1) q.token r.place.token (faults_of r.evaluation) (omega (arith, h)) (read-ascends t os q e (omega (arith, h))))
  read-ascends t os p (Chain e ls) h =
      let g = read-token t os p e (omega (arith, h)) in
      links-ascend t os p.token (read_term t os p e) ls (omega (arith, h, g)) (read-ascends t os p e (omega (arith, h)))

  links-ascend : (t : ConstantType) (os : Operands) (from : ℕ) (left : Read) (ls : Links) → Below (left.place.token + links_size ls)
      → IsAscending from (faults_of left.evaluation) left.place.token
      → IsAscending from (faults_of (read_links t os left ls).evaluation) (read_links t os left ls).place.token
  links-ascend t os from left End h k = k
  links-ascend t os from left (Link o e ls) h k =
      let q = behind left.place 1 0 in
      let r = read_term t os q e in
      let g = read-token t os q e (omega (arith, h)) in
      links-ascend t os from (read_operator t o left r) ls (omega (arith, h, g))
      (operated-ascends t from left.place.token r.place.token o left.evaluation r.evaluation k
      (earlier (left.place.token + 1) q.token r.place.token (faults_of r.evaluation) (omega (arith, h)) (read-ascends t os q e (omega (arith, h)))))

-- a value out of range is the only fault
target-ascends : (t : ConstantType) (to : ℕ) (a : Evaluation) → 1 ≤ to → IsAscending 0 (faults_of a) to → IsAscending 0 (faults_of (in_target t a)) to
target-ascends t to (Valued v) l h =
    elim (is_held t v) as (λ b. IsAscending 0 (faults_of (if b then Valued v else Faulty (fault 0 OutOfRange ∷ []))) to) [ true ↦ omega arith | false ↦ (omega arith, l) ]
target-ascends t to (Faulty fs) l h = h

size-positive : (e : Term) → 1 ≤ size e
size-positive (Literally l) = literal-length l
size-positive (Chain e ls) = let h = size-positive e in omega (arith, h)
size-positive other = omega arith

pub value-tokens : (t : ConstantType) (os : Operands) (e : Expression) → length (spell_expression e) < 2 ^ 64
    → (read_term t os start (expression_term e)).place.token ≡ length (spell_expression e)
value-tokens t os e h =
    let s = expression_term-size e in
    let k = read-token t os start (expression_term e) (omega (arith, h, s)) in
    omega (arith, s, k)

pub value-ascends : (t : ConstantType) (os : Operands) (e : Expression) → length (spell_expression e) < 2 ^ 64
    → IsAscending 0 (faults_of (value_of t os e)) (length (spell_expression e))
unfolding value_of
value-ascends t os e h =
    let x = expression_term e in
    let r = read_term t os start x in
    let s = expression_term-size e in
    let end = value-tokens t os e h in
    let z = size-positive x in
    subst (λ n. IsAscending 0 (faults_of (in_target t r.evaluation)) n) end
    (target-ascends t r.place.token r.evaluation (omega (arith, end, s, z)) (read-ascends t os start x (omega (arith, h, s))))
