-- Where each name has a value, an expression has a value or a fault.
use Rattle.std.proofs.Common.{◌≡◌, ℕ, ◌+◌, ◌≤◌, pos, negsuc, zero, suc, Bool, true, false, [], ◌∷◌, Option, None, Some, Result, Ok, Err, length, if◌then◌else◌, refl, arith}
use Rattle.std.proofs.lemmas.List.Elements.{All-get_or}
use Rattle.std.specs.Option.{IsSome}
use Rattle.std.specs.Prelude.{◌≢◌, All}
use Rattle.idl_tree.specs.declared.expression.Expression.{Expression}
use Rattle.idl_tree.specs.declared.expression.UnaryOperator.{UnaryOperator}
use Rattle.idl_value.specs.Evaluation.{Evaluation, Faulty, Operands, Read, Valued, admitted, ahead, at_token, behind, bound_of, combined, fault, in_target, is_held, literal_value, named, operand_at, operated, positive, read_links, read_operator, read_term, signed_at, signed_value, start, value_of}
use Rattle.idl_value.specs.Names.{AreGiven, links_names, term_names}
use Rattle.idl_value.specs.Term.{Term, Named, Literally, Parenthesised, Signed, Chain, Links, End, Link, expression_term}
use Rattle.idl_value.specs.declared.integer.IntegerKind.TheVariants.{UnsignedLong}
use Rattle.idl_value.specs.declared.operator.BinaryOperator.{BinaryOperator}
use Rattle.idl_value.specs.declared.outcome.ValueCode.{ValueCode}
use Rattle.idl_value.specs.declared.outcome.ValueCode.TheVariants.{OutOfRange}
use Rattle.idl_value.specs.declared.constant_type.ConstantType.{ConstantType}
use Rattle.idl_value.specs.declared.constant_type.ConstantType.TheVariants as target
use Rattle.idl_value.specs.declared.value.Value.{Value}
use Rattle.idl_value.specs.declared.value.Value.TheVariants as value
use Rattle.idl_value.specs.declared.walk.Passed.{Passed}

-- a value, or a fault at least
abbrev is_decided : Evaluation → Bool
is_decided (Valued v) = true
is_decided (Faulty []) = false
is_decided (Faulty (f ∷ fs)) = true

abbrev IsDecided : Evaluation → Type 0
IsDecided a = is_decided a ≡ true

not-open : (a : Evaluation) → IsDecided a → a ≢ Faulty []
not-open (Valued v) h = λ e. cc
not-open (Faulty []) h = cc
not-open (Faulty (f ∷ fs)) h = λ e. cc

-- ---- the parts

at-decided : (token : ℕ) (r : Result Value ValueCode) → IsDecided (at_token token r)
at-decided token (Ok v) = refl
at-decided token (Err code) = refl

named-decided : (t : ConstantType) (token : ℕ) (v : Option Value) → IsSome v → IsDecided (named t token v)
named-decided t token None h = cc
named-decided t token (Some v) h = at-decided token (admitted t v)

signed-decided : (t : ConstantType) (token : ℕ) (s : UnaryOperator) (a : Evaluation) → IsDecided a → IsDecided (signed_at t token s a)
signed-decided t token s (Valued v) h = at-decided token (signed_value t s v)
signed-decided t token s (Faulty fs) h = h

operated-decided : (t : ConstantType) (token : ℕ) (o : BinaryOperator) (a b : Evaluation) → IsDecided a → IsDecided b → IsDecided (operated t token o a b)
operated-decided t token o (Valued v) (Valued w) h k = at-decided token (combined t o v w)
operated-decided t token o (Valued v) (Faulty gs) h k = k
operated-decided t token o (Faulty fs) (Valued w) h k = h
operated-decided t token o (Faulty []) (Faulty gs) h k = cc
operated-decided t token o (Faulty (f ∷ fs)) (Faulty gs) h k = refl

-- ---- a term

-- no more names are counted than a term has
mutual
  read-names : (t : ConstantType) (os : Operands) (p : Passed) (e : Term) → (read_term t os p e).place.name ≤ p.name + term_names e
  read-names t os p (Named before) = omega arith
  read-names t os p (Literally l) = omega arith
  read-names t os p (Parenthesised e) = let g = read-names t os (behind p 1 0) e in omega (arith, g)
  read-names t os p (Signed s e) = let g = read-names t os (behind p 1 0) e in omega (arith, g)
  read-names t os p (Chain e ls) =
      let g = read-names t os p e in
      let k = links-names t os (read_term t os p e) ls in
      omega (arith, g, k)

  links-names : (t : ConstantType) (os : Operands) (left : Read) (ls : Links) → (read_links t os left ls).place.name ≤ left.place.name + links_names ls
  links-names t os left End = omega arith
  links-names t os left (Link o e ls) =
      let r = read_term t os (behind left.place 1 0) e in
      let g = read-names t os (behind left.place 1 0) e in
      let k = links-names t os (read_operator t o left r) ls in
      omega (arith, g, k)

-- a term from a place behind which there are operands enough
mutual
  read-decided : (t : ConstantType) (os : Operands) → All IsSome os → (p : Passed) (e : Term) → p.name + term_names e ≤ length os → IsDecided (read_term t os p e).evaluation
  read-decided t os all p (Named before) h =
      named-decided t (ahead p.token before) (operand_at os p.name) (All-get_or IsSome os p.name None (omega (arith, h)) all)
  read-decided t os all p (Literally l) h = at-decided p.token (admitted t (literal_value l))
  read-decided t os all p (Parenthesised e) h = read-decided t os all (behind p 1 0) e (omega (arith, h))
  read-decided t os all p (Signed s e) h =
      signed-decided t p.token s (read_term t os (behind p 1 0) e).evaluation (read-decided t os all (behind p 1 0) e (omega (arith, h)))
  read-decided t os all p (Chain e ls) h =
      let g = read-names t os p e in
      links-decided t os all (read_term t os p e) ls (omega (arith, g, h)) (read-decided t os all p e (omega (arith, h)))

  links-decided : (t : ConstantType) (os : Operands) → All IsSome os → (left : Read) (ls : Links) → left.place.name + links_names ls ≤ length os → IsDecided left.evaluation → IsDecided (read_links t os left ls).evaluation
  links-decided t os all left End h k = k
  links-decided t os all left (Link o e ls) h k =
      let q = behind left.place 1 0 in
      let r = read_term t os q e in
      let g = read-names t os q e in
      links-decided t os all (read_operator t o left r) ls (omega (arith, g, h))
      (operated-decided t left.place.token o left.evaluation r.evaluation k (read-decided t os all q e (omega (arith, h))))

-- ---- an expression

target-decided : (t : ConstantType) (a : Evaluation) → IsDecided a → IsDecided (in_target t a)
target-decided t (Valued v) h =
    elim (is_held t v) as (λ b. IsDecided (if b then Valued v else Faulty (fault 0 OutOfRange ∷ []))) [ true ↦ refl | false ↦ refl ]
target-decided t (Faulty fs) h = h

positive-decided : (a : Evaluation) → IsDecided a → IsDecided (positive a)
positive-decided (Valued (value.Integer (pos zero))) h = refl
positive-decided (Valued (value.Integer (pos (suc n)))) h = refl
positive-decided (Valued (value.Integer (negsuc n))) h = refl
positive-decided (Valued (value.Boolean b)) h = refl
positive-decided (Valued (value.Character c)) h = refl
positive-decided (Valued (value.WideCharacter c)) h = refl
positive-decided (Valued (value.Text s)) h = refl
positive-decided (Valued (value.WideText s)) h = refl
positive-decided (Valued (value.Enumerator p n)) h = refl
positive-decided (Faulty fs) h = h

value-decided : (t : ConstantType) (os : Operands) (e : Expression) → AreGiven os e → IsDecided (value_of t os e)
unfolding value_of
value-decided t os e given =
    let x = expression_term e in
    let k = given.enough in
    target-decided t (read_term t os start x).evaluation (read-decided t os given.values start x (omega (arith, k)))

pub value-open : (t : ConstantType) (os : Operands) (e : Expression) → AreGiven os e → value_of t os e ≢ Faulty []
value-open t os e given = not-open (value_of t os e) (value-decided t os e given)

pub bound-open : (os : Operands) (e : Expression) → AreGiven os e → bound_of os e ≢ Faulty []
unfolding bound_of
bound-open os e given =
    let a = value_of (target.Integer UnsignedLong) os e in
    not-open (positive a) (positive-decided a (value-decided (target.Integer UnsignedLong) os e given))
