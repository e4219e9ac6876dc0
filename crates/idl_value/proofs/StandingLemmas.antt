-- The faults of an expression stand at its operators, its literals and the last parts of its names.
use Rattle.std.proofs.Common.{◌≡◌, ◌∙◌, ℕ, ◌+◌, ◌*◌, ◌^◌, ◌<◌, Bool, true, false, List, [], ◌∷◌, ◌++◌, Option, None, Some, Result, Ok, Err, append_assoc, drop, flat_map, inl, inr, length, map, if◌then◌else◌, refl, sym, ap, subst, arith}
use Rattle.std.proofs.Math.Seq.{drop-append_seam}
use Rattle.std.proofs.lemmas.List.{append-nil, length-append}
use Rattle.std.proofs.lemmas.List.Elements.{All-append, All-cons, All-nil, All-weaker}
use Rattle.std.specs.Prelude.{◌⊎◌, All, not}
use Rattle.idl_tree.specs.idl_lex.declared.kinds.mark.Mark.{Mark}
use Rattle.idl_tree.specs.idl_lex.declared.kinds.mark.Mark.TheVariants as mark
use Rattle.idl_tree.proofs.Many.{many_spell}
use Rattle.idl_tree.proofs.SpellLemmas.{spell_and-made, spell_exclusive_or-made, spell_expression-made, spell_primary-literal, spell_primary-name, spell_primary-parentheses, spell_product-made, spell_shift-made, spell_sum-made, spell_unary-made}
use Rattle.idl_tree.specs.Expression.{product_mark, shift_mark, spell_and, spell_exclusive_or, spell_expression, spell_literal, spell_primary, spell_product, spell_shift, spell_sum, spell_unary, spell_unary_operator, sum_mark}
use Rattle.idl_tree.specs.Lexeme.{Lexemes, Word, Punctuation, Identifier, Integer, Character, WideCharacter, Text, WideText, Other}
use Rattle.idl_tree.specs.Name.{spell_leading, spell_name}
use Rattle.idl_tree.specs.reading.ReadExpression.{made_and, made_exclusive_or, made_expression, made_product, made_shift, made_sum, made_unary}
use Rattle.idl_tree.specs.declared.expression.And.{And, roll-And}
use Rattle.idl_tree.specs.declared.expression.ExclusiveOr.{ExclusiveOr, roll-ExclusiveOr}
use Rattle.idl_tree.specs.declared.expression.Expression.{Expression, roll-Expression}
use Rattle.idl_tree.specs.declared.expression.Primary.{Primary, roll-Primary}
use Rattle.idl_tree.specs.declared.expression.Primary.TheFolds.{ind-Expression, map-Primary}
use Rattle.idl_tree.specs.declared.expression.Primary.TheOpen.{Primary-F}
use Rattle.idl_tree.specs.declared.expression.Primary.TheVariants.{rolls-Literal, rolls-Name, rolls-Parentheses}
use Rattle.idl_tree.specs.declared.expression.Primary.TheVariants as primary
use Rattle.idl_tree.specs.declared.expression.Product.{Product, roll-Product}
use Rattle.idl_tree.specs.declared.expression.ProductOperator.{ProductOperator}
use Rattle.idl_tree.specs.declared.expression.ProductOperator.TheVariants as product
use Rattle.idl_tree.specs.declared.expression.Shift.{Shift, roll-Shift}
use Rattle.idl_tree.specs.declared.expression.ShiftOperator.{ShiftOperator}
use Rattle.idl_tree.specs.declared.expression.ShiftOperator.TheVariants as shift
use Rattle.idl_tree.specs.declared.expression.Sum.{Sum, roll-Sum}
use Rattle.idl_tree.specs.declared.expression.SumOperator.{SumOperator}
use Rattle.idl_tree.specs.declared.expression.SumOperator.TheVariants as sum
use Rattle.idl_tree.specs.declared.expression.Unary.{Unary, roll-Unary}
use Rattle.idl_tree.specs.declared.expression.UnaryOperator.{UnaryOperator}
use Rattle.idl_tree.specs.declared.expression.UnaryOperator.TheVariants as unary
use Rattle.idl_tree.specs.declared.literal.Literal.{Literal}
use Rattle.idl_tree.specs.declared.literal.Literal.TheVariants as literal
use Rattle.idl_tree.specs.declared.name.ScopedName.{ScopedName}
use Rattle.idl_value.specs.Evaluation.{Evaluation, Faulty, Operands, Read, Valued, admitted, ahead, at_token, behind, combined, fault, faults_of, in_target, is_held, literal_value, named, operand_at, operated, read_links, read_operator, read_term, signed_at, signed_value, start, value_of}
use Rattle.idl_value.specs.Standing.{bears, goes_on, is_colons, is_operator}
use Rattle.idl_value.specs.Term.{Term, Named, Literally, Parenthesised, Signed, Chain, Links, End, Link, and_term, before_last, exclusive_or_term, expression_term, leading, links, primary_term, product_operator, product_term, shift_operator, shift_term, signed, sum_operator, sum_term, unary_term}
use Rattle.idl_value.specs.declared.operator.BinaryOperator.{BinaryOperator}
use Rattle.idl_value.specs.declared.operator.BinaryOperator.TheVariants as operator
use Rattle.idl_value.specs.declared.outcome.ValueCode.{ValueCode}
use Rattle.idl_value.specs.declared.outcome.ValueCode.TheVariants.{OutOfRange}
use Rattle.idl_value.specs.declared.outcome.ValueFault.{ValueFault}
use Rattle.idl_value.specs.declared.constant_type.ConstantType.{ConstantType}
use Rattle.idl_value.specs.declared.value.Value.{Value}
use Rattle.idl_value.specs.declared.walk.Passed.{Passed}
use Rattle.idl_value.proofs.OrderLemmas.{Below, read-token}
use Rattle.idl_value.proofs.SizeLemmas.{links_size, name-length, size}
use Rattle.idl_value.proofs.TermEquations.{and_term-made, exclusive_or_term-made, expression_term-made, primary_term-literal, primary_term-name, primary_term-parentheses, product_term-made, shift_term-made, sum_term-made, unary_term-made}

-- ---- a place among lexemes

-- a fault stands at one of these that bears one, where the first has this number
record Borne (from : ℕ) (ls : Lexemes) (f : ValueFault) : Type 0 where
  front : Lexemes
  rest : Lexemes
  are : ls ≡ front ++ rest
  at : f.token ≡ from + length front
  bear : bears rest ≡ true

bears-more : (rest ys : Lexemes) → goes_on ys ≡ false → bears rest ≡ true → bears (rest ++ ys) ≡ true
bears-more [] ys h k = cc
bears-more (Identifier name ∷ []) ys h k = ap not h
bears-more (Identifier name ∷ Punctuation m ∷ rest) ys h k = k
bears-more (Identifier name ∷ Word w ∷ rest) ys h k = k
bears-more (Identifier name ∷ Identifier other ∷ rest) ys h k = k
bears-more (Identifier name ∷ Integer n ∷ rest) ys h k = k
bears-more (Identifier name ∷ Character c ∷ rest) ys h k = k
bears-more (Identifier name ∷ WideCharacter c ∷ rest) ys h k = k
bears-more (Identifier name ∷ Text s ∷ rest) ys h k = k
bears-more (Identifier name ∷ WideText s ∷ rest) ys h k = k
bears-more (Identifier name ∷ Other ∷ rest) ys h k = k
bears-more (Punctuation m ∷ rest) ys h k = k
bears-more (Word w ∷ rest) ys h k = k
bears-more (Integer n ∷ rest) ys h k = k
bears-more (Character c ∷ rest) ys h k = k
bears-more (WideCharacter c ∷ rest) ys h k = k
bears-more (Text s ∷ rest) ys h k = k
bears-more (WideText s ∷ rest) ys h k = k
bears-more (Other ∷ rest) ys h k = cc

-- with others behind, or before
borne-behind : (from : ℕ) (ls ys : Lexemes) → goes_on ys ≡ false → (f : ValueFault) → Borne from ls f → Borne from (ls ++ ys) f
borne-behind from ls ys h f b = record {
  front = b.front;
  rest = b.rest ++ ys;
  are = ap (λ (xs : Lexemes). xs ++ ys) b.are ∙ append_assoc b.front b.rest ys;
  at = b.at;
  bear = bears-more b.rest ys h b.bear;
}

borne-before : (from later : ℕ) (xs ls : Lexemes) → later ≡ from + length xs → (f : ValueFault) → Borne later ls f → Borne from (xs ++ ls) f
borne-before from later xs ls e f b = record {
  front = xs ++ b.front;
  rest = b.rest;
  are = ap (λ (ys : Lexemes). xs ++ ys) b.are ∙ sym (append_assoc xs b.front b.rest);
  at = let a = b.at in let n = length-append xs b.front in omega (arith, a, n, e);
  bear = b.bear;
}

all-behind : (from : ℕ) (ls ys : Lexemes) → goes_on ys ≡ false → (fs : List ValueFault) → All (Borne from ls) fs → All (Borne from (ls ++ ys)) fs
all-behind from ls ys h fs all = All-weaker (Borne from ls) (Borne from (ls ++ ys)) (borne-behind from ls ys h) fs all

all-before : (from later : ℕ) (xs ls : Lexemes) → later ≡ from + length xs → (fs : List ValueFault) → All (Borne later ls) fs → All (Borne from (xs ++ ls)) fs
all-before from later xs ls e fs all = All-weaker (Borne later ls) (Borne from (xs ++ ls)) (borne-before from later xs ls e) fs all

-- ---- what an operation comes to

at-borne : (from token : ℕ) (ls : Lexemes) (r : Result Value ValueCode) → ((c : ValueCode) → Borne from ls (fault token c)) → All (Borne from ls) (faults_of (at_token token r))
at-borne from token ls (Ok v) b = All-nil (Borne from ls)
at-borne from token ls (Err c) b = All-cons (Borne from ls) (fault token c) [] (b c) (All-nil (Borne from ls))

named-borne : (from token : ℕ) (ls : Lexemes) (t : ConstantType) (v : Option Value) → ((c : ValueCode) → Borne from ls (fault token c)) → All (Borne from ls) (faults_of (named t token v))
named-borne from token ls t None b = All-nil (Borne from ls)
named-borne from token ls t (Some v) b = at-borne from token ls (admitted t v) b

signed-borne : (from token : ℕ) (ls : Lexemes) (t : ConstantType) (s : UnaryOperator) (a : Evaluation) → ((c : ValueCode) → Borne from ls (fault token c)) → All (Borne from ls) (faults_of a)
    → All (Borne from ls) (faults_of (signed_at t token s a))
signed-borne from token ls t s (Valued v) b all = at-borne from token ls (signed_value t s v) b
signed-borne from token ls t s (Faulty fs) b all = all

operated-borne : (from token : ℕ) (ls : Lexemes) (t : ConstantType) (o : BinaryOperator) (a b : Evaluation) → ((c : ValueCode) → Borne from ls (fault token c)) → All (Borne from ls) (faults_of a) → All (Borne from ls) (faults_of b)
    → All (Borne from ls) (faults_of (operated t token o a b))
operated-borne from token ls t o (Valued v) (Valued w) k h g = at-borne from token ls (combined t o v w) k
operated-borne from token ls t o (Valued v) (Faulty gs) k h g = g
operated-borne from token ls t o (Faulty fs) (Valued w) k h g = h
operated-borne from token ls t o (Faulty fs) (Faulty gs) k h g = All-append (Borne from ls) fs gs h g

-- ---- terms, and how they are spelled

record Bears (e : Term) (ls : Lexemes) : Type 0 where
  sized : size e ≡ length ls
  faults : (t : ConstantType) (os : Operands) (p : Passed) → Below (p.token + length ls) → All (Borne p.token ls) (faults_of (read_term t os p e).evaluation)

record BearsLinks (ks : Links) (ls : Lexemes) : Type 0 where
  sized : links_size ks ≡ length ls
  ends : goes_on ls ≡ false
  faults : (t : ConstantType) (os : Operands) (left : Read) (from : ℕ) (front : Lexemes) → left.place.token ≡ from + length front → Below (from + length front + length ls)
      → All (Borne from front) (faults_of left.evaluation) → All (Borne from (front ++ ls)) (faults_of (read_links t os left ks).evaluation)

bears-end : BearsLinks End []
bears-end = record {
  sized = refl;
  ends = refl;
  faults = λ t os left from front at fits all. subst (λ xs. All (Borne from xs) (faults_of left.evaluation)) (sym (append-nil front)) all;
}

abbrev IsSign : Mark → Type 0
IsSign m = (is_operator m ≡ true) × (is_colons m ≡ false)

bears-link : (o : BinaryOperator) (m : Mark) (e : Term) (ls : Lexemes) (ks : Links) (more : Lexemes) → IsSign m → Bears e ls → BearsLinks ks more → BearsLinks (Link o e ks) ((Punctuation m ∷ ls) ++ more)
bears-link o m e ls ks more sign b bs = record {
  sized = let x = b.sized in let y = bs.sized in let n = length-append (Punctuation m ∷ ls) more in omega (arith, x, y, n);
  ends = sign.1;
  faults =
      λ t os left from front at fits all. (
      let n = length-append (Punctuation m ∷ ls) more in
      let q = behind left.place 1 0 in
      let r = read_term t os q e in
      let x = b.sized in
      let next : q.token ≡ from + length (front ++ Punctuation m ∷ []) = let l = length-append front (Punctuation m ∷ []) in omega (arith, at, fits, l, n) in
      let few : Below (q.token + length ls) = let l = length-append front (Punctuation m ∷ []) in omega (arith, next, fits, l, n) in
      let done : r.place.token ≡ q.token + size e = read-token t os q e (omega (arith, few, x)) in
      let with : Lexemes = front ++ Punctuation m ∷ ls in
      let w = length-append front (Punctuation m ∷ ls) in
      let here : (c : ValueCode) → Borne from with (fault left.place.token c) = λ c. record { front = front; rest = Punctuation m ∷ ls; are = refl; at = at; bear = sign.0 } in
      let right : All (Borne from with) (faults_of r.evaluation) =
      subst (λ xs. All (Borne from xs) (faults_of r.evaluation)) (append_assoc front (Punctuation m ∷ []) ls) (all-before from q.token (front ++ Punctuation m ∷ []) ls next (faults_of r.evaluation) (b.faults t os q few)) in
      let both = operated-borne from left.place.token with t o left.evaluation r.evaluation here (all-behind from front (Punctuation m ∷ ls) sign.1 (faults_of left.evaluation) all) right in
      subst (λ xs. All (Borne from xs) (faults_of (read_links t os (read_operator t o left r) ks).evaluation)) (append_assoc front (Punctuation m ∷ ls) more)
      (bs.faults t os (read_operator t o left r) from with (let l = length-append front (Punctuation m ∷ []) in omega (arith, done, next, x, w, l)) (omega (arith, fits, n, w)) both));
}

bears-chain : (e : Term) (ks : Links) (a b : Lexemes) → Bears e a → BearsLinks ks b → Bears (Chain e ks) (a ++ b)
bears-chain e ks a b h k = record {
  sized = let x = h.sized in let y = k.sized in let n = length-append a b in omega (arith, x, y, n);
  faults =
      λ t os p fits.
      let n = length-append a b in
      let x = h.sized in
      k.faults t os (read_term t os p e) p.token a (read-token t os p e (omega (arith, fits, n, x)) ∙ ap (λ k. p.token + k) x) (omega (arith, fits, n)) (h.faults t os p (omega (arith, fits, n)));
}

-- operands behind operators
bears-many : {S Y : Type 0} (op : Y → BinaryOperator) (term : Y → Term) (m : Y → Mark) (spell : Y → Lexemes) (v : S → Y) → ((y : Y) → IsSign (m y)) → ((s : S) → Bears (term (v s)) (spell (v s))) → (xs : List S)
    → BearsLinks (links op term (map v xs)) (many_spell (λ y. Punctuation (m y) ∷ spell y) (map v xs))
bears-many op term m spell v sign h [] = bears-end
bears-many op term m spell v sign h (x ∷ xs) =
    bears-link (op (v x)) (m (v x)) (term (v x)) (spell (v x)) (links op term (map v xs)) (many_spell (λ y. Punctuation (m y) ∷ spell y) (map v xs)) (sign (v x)) (h x) (bears-many op term m spell v sign h xs)

bears-rank : {S Y : Type 0} (t e : Term) (whole first : Lexemes) (op : Y → BinaryOperator) (term : Y → Term) (m : Y → Mark) (spell : Y → Lexemes) (v : S → Y) → ((y : Y) → IsSign (m y))
    → ((s : S) → Bears (term (v s)) (spell (v s))) → (xs : List S) → t ≡ Chain e (links op term (map v xs)) → whole ≡ first ++ many_spell (λ y. Punctuation (m y) ∷ spell y) (map v xs) → Bears e first → Bears t whole
bears-rank t e whole first op term m spell v sign h xs made is b =
    let ks = links op term (map v xs) in
    let more = many_spell (λ y. Punctuation (m y) ∷ spell y) (map v xs) in
    subst (λ u. Bears u whole) (sym made) (subst (Bears (Chain e ks)) (sym is) (bears-chain e ks first more b (bears-many op term m spell v sign h xs)))

-- ---- primaries

-- a name is its last part behind others
record Split (ls : Lexemes) (n : ℕ) : Type 0 where
  front : Lexemes
  last : List ℕ
  are : ls ≡ front ++ Identifier last ∷ []
  count : length front ≡ n

abbrev parts_of : List (List ℕ) → Lexemes
parts_of parts = flat_map (λ part. Punctuation mark.ColonColon ∷ Identifier part ∷ []) parts

split : (front : Lexemes) (x : List ℕ) (parts : List (List ℕ)) → Split (front ++ Identifier x ∷ parts_of parts) (length front + 2 * length parts)
split front x [] = record { front = front; last = x; are = refl; count = omega arith }
split front x (y ∷ parts) =
    let head : Lexemes = Identifier x ∷ Punctuation mark.ColonColon ∷ [] in
    let s = split (front ++ head) y parts in
    let n = length-append front head in
    let c = s.count in
    record {
      front = s.front;
      last = s.last;
      are = sym (append_assoc front head (Identifier y ∷ parts_of parts)) ∙ s.are;
      count = omega (arith, c, n);
    }

leading-length : (b : Bool) → length (spell_leading b) ≡ leading b
leading-length true = refl
leading-length false = refl

bears-name : (n : ScopedName) → Bears (Named (before_last n)) (spell_name n)
bears-name n =
    let s = split (spell_leading n.is_global) n.first n.rest in
    let l = leading-length n.is_global in
    let c = s.count in
    let g = name-length n in
    record {
      sized = omega (arith, g);
      faults =
          λ t os p fits. named-borne p.token (ahead p.token (before_last n)) (spell_name n) t (operand_at os p.name)
          (λ code. record { front = s.front; rest = Identifier s.last ∷ []; are = s.are; at = omega (arith, c, l, g, fits); bear = refl });
    }

literal-bears : (l : Literal) → bears (spell_literal l) ≡ true
literal-bears (literal.Integer n) = refl
literal-bears (literal.Character c) = refl
literal-bears (literal.WideCharacter c) = refl
literal-bears (literal.Text pieces) = refl
literal-bears (literal.WideText pieces) = refl
literal-bears literal.True = refl
literal-bears literal.False = refl

bears-literal : (l : Literal) → Bears (Literally l) (spell_literal l)
bears-literal l = record {
  sized = refl;
  faults =
      λ t os p fits. at-borne p.token p.token (spell_literal l) (admitted t (literal_value l))
      (λ c. record { front = []; rest = spell_literal l; are = refl; at = omega arith; bear = literal-bears l });
}

bears-parentheses : (e : Term) (ls : Lexemes) → Bears e ls → Bears (Parenthesised e) (Punctuation mark.OpenParenthesis ∷ (ls ++ Punctuation mark.CloseParenthesis ∷ []))
bears-parentheses e ls b =
    let end : Lexemes = Punctuation mark.CloseParenthesis ∷ [] in
    let begin : Lexemes = Punctuation mark.OpenParenthesis ∷ [] in
    let n = length-append ls end in
    let x = b.sized in
    record {
      sized = omega (arith, n, x);
      faults =
          λ t os p fits.
          let q = behind p 1 0 in
          let fs = faults_of (read_term t os q e).evaluation in
          all-before p.token q.token begin (ls ++ end) (omega (arith, fits, n)) fs (all-behind q.token ls end refl fs (b.faults t os q (omega (arith, fits, n))));
    }

-- an operator before an operand
bears-sign : (s : UnaryOperator) (m : Mark) (e : Term) (ls : Lexemes) → IsSign m → Bears e ls → Bears (Signed s e) (Punctuation m ∷ ls)
bears-sign s m e ls sign b =
    let x = b.sized in
    record {
      sized = omega (arith, x);
      faults =
          λ t os p fits.
          let q = behind p 1 0 in
          let r = (read_term t os q e).evaluation in
          signed-borne p.token p.token (Punctuation m ∷ ls) t s r (λ c. record { front = []; rest = Punctuation m ∷ ls; are = refl; at = omega arith; bear = sign.0 })
          (all-before p.token q.token (Punctuation m ∷ []) ls (omega (arith, fits)) (faults_of r) (b.faults t os q (omega (arith, fits))));
    }

bears-operator : (o : Option UnaryOperator) (e : Term) (ls : Lexemes) → Bears e ls → Bears (signed o e) (spell_unary_operator o ++ ls)
bears-operator None e ls b = b
bears-operator (Some unary.Minus) e ls b = bears-sign unary.Minus mark.Minus e ls (refl, refl) b
bears-operator (Some unary.Plus) e ls b = bears-sign unary.Plus mark.Plus e ls (refl, refl) b
bears-operator (Some unary.Complement) e ls b = bears-sign unary.Complement mark.Tilde e ls (refl, refl) b

-- ---- the ranks

shift-sign : (o : ShiftOperator) → IsSign (shift_mark o)
shift-sign shift.Left = (refl, refl)
shift-sign shift.Right = (refl, refl)

sum-sign : (o : SumOperator) → IsSign (sum_mark o)
sum-sign sum.Plus = (refl, refl)
sum-sign sum.Minus = (refl, refl)

product-sign : (o : ProductOperator) → IsSign (product_mark o)
product-sign product.Times = (refl, refl)
product-sign product.Divided = (refl, refl)
product-sign product.Remainder = (refl, refl)

abbrev Ands : And → Type 0
Ands x = Bears (and_term x) (spell_and x)

abbrev ExclusiveOrs : ExclusiveOr → Type 0
ExclusiveOrs x = Bears (exclusive_or_term x) (spell_exclusive_or x)

abbrev Expressions : Expression → Type 0
Expressions x = Bears (expression_term x) (spell_expression x)

abbrev Primaries : Primary → Type 0
Primaries x = Bears (primary_term x) (spell_primary x)

abbrev Products : Product → Type 0
Products x = Bears (product_term x) (spell_product x)

abbrev Shifts : Shift → Type 0
Shifts x = Bears (shift_term x) (spell_shift x)

abbrev Sums : Sum → Type 0
Sums x = Bears (sum_term x) (spell_sum x)

abbrev Unaries : Unary → Type 0
Unaries x = Bears (unary_term x) (spell_unary x)

abbrev Such : {X : Type 0} → (X → Type 0) → Type 0
Such {X} claim = (x : X) × claim x

an_and : (x : Such Shifts) (xs : List (Such Shifts)) → Ands (made_and x.0 (map (λ s. s.0) xs))
an_and x xs =
    bears-rank (and_term (made_and x.0 (map (λ s. s.0) xs))) (shift_term x.0) (spell_and (made_and x.0 (map (λ s. s.0) xs))) (spell_shift x.0) (λ s. operator.And) shift_term (λ s. mark.Ampersand) spell_shift (λ s. s.0)
    (λ s. (refl, refl)) (λ s. s.1) xs (and_term-made x.0 (map (λ s. s.0) xs)) (spell_and-made x.0 (map (λ s. s.0) xs)) x.1

an_exclusive_or : (x : Such Ands) (xs : List (Such Ands)) → ExclusiveOrs (made_exclusive_or x.0 (map (λ s. s.0) xs))
an_exclusive_or x xs =
    bears-rank (exclusive_or_term (made_exclusive_or x.0 (map (λ s. s.0) xs))) (and_term x.0) (spell_exclusive_or (made_exclusive_or x.0 (map (λ s. s.0) xs))) (spell_and x.0) (λ s. operator.ExclusiveOr) and_term (λ s. mark.Caret) spell_and (λ s. s.0)
    (λ s. (refl, refl)) (λ s. s.1) xs (exclusive_or_term-made x.0 (map (λ s. s.0) xs)) (spell_exclusive_or-made x.0 (map (λ s. s.0) xs)) x.1

an_expression : (x : Such ExclusiveOrs) (xs : List (Such ExclusiveOrs)) → Expressions (made_expression x.0 (map (λ s. s.0) xs))
an_expression x xs =
    bears-rank (expression_term (made_expression x.0 (map (λ s. s.0) xs))) (exclusive_or_term x.0) (spell_expression (made_expression x.0 (map (λ s. s.0) xs))) (spell_exclusive_or x.0) (λ s. operator.Or) exclusive_or_term (λ s. mark.Bar) spell_exclusive_or (λ s. s.0)
    (λ s. (refl, refl)) (λ s. s.1) xs (expression_term-made x.0 (map (λ s. s.0) xs)) (spell_expression-made x.0 (map (λ s. s.0) xs)) x.1

a_product : (x : Such Unaries) (xs : List (ProductOperator × Such Unaries)) → Products (made_product x.0 (map (λ s. (s.0, s.1.0)) xs))
a_product x xs =
    bears-rank (product_term (made_product x.0 (map (λ s. (s.0, s.1.0)) xs))) (unary_term x.0) (spell_product (made_product x.0 (map (λ s. (s.0, s.1.0)) xs))) (spell_unary x.0) (λ s. product_operator s.0) (λ s. unary_term s.1) (λ s. product_mark s.0) (λ s. spell_unary s.1) (λ s. (s.0, s.1.0))
    (λ s. product-sign s.0) (λ s. s.1.1) xs (product_term-made x.0 (map (λ s. (s.0, s.1.0)) xs)) (spell_product-made x.0 (map (λ s. (s.0, s.1.0)) xs)) x.1

a_shift : (x : Such Sums) (xs : List (ShiftOperator × Such Sums)) → Shifts (made_shift x.0 (map (λ s. (s.0, s.1.0)) xs))
a_shift x xs =
    bears-rank (shift_term (made_shift x.0 (map (λ s. (s.0, s.1.0)) xs))) (sum_term x.0) (spell_shift (made_shift x.0 (map (λ s. (s.0, s.1.0)) xs))) (spell_sum x.0) (λ s. shift_operator s.0) (λ s. sum_term s.1) (λ s. shift_mark s.0) (λ s. spell_sum s.1) (λ s. (s.0, s.1.0))
    (λ s. shift-sign s.0) (λ s. s.1.1) xs (shift_term-made x.0 (map (λ s. (s.0, s.1.0)) xs)) (spell_shift-made x.0 (map (λ s. (s.0, s.1.0)) xs)) x.1

a_sum : (x : Such Products) (xs : List (SumOperator × Such Products)) → Sums (made_sum x.0 (map (λ s. (s.0, s.1.0)) xs))
a_sum x xs =
    bears-rank (sum_term (made_sum x.0 (map (λ s. (s.0, s.1.0)) xs))) (product_term x.0) (spell_sum (made_sum x.0 (map (λ s. (s.0, s.1.0)) xs))) (spell_product x.0) (λ s. sum_operator s.0) (λ s. product_term s.1) (λ s. sum_mark s.0) (λ s. spell_product s.1) (λ s. (s.0, s.1.0))
    (λ s. sum-sign s.0) (λ s. s.1.1) xs (sum_term-made x.0 (map (λ s. (s.0, s.1.0)) xs)) (spell_sum-made x.0 (map (λ s. (s.0, s.1.0)) xs)) x.1

a_unary : (o : Option UnaryOperator) (p : Primary) → Primaries p → Unaries (made_unary o p)
a_unary o p b =
    subst (λ t. Bears t (spell_unary (made_unary o p))) (sym (unary_term-made o p))
    (subst (Bears (signed o (primary_term p))) (sym (spell_unary-made o p)) (bears-operator o (primary_term p) (spell_primary p) b))

-- a primary that is this term, spelled so
a_primary : (p : Primary) (t : Term) (ls : Lexemes) → primary_term p ≡ t → spell_primary p ≡ ls → Bears t ls → Primaries p
a_primary p t ls term spelled b = subst (λ u. Bears u (spell_primary p)) (sym term) (subst (Bears t) (sym spelled) b)

by_primary : (y : Primary-F (Such Primaries) (Such Ands) (Such ExclusiveOrs) (Such Expressions) (Such Products) (Such Shifts) (Such Sums) (Such Unaries))
    → Primaries (roll-Primary (map-Primary (Such Primaries) (Such Ands) (Such ExclusiveOrs) (Such Expressions) (Such Products) (Such Shifts) (Such Sums) (Such Unaries)
    Primary And ExclusiveOr Expression Product Shift Sum Unary (λ e. e.0) (λ e. e.0) (λ e. e.0) (λ e. e.0) (λ e. e.0) (λ e. e.0) (λ e. e.0) (λ e. e.0) y))
by_primary (Primary-F.Name n) =
    subst Primaries (sym (rolls-Name n)) (a_primary (primary.Name n) (Named (before_last n)) (spell_name n) (primary_term-name n) (spell_primary-name n) (bears-name n))
by_primary (Primary-F.Literal l) =
    subst Primaries (sym (rolls-Literal l)) (a_primary (primary.Literal l) (Literally l) (spell_literal l) (primary_term-literal l) (spell_primary-literal l) (bears-literal l))
by_primary (Primary-F.Parentheses e) =
    subst Primaries (sym (rolls-Parentheses e.0))
    (a_primary (primary.Parentheses e.0) (Parenthesised (expression_term e.0)) _ (primary_term-parentheses e.0) (spell_primary-parentheses e.0) (bears-parentheses (expression_term e.0) (spell_expression e.0) e.1))

expression-bears : (e : Expression) → Expressions e
expression-bears = ind-Expression Primaries Ands ExclusiveOrs Expressions Products Shifts Sums Unaries
    (λ x y is. subst (λ z. Primaries (roll-Primary z)) is (by_primary y))
    (λ x y is. subst (λ z. Ands (roll-And z)) is (an_and y.first y.rest))
    (λ x y is. subst (λ z. ExclusiveOrs (roll-ExclusiveOr z)) is (an_exclusive_or y.first y.rest))
    (λ x y is. subst (λ z. Expressions (roll-Expression z)) is (an_expression y.first y.rest))
    (λ x y is. subst (λ z. Products (roll-Product z)) is (a_product y.first y.rest))
    (λ x y is. subst (λ z. Shifts (roll-Shift z)) is (a_shift y.first y.rest))
    (λ x y is. subst (λ z. Sums (roll-Sum z)) is (a_sum y.first y.rest))
    (λ x y is. subst (λ z. Unaries (roll-Unary z)) is (a_unary y.operator y.operand.0 y.operand.1))

-- ---- the whole

-- out of range, at the first token of the whole, or at a token that bears a fault
abbrev StandsIn : Lexemes → ValueFault → Type 0
StandsIn ls f = (f ≡ fault 0 OutOfRange) ⊎ (bears (drop f.token ls) ≡ true)

borne-stands : (ls : Lexemes) (f : ValueFault) → Borne 0 ls f → StandsIn ls f
borne-stands ls f b =
    let same : f.token ≡ length b.front = let a = b.at in omega (arith, a) in
    inr (subst (λ xs. bears xs ≡ true) (sym (ap (λ n. drop n ls) same ∙ ap (λ (xs : Lexemes). drop (length b.front) xs) b.are ∙ drop-append_seam b.front b.rest)) b.bear)

target-stands : (t : ConstantType) (ls : Lexemes) (a : Evaluation) → All (StandsIn ls) (faults_of a) → All (StandsIn ls) (faults_of (in_target t a))
target-stands t ls (Valued v) all =
    elim (is_held t v) as (λ b. All (StandsIn ls) (faults_of (if b then Valued v else Faulty (fault 0 OutOfRange ∷ []))))
    [ true ↦ All-nil (StandsIn ls) | false ↦ All-cons (StandsIn ls) (fault 0 OutOfRange) [] (inl refl) (All-nil (StandsIn ls)) ]
target-stands t ls (Faulty fs) all = all

pub value-stands : (t : ConstantType) (os : Operands) (e : Expression) → length (spell_expression e) < 2 ^ 64
    → All (λ f. (f ≡ fault 0 OutOfRange) ⊎ (bears (drop f.token (spell_expression e)) ≡ true)) (faults_of (value_of t os e))
unfolding value_of
value-stands t os e fits =
    let ls = spell_expression e in
    let a = (read_term t os start (expression_term e)).evaluation in
    target-stands t ls a (All-weaker (Borne 0 ls) (StandsIn ls) (borne-stands ls) (faults_of a) ((expression-bears e).faults t os start (omega (arith, fits))))
