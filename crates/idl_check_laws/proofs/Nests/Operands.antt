-- The sites of an expression are its names, each of which is an operand, and the tokens around them.
use Rattle.std.proofs.Common.{◌≡◌, ◌∙◌, ℕ, ◌+◌, Bool, true, false, List, [], ◌∷◌, ◌++◌, length, map, Option, None, Some, refl, sym, ap, subst, arith}
use Rattle.std.proofs.lemmas.Grind.{flat_map-append}
use Rattle.std.proofs.lemmas.List.{length-append, map-append}
use Rattle.std.proofs.lemmas.List.Elements.{All-append, All-cons, All-map, All-nil, All-weaker}
use Rattle.std.specs.Prelude.{All, flat_map}
use Rattle.idl_check.specs.walk.Judging.{used_name, used_names}
use Rattle.idl_check.specs.walk.Sections.{is_single}
use Rattle.idl_lex.specs.declared.kinds.mark.Mark.{Mark}
use Rattle.idl_lex.specs.declared.kinds.mark.Mark.TheVariants as mark
use Rattle.idl_parts.proofs.ExpressionEquations.{and_parts-made, exclusive_or_parts-made, expression_parts-made, primary_parts-literal, primary_parts-name, primary_parts-parentheses, product_parts-made, shift_parts-made, sum_parts-made, unary_parts-made}
use Rattle.idl_parts.proofs.Such.{Such}
use Rattle.idl_parts.specs.ExpressionParts.{and_parts, exclusive_or_parts, expression_parts, operator_parts, primary_parts, product_parts, shift_parts, sum_parts, unary_parts}
use Rattle.idl_parts.specs.Item.{Item, item_of, items}
use Rattle.idl_parts.specs.Part.{Part, Parts, Plain, Uses, punctuation, Part as item}
use Rattle.idl_parts.specs.declared.part.Use.{Use}
use Rattle.idl_parts.specs.declared.part.Use.TheVariants.{AsBase, AsStructBase, AsType, AsElement, AsConstantType, AsDiscriminator, AsOperand, Raised, RaisedBySet, AsIdentified, AsPrefixed}
use Rattle.idl_tree.specs.Expression.{product_mark, shift_mark, spell_literal, spell_unary_operator, sum_mark}
use Rattle.idl_tree.specs.Lexeme.{Lexemes}
use Rattle.idl_tree.specs.reading.ReadExpression.{made_and, made_exclusive_or, made_expression, made_product, made_shift, made_sum, made_unary}
use Rattle.idl_tree.specs.declared.expression.And.{And, roll-And}
use Rattle.idl_tree.specs.declared.expression.ExclusiveOr.{ExclusiveOr, roll-ExclusiveOr}
use Rattle.idl_tree.specs.declared.expression.Expression.{Expression, roll-Expression}
use Rattle.idl_tree.specs.declared.expression.Primary.{Primary, roll-Primary}
use Rattle.idl_tree.specs.declared.expression.Primary.TheFolds.{ind-Expression, map-Primary}
use Rattle.idl_tree.specs.declared.expression.Primary.TheOpen.{Primary-F}
use Rattle.idl_tree.specs.declared.expression.Primary.TheVariants.{rolls-Literal, rolls-Name, rolls-Parentheses}
use Rattle.idl_tree.specs.declared.expression.Primary.TheVariants as primary
use Rattle.idl_tree.specs.declared.expression.Product.{Product, roll-Product}
use Rattle.idl_tree.specs.declared.expression.ProductOperator.{ProductOperator}
use Rattle.idl_tree.specs.declared.expression.Shift.{Shift, roll-Shift}
use Rattle.idl_tree.specs.declared.expression.ShiftOperator.{ShiftOperator}
use Rattle.idl_tree.specs.declared.expression.Sum.{Sum, roll-Sum}
use Rattle.idl_tree.specs.declared.expression.SumOperator.{SumOperator}
use Rattle.idl_tree.specs.declared.expression.Unary.{Unary, roll-Unary}
use Rattle.idl_tree.specs.declared.expression.UnaryOperator.{UnaryOperator}
use Rattle.idl_tree.specs.declared.literal.Literal.{Literal}
use Rattle.idl_tree.specs.declared.name.ScopedName.{ScopedName}
use Rattle.idl_value.proofs.TermEquations.{and_term-made, exclusive_or_term-made, expression_term-made, primary_term-literal, primary_term-name, primary_term-parentheses, product_term-made, shift_term-made, sum_term-made, unary_term-made}
use Rattle.idl_value.specs.Names.{links_names, name_count, term_names}
use Rattle.idl_value.specs.Term.{Chain, Term, and_term, exclusive_or_term, expression_term, links, primary_term, product_operator, product_term, shift_operator, shift_term, signed, sum_operator, sum_term, unary_term}
use Rattle.idl_value.specs.declared.operator.BinaryOperator.{BinaryOperator}
use Rattle.idl_value.specs.declared.operator.BinaryOperator.TheVariants as operator

abbrev pub is_operand_use : Use → Bool
is_operand_use AsOperand = true
is_operand_use other = false

-- a site of tokens, or an operand
abbrev pub is_operand : Item → Bool
is_operand (item.Plain n) = true
is_operand (item.Uses way name) = is_operand_use way
is_operand other = false

-- a claim on each of the two
pub operand-case : (P : Item → Type 0) → ((n : ℕ) → P (item.Plain n)) → ((name : ScopedName) → P (item.Uses AsOperand name)) → (x : Item) → is_operand x ≡ true → P x
operand-case P tokens used (item.Plain n) h = tokens n
operand-case P tokens used (item.Uses AsOperand name) h = used name
operand-case P tokens used (item.Uses (AsBase is_local) name) h = cc
operand-case P tokens used (item.Uses AsType name) h = cc
operand-case P tokens used (item.Uses AsElement name) h = cc
operand-case P tokens used (item.Uses AsConstantType name) h = cc
operand-case P tokens used (item.Uses AsDiscriminator name) h = cc
operand-case P tokens used (item.Uses Raised name) h = cc
operand-case P tokens used (item.Uses RaisedBySet name) h = cc
operand-case P tokens used (item.Uses AsStructBase name) h = cc
operand-case P tokens used (item.Uses AsIdentified name) h = cc
operand-case P tokens used (item.Uses AsPrefixed name) h = cc
operand-case P tokens used (item.Declares way name) h = cc
operand-case P tokens used (item.Says purpose text) h = cc
operand-case P tokens used item.ValueBegins h = cc
operand-case P tokens used (item.ValueEnds way e) h = cc
operand-case P tokens used (item.ScopeBegins way name) h = cc
operand-case P tokens used item.ScopeEnds h = cc
operand-case P tokens used (item.TypeEnds shape) h = cc
operand-case P tokens used item.ArrayEnds h = cc
operand-case P tokens used (item.Enumerates names) h = cc
operand-case P tokens used (item.Identifies text) h = cc
operand-case P tokens used (item.Switches discrete) h = cc
operand-case P tokens used item.Default h = cc
operand-case P tokens used item.GivesBack h = cc

-- how many names sites use
abbrev pub names_in : List Item → ℕ
names_in sites = length (used_names sites)

names_in-append : (xs ys : List Item) → names_in (xs ++ ys) ≡ names_in xs + names_in ys
names_in-append xs ys = ap length (flat_map-append used_name xs ys) ∙ length-append (used_names xs) (used_names ys)

-- ---- parts with so many names, each an operand

abbrev IsOperand : Part Lexemes → Type 0
IsOperand x = is_operand (item_of x) ≡ true

record Holds (p : Parts) (n : ℕ) : Type 0 where
  operands : All IsOperand p
  count : names_in (items p) ≡ n

holds-none : Holds [] 0
holds-none = record { operands = All-nil IsOperand; count = refl }

plain-before : (lexemes : Lexemes) (p : Parts) (n : ℕ) → Holds p n → Holds (Plain lexemes ∷ p) n
plain-before lexemes p n h = record {
  operands = All-cons IsOperand (Plain lexemes) p refl h.operands;
  count = let c = h.count in omega (arith, c);
}

holds-follow : (p q : Parts) (m n : ℕ) → Holds p m → Holds q n → Holds (p ++ q) (m + n)
holds-follow p q m n h k = record {
  operands = All-append IsOperand p q h.operands k.operands;
  count =
      let parts = ap names_in (map-append item_of p q) ∙ names_in-append (items p) (items q) in
      let a = h.count in
      let b = k.count in
      omega (arith, parts, a, b);
}

-- operands behind operators
holds-many : {S Y : Type 0} (f : Y → Parts) (op : Y → BinaryOperator) (term : Y → Term) (v : S → Y) → ((s : S) → Holds (f (v s)) (term_names (term (v s)))) → (xs : List S)
    → Holds (flat_map f (map v xs)) (links_names (links op term (map v xs)))
holds-many f op term v h [] = holds-none
holds-many f op term v h (x ∷ xs) =
    holds-follow (f (v x)) (flat_map f (map v xs)) (term_names (term (v x))) (links_names (links op term (map v xs))) (h x) (holds-many f op term v h xs)

-- a rank: an operand, and more behind operators
holds-rank : {S Y : Type 0} (whole first : Parts) (t e : Term) (f : Y → Parts) (op : Y → BinaryOperator) (term : Y → Term) (v : S → Y) → ((s : S) → Holds (f (v s)) (term_names (term (v s)))) → (xs : List S)
    → whole ≡ first ++ flat_map f (map v xs) → t ≡ Chain e (links op term (map v xs)) → Holds first (term_names e) → Holds whole (term_names t)
holds-rank whole first t e f op term v h xs is made k =
    let behind = flat_map f (map v xs) in
    let count = links_names (links op term (map v xs)) in
    subst (λ p. Holds p (term_names t)) (sym is)
    (subst (λ u. Holds (first ++ behind) (term_names u)) (sym made)
    (holds-follow first behind (term_names e) count k (holds-many f op term v h xs)))

-- ---- the ranks

abbrev Ands : And → Type 0
Ands x = Holds (and_parts x) (term_names (and_term x))

abbrev ExclusiveOrs : ExclusiveOr → Type 0
ExclusiveOrs x = Holds (exclusive_or_parts x) (term_names (exclusive_or_term x))

abbrev Expressions : Expression → Type 0
Expressions x = Holds (expression_parts x) (term_names (expression_term x))

abbrev Primaries : Primary → Type 0
Primaries x = Holds (primary_parts x) (term_names (primary_term x))

abbrev Products : Product → Type 0
Products x = Holds (product_parts x) (term_names (product_term x))

abbrev Shifts : Shift → Type 0
Shifts x = Holds (shift_parts x) (term_names (shift_term x))

abbrev Sums : Sum → Type 0
Sums x = Holds (sum_parts x) (term_names (sum_term x))

abbrev Unaries : Unary → Type 0
Unaries x = Holds (unary_parts x) (term_names (unary_term x))

-- an operand behind a mark
marked : (m : Mark) (p : Parts) (n : ℕ) → Holds p n → Holds (punctuation m ∷ p) n
marked m p n h = plain-before _ p n h

an_and : (x : Such Shifts) (xs : List (Such Shifts)) → Ands (made_and x.0 (map (λ s. s.0) xs))
an_and x xs =
    holds-rank (and_parts (made_and x.0 (map (λ s. s.0) xs))) (shift_parts x.0) (and_term (made_and x.0 (map (λ s. s.0) xs))) (shift_term x.0)
    (λ s. punctuation mark.Ampersand ∷ shift_parts s) (λ s. operator.And) shift_term (λ s. s.0)
    (λ s. marked mark.Ampersand (shift_parts s.0) (term_names (shift_term s.0)) s.1) xs (and_parts-made x.0 (map (λ s. s.0) xs)) (and_term-made x.0 (map (λ s. s.0) xs)) x.1

an_exclusive_or : (x : Such Ands) (xs : List (Such Ands)) → ExclusiveOrs (made_exclusive_or x.0 (map (λ s. s.0) xs))
an_exclusive_or x xs =
    holds-rank (exclusive_or_parts (made_exclusive_or x.0 (map (λ s. s.0) xs))) (and_parts x.0) (exclusive_or_term (made_exclusive_or x.0 (map (λ s. s.0) xs))) (and_term x.0)
    (λ s. punctuation mark.Caret ∷ and_parts s) (λ s. operator.ExclusiveOr) and_term (λ s. s.0)
    (λ s. marked mark.Caret (and_parts s.0) (term_names (and_term s.0)) s.1) xs (exclusive_or_parts-made x.0 (map (λ s. s.0) xs)) (exclusive_or_term-made x.0 (map (λ s. s.0) xs)) x.1

an_expression : (x : Such ExclusiveOrs) (xs : List (Such ExclusiveOrs)) → Expressions (made_expression x.0 (map (λ s. s.0) xs))
an_expression x xs =
    holds-rank (expression_parts (made_expression x.0 (map (λ s. s.0) xs))) (exclusive_or_parts x.0) (expression_term (made_expression x.0 (map (λ s. s.0) xs))) (exclusive_or_term x.0)
    (λ s. punctuation mark.Bar ∷ exclusive_or_parts s) (λ s. operator.Or) exclusive_or_term (λ s. s.0)
    (λ s. marked mark.Bar (exclusive_or_parts s.0) (term_names (exclusive_or_term s.0)) s.1) xs (expression_parts-made x.0 (map (λ s. s.0) xs)) (expression_term-made x.0 (map (λ s. s.0) xs)) x.1

a_product : (x : Such Unaries) (xs : List (ProductOperator × Such Unaries)) → Products (made_product x.0 (map (λ s. (s.0, s.1.0)) xs))
a_product x xs =
    holds-rank (product_parts (made_product x.0 (map (λ s. (s.0, s.1.0)) xs))) (unary_parts x.0) (product_term (made_product x.0 (map (λ s. (s.0, s.1.0)) xs))) (unary_term x.0)
    (λ s. punctuation (product_mark s.0) ∷ unary_parts s.1) (λ s. product_operator s.0) (λ s. unary_term s.1) (λ s. (s.0, s.1.0))
    (λ s. marked (product_mark s.0) (unary_parts s.1.0) (term_names (unary_term s.1.0)) s.1.1) xs (product_parts-made x.0 (map (λ s. (s.0, s.1.0)) xs)) (product_term-made x.0 (map (λ s. (s.0, s.1.0)) xs)) x.1

a_shift : (x : Such Sums) (xs : List (ShiftOperator × Such Sums)) → Shifts (made_shift x.0 (map (λ s. (s.0, s.1.0)) xs))
a_shift x xs =
    holds-rank (shift_parts (made_shift x.0 (map (λ s. (s.0, s.1.0)) xs))) (sum_parts x.0) (shift_term (made_shift x.0 (map (λ s. (s.0, s.1.0)) xs))) (sum_term x.0)
    (λ s. punctuation (shift_mark s.0) ∷ sum_parts s.1) (λ s. shift_operator s.0) (λ s. sum_term s.1) (λ s. (s.0, s.1.0))
    (λ s. marked (shift_mark s.0) (sum_parts s.1.0) (term_names (sum_term s.1.0)) s.1.1) xs (shift_parts-made x.0 (map (λ s. (s.0, s.1.0)) xs)) (shift_term-made x.0 (map (λ s. (s.0, s.1.0)) xs)) x.1

a_sum : (x : Such Products) (xs : List (SumOperator × Such Products)) → Sums (made_sum x.0 (map (λ s. (s.0, s.1.0)) xs))
a_sum x xs =
    holds-rank (sum_parts (made_sum x.0 (map (λ s. (s.0, s.1.0)) xs))) (product_parts x.0) (sum_term (made_sum x.0 (map (λ s. (s.0, s.1.0)) xs))) (product_term x.0)
    (λ s. punctuation (sum_mark s.0) ∷ product_parts s.1) (λ s. sum_operator s.0) (λ s. product_term s.1) (λ s. (s.0, s.1.0))
    (λ s. marked (sum_mark s.0) (product_parts s.1.0) (term_names (product_term s.1.0)) s.1.1) xs (sum_parts-made x.0 (map (λ s. (s.0, s.1.0)) xs)) (sum_term-made x.0 (map (λ s. (s.0, s.1.0)) xs)) x.1

-- an operator before an operand
an_operator : (o : Option UnaryOperator) (p : Parts) (t : Term) → Holds p (term_names t) → Holds (operator_parts o ++ p) (term_names (signed o t))
an_operator None p t h = h
an_operator (Some o) p t h = plain-before (spell_unary_operator (Some o)) p (term_names t) h

a_unary : (o : Option UnaryOperator) (p : Primary) → Primaries p → Unaries (made_unary o p)
a_unary o p h =
    subst (λ q. Holds q (term_names (unary_term (made_unary o p)))) (sym (unary_parts-made o p))
    (subst (λ t. Holds (operator_parts o ++ primary_parts p) (term_names t)) (sym (unary_term-made o p)) (an_operator o (primary_parts p) (primary_term p) h))

-- a primary that is these parts and this term
a_primary : (p : Primary) (q : Parts) (t : Term) → primary_parts p ≡ q → primary_term p ≡ t → Holds q (term_names t) → Primaries p
a_primary p q t parts term h =
    subst (λ x. Holds x (term_names (primary_term p))) (sym parts) (subst (λ u. Holds q (term_names u)) (sym term) h)

a_name : (n : ScopedName) → Primaries (primary.Name n)
a_name n =
    a_primary (primary.Name n) (Uses AsOperand n ∷ []) _ (primary_parts-name n) (primary_term-name n)
    (record { operands = All-cons IsOperand (Uses AsOperand n) [] refl (All-nil IsOperand); count = refl })

a_literal : (l : Literal) → Primaries (primary.Literal l)
a_literal l =
    a_primary (primary.Literal l) (Plain (spell_literal l) ∷ []) _ (primary_parts-literal l) (primary_term-literal l) (plain-before (spell_literal l) [] 0 holds-none)

-- with a mark behind
closed_by : (m : Mark) (p : Parts) (n : ℕ) → Holds p n → Holds (p ++ punctuation m ∷ []) n
closed_by m p n h = record {
  operands = All-append IsOperand p (punctuation m ∷ []) h.operands (All-cons IsOperand (punctuation m) [] refl (All-nil IsOperand));
  count =
      let parts = ap names_in (map-append item_of p (punctuation m ∷ [])) ∙ names_in-append (items p) (items (punctuation m ∷ [])) in
      let a = h.count in
      omega (arith, parts, a);
}

in_parentheses : (e : Expression) → Expressions e → Primaries (primary.Parentheses e)
in_parentheses e h =
    let n = term_names (expression_term e) in
    a_primary (primary.Parentheses e) (punctuation mark.OpenParenthesis ∷ (expression_parts e ++ punctuation mark.CloseParenthesis ∷ [])) _
    (primary_parts-parentheses e) (primary_term-parentheses e)
    (marked mark.OpenParenthesis (expression_parts e ++ punctuation mark.CloseParenthesis ∷ []) n (closed_by mark.CloseParenthesis (expression_parts e) n h))

by_primary : (y : Primary-F (Such Primaries) (Such Ands) (Such ExclusiveOrs) (Such Expressions) (Such Products) (Such Shifts) (Such Sums) (Such Unaries))
    → Primaries (roll-Primary (map-Primary (Such Primaries) (Such Ands) (Such ExclusiveOrs) (Such Expressions) (Such Products) (Such Shifts) (Such Sums) (Such Unaries)
    Primary And ExclusiveOr Expression Product Shift Sum Unary (λ e. e.0) (λ e. e.0) (λ e. e.0) (λ e. e.0) (λ e. e.0) (λ e. e.0) (λ e. e.0) (λ e. e.0) y))
by_primary (Primary-F.Name n) = subst Primaries (sym (rolls-Name n)) (a_name n)
by_primary (Primary-F.Literal l) = subst Primaries (sym (rolls-Literal l)) (a_literal l)
by_primary (Primary-F.Parentheses e) = subst Primaries (sym (rolls-Parentheses e.0)) (in_parentheses e.0 e.1)

expression-holds : (e : Expression) → Expressions e
expression-holds = ind-Expression Primaries Ands ExclusiveOrs Expressions Products Shifts Sums Unaries
    (λ x y is. subst (λ z. Primaries (roll-Primary z)) is (by_primary y))
    (λ x y is. subst (λ z. Ands (roll-And z)) is (an_and y.first y.rest))
    (λ x y is. subst (λ z. ExclusiveOrs (roll-ExclusiveOr z)) is (an_exclusive_or y.first y.rest))
    (λ x y is. subst (λ z. Expressions (roll-Expression z)) is (an_expression y.first y.rest))
    (λ x y is. subst (λ z. Products (roll-Product z)) is (a_product y.first y.rest))
    (λ x y is. subst (λ z. Shifts (roll-Shift z)) is (a_shift y.first y.rest))
    (λ x y is. subst (λ z. Sums (roll-Sum z)) is (a_sum y.first y.rest))
    (λ x y is. subst (λ z. Unaries (roll-Unary z)) is (a_unary y.operator y.operand.0 y.operand.1))

pub expression-operands : (e : Expression) → All (λ x. is_operand x ≡ true) (items (expression_parts e))
expression-operands e = All-map (λ x. is_operand x ≡ true) item_of (expression_parts e) (expression-holds e).operands

-- and so none is a mark of an expression
pub expression-singles : (e : Expression) → All (λ x. is_single x ≡ true) (items (expression_parts e))
expression-singles e =
    All-weaker (λ x. is_operand x ≡ true) (λ x. is_single x ≡ true) (operand-case (λ x. is_single x ≡ true) (λ n. refl) (λ name. refl)) (items (expression_parts e))
    (expression-operands e)

-- as many names as it has
pub expression-names : (e : Expression) → names_in (items (expression_parts e)) ≡ name_count e
expression-names e = (expression-holds e).count
