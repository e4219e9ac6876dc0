-- An expression that is spelled is read again.
use Rattle.std.proofs.Common.{◌≡◌, ◌∙◌, ℕ, zero, suc, ◌<◌, Bool, true, false, cond, is_some, List, [], ◌∷◌, ◌++◌, flat_map, map, length, drop, Option, Some, None, Result, Ok, Err, refl, sym, ap, subst, append_assoc, arith}
use Rattle.std.proofs.lemmas.List.{length-append}
use Rattle.idl_lex.specs.declared.kinds.mark.Mark.TheVariants as mark
use Rattle.idl_tree.specs.Expression.{spell_literal, spell_unary_operator, spell_expression, spell_exclusive_or, spell_and, spell_shift, spell_sum, spell_product, spell_unary, spell_primary}
use Rattle.idl_tree.specs.Lexeme.{Lexeme, Lexemes, Punctuation, Identifier, Text, WideText}
use Rattle.idl_tree.specs.Name.{spell_leading, spell_name}
use Rattle.idl_tree.specs.reading.ReadExpression.{shift_operator_of, sum_operator_of, product_operator_of, unary_operator_of, text_of, wide_text_of, text_literal, wide_text_literal, pieces_at, literal_at, primary_with, parentheses_with, unary_with, made_unary, made_product, made_sum, made_shift, made_and, made_exclusive_or, made_expression, product_with, sum_with, shift_with, and_with, exclusive_or_with, or_with, expression_at}
use Rattle.idl_tree.specs.reading.ReadName.{part_at, parts_at, name_at}
use Rattle.idl_tree.specs.reading.Reading.{Reader, ◌>>=◌, first, expect, many_of}
use Rattle.idl_tree.specs.reading.Tests.{is_mark, identifier_at, pick, picked}
use Rattle.idl_tree.specs.declared.expression.And.{And, roll-And}
use Rattle.idl_tree.specs.declared.expression.ExclusiveOr.{ExclusiveOr, roll-ExclusiveOr}
use Rattle.idl_tree.specs.declared.expression.Expression.{Expression, roll-Expression}
use Rattle.idl_tree.specs.declared.expression.Primary.{Primary, roll-Primary}
use Rattle.idl_tree.specs.declared.expression.Primary.TheFolds.{ind-Expression, map-Primary}
use Rattle.idl_tree.specs.declared.expression.Primary.TheOpen.{Primary-F}
use Rattle.idl_tree.specs.declared.expression.Primary.TheVariants.{rolls-Name, rolls-Literal, rolls-Parentheses}
use Rattle.idl_tree.specs.declared.expression.Primary.TheVariants as primary
use Rattle.idl_tree.specs.declared.expression.Product.{Product, roll-Product}
use Rattle.idl_tree.specs.declared.expression.ProductOperator.{ProductOperator}
use Rattle.idl_tree.specs.declared.expression.ProductOperator.TheVariants.{Times, Divided, Remainder}
use Rattle.idl_tree.specs.declared.expression.Shift.{Shift, roll-Shift}
use Rattle.idl_tree.specs.declared.expression.ShiftOperator.{ShiftOperator}
use Rattle.idl_tree.specs.declared.expression.ShiftOperator.TheVariants.{Left, Right}
use Rattle.idl_tree.specs.declared.expression.Sum.{Sum, roll-Sum}
use Rattle.idl_tree.specs.declared.expression.SumOperator.{SumOperator}
use Rattle.idl_tree.specs.declared.expression.SumOperator.TheVariants as sum
use Rattle.idl_tree.specs.declared.expression.Unary.{Unary, roll-Unary}
use Rattle.idl_tree.specs.declared.expression.UnaryOperator.{UnaryOperator}
use Rattle.idl_tree.specs.declared.expression.UnaryOperator.TheVariants as unary
use Rattle.idl_tree.specs.declared.literal.Literal.{Literal}
use Rattle.idl_tree.specs.declared.literal.Literal.TheVariants as literal
use Rattle.idl_tree.specs.declared.name.ScopedName.{ScopedName}
use Rattle.idl_tree.proofs.ReadAgain.Again.{Later, Tree, chain_later, parted_later, Item, items, many_again, goes_or}
use Rattle.idl_tree.proofs.Readers.ExpressionLaws.{shift_token, sum_token, product_token, shifts_picked, sums_picked, products_picked, texts_picked, wide_texts_picked}
use Rattle.idl_tree.proofs.Many.{many_spell}
use Rattle.idl_tree.proofs.Readers.NameLaws.{spell_part, flat_map-many}
use Rattle.idl_tree.proofs.SpellLemmas.{spell_unary-made, spell_primary-name, spell_primary-literal, spell_primary-parentheses, spell_product-made, spell_sum-made, spell_shift-made, spell_and-made, spell_exclusive_or-made, spell_expression-made}
use Rattle.idl_tree.proofs.Readers.TokenLaws.{Picks, only_mark, one_token}

-- what would go on with a primary: a part of a name, or a further piece of a string
abbrev pub goes_primary : Option Lexeme → Bool
goes_primary t = cond (is_mark mark.ColonColon t) true (cond (is_some (text_of t)) true (is_some (wide_text_of t)))

abbrev pub goes_product : Option Lexeme → Bool
goes_product = goes_or (λ t. is_some (product_operator_of t)) goes_primary

abbrev pub goes_sum : Option Lexeme → Bool
goes_sum = goes_or (λ t. is_some (sum_operator_of t)) goes_product

abbrev pub goes_shift : Option Lexeme → Bool
goes_shift = goes_or (λ t. is_some (shift_operator_of t)) goes_sum

abbrev pub goes_and : Option Lexeme → Bool
goes_and = goes_or (is_mark mark.Ampersand) goes_shift

abbrev pub goes_exclusive_or : Option Lexeme → Bool
goes_exclusive_or = goes_or (is_mark mark.Caret) goes_and

abbrev pub goes_expression : Option Lexeme → Bool
goes_expression = goes_or (is_mark mark.Bar) goes_exclusive_or

-- ---- names and literals

name_stops : (t : Option Lexeme) → goes_primary t ≡ false → (is_mark mark.ColonColon t ≡ false) × (is_some (text_of t) ≡ false) × (is_some (wide_text_of t) ≡ false)
name_stops t h = three (is_mark mark.ColonColon t) (is_some (text_of t)) (is_some (wide_text_of t)) h
  where
    three : (a b c : Bool) → cond a true (cond b true c) ≡ false → (a ≡ false) × (b ≡ false) × (c ≡ false)
    three true b c h = absurd cc
    three false true c h = absurd cc
    three false false c h = (refl, refl, h)

-- a part is read again
part_item : List ℕ → Item (λ t. false) (is_mark mark.ColonColon) spell_part part_at
unfolding part_at
part_item part = (
  part,
  record { passes = λ rest. (only_mark mark.ColonColon).passes; stops = λ rest. refl; some = omega arith },
  λ rest h. ap (λ (b : Bool). cond b (let o : Result Lexemes ℕ = Ok (Identifier part ∷ rest) in o) (Err (suc (suc (length rest)))) >>= λ w. identifier_at w) (only_mark mark.ColonColon).passes,
)

part_items : (parts : List (List ℕ)) → items (λ t. false) (is_mark mark.ColonColon) spell_part part_at (map part_item parts) ≡ parts
unfolding part_item
part_items [] = refl
part_items (part ∷ parts) = ap (λ (w : List (List ℕ)). part ∷ w) (part_items parts)

parts_again : (parts : List (List ℕ)) (rest : Lexemes) → is_mark mark.ColonColon (first rest) ≡ false → parts_at (many_spell spell_part parts ++ rest) ≡ Ok (parts, rest)
unfolding parts_at
parts_again parts rest h =
    subst (λ (l : List (List ℕ)). many_of (is_mark mark.ColonColon) part_at (many_spell spell_part l ++ rest) ≡ Ok (l, rest)) (part_items parts)
    (many_again (λ t. false) (is_mark mark.ColonColon) spell_part part_at (map part_item parts) rest refl h)

name_parts_again : (b : Bool) (s : List ℕ) (ss : List (List ℕ)) (rest : Lexemes) → is_mark mark.ColonColon (first rest) ≡ false
    → name_at ((spell_leading b ++ (Identifier s ∷ many_spell spell_part ss)) ++ rest) ≡ Ok (record { is_global = b; first = s; rest = ss }, rest)
unfolding name_at
name_parts_again true s ss rest h = ap (λ (r : Result (List (List ℕ) × Lexemes) ℕ). r >>= λ y. Ok (record { is_global = true; first = s; rest = y.0 }, y.1)) (parts_again ss rest h)
name_parts_again false s ss rest h = ap (λ (r : Result (List (List ℕ) × Lexemes) ℕ). r >>= λ y. Ok (record { is_global = false; first = s; rest = y.0 }, y.1)) (parts_again ss rest h)

pub name_again : (n : ScopedName) (rest : Lexemes) → is_mark mark.ColonColon (first rest) ≡ false → name_at (spell_name n ++ rest) ≡ Ok (n, rest)
name_again n rest h =
    ap (λ (w : Lexemes). name_at ((spell_leading n.is_global ++ (Identifier n.first ∷ w)) ++ rest)) (flat_map-many spell_part n.rest)
    ∙ name_parts_again n.is_global n.first n.rest rest h

piece_item : (piece : Option Lexeme → Option (List ℕ)) (token : List ℕ → Lexeme) → Picks piece token → List ℕ → Item (λ t. false) (λ t. is_some (piece t)) (one_token token) (pick piece)
piece_item piece token is x = (x, record { passes = λ rest. ap is_some (is.again x); stops = λ rest. refl; some = omega arith }, λ rest h. ap (λ (o : Option (List ℕ)). picked o (token x ∷ rest)) (is.again x))

piece_items : (piece : Option Lexeme → Option (List ℕ)) (token : List ℕ → Lexeme) (is : Picks piece token) (xs : List (List ℕ)) → items (λ t. false) (λ t. is_some (piece t)) (one_token token) (pick piece) (map (piece_item piece token is) xs) ≡ xs
unfolding piece_item
piece_items piece token is [] = refl
piece_items piece token is (x ∷ xs) = ap (λ (w : List (List ℕ)). x ∷ w) (piece_items piece token is xs)

pieces_again : (piece : Option Lexeme → Option (List ℕ)) (token : List ℕ → Lexeme) → Picks piece token → (x : List ℕ) (xs : List (List ℕ)) (rest : Lexemes) → is_some (piece (first rest)) ≡ false
    → pieces_at piece (token x ∷ (flat_map (one_token token) xs ++ rest)) ≡ Ok ((x, xs), rest)
unfolding pieces_at
pieces_again piece token is x xs rest h =
    let more : many_of (λ t. is_some (piece t)) (pick piece) (flat_map (one_token token) xs ++ rest) ≡ Ok (xs, rest) =
    ap (λ (w : Lexemes). many_of (λ t. is_some (piece t)) (pick piece) (w ++ rest)) (flat_map-many (one_token token) xs)
    ∙ subst (λ (l : List (List ℕ)). many_of (λ t. is_some (piece t)) (pick piece) (many_spell (one_token token) l ++ rest) ≡ Ok (l, rest)) (piece_items piece token is xs)
    (many_again (λ t. false) (λ t. is_some (piece t)) (one_token token) (pick piece) (map (piece_item piece token is) xs) rest refl h) in
    ap (λ (o : Option (List ℕ)). picked o (token x ∷ (flat_map (one_token token) xs ++ rest)) >>= λ y. many_of (λ t. is_some (piece t)) (pick piece) y.1 >>= λ z. Ok ((y.0, z.0), z.1)) (is.again x)
    ∙ ap (λ (r : Result (List (List ℕ) × Lexemes) ℕ). r >>= λ z. Ok ((x, z.0), z.1)) more

literal_again : (l : Literal) (rest : Lexemes) → goes_primary (first rest) ≡ false → literal_at (spell_literal l ++ rest) ≡ Ok (l, rest)
unfolding literal_at
literal_again (literal.Integer n) rest h = refl
literal_again (literal.Character c) rest h = refl
literal_again (literal.WideCharacter c) rest h = refl
literal_again (literal.Text pieces) rest h = ap (λ (r : Result ((List ℕ × List (List ℕ)) × Lexemes) ℕ). r >>= λ p. Ok (text_literal p.0, p.1)) (pieces_again text_of Text texts_picked pieces.first pieces.rest rest (name_stops (first rest) h).1)
literal_again (literal.WideText pieces) rest h = ap (λ (r : Result ((List ℕ × List (List ℕ)) × Lexemes) ℕ). r >>= λ p. Ok (wide_text_literal p.0, p.1)) (pieces_again wide_text_of WideText wide_texts_picked pieces.first pieces.rest rest (name_stops (first rest) h).2)
literal_again literal.True rest h = refl
literal_again literal.False rest h = refl

-- ---- operands

abbrev Quiet : Primary → Type 0
Quiet p = (rest : Lexemes) → unary_operator_of (first (spell_primary p ++ rest)) ≡ None

abbrev primary_at : ℕ → Reader Primary
primary_at n = primary_with (expression_at n)

-- a primary begins with no operator, and is read again
pub record IsPrimaryAgain (p : Primary) : Type 0 where
  pub quiet : Quiet p
  pub again : Later goes_primary spell_primary primary_at p

quiet_name : (b : Bool) (s : List ℕ) (ts : Lexemes) → unary_operator_of (first ((spell_leading b ++ (Identifier s ∷ ts)))) ≡ None
quiet_name true s ts = refl
quiet_name false s ts = refl

primary_name_parts : (b : Bool) (s : List ℕ) (ss : List (List ℕ)) (e : Reader Expression) (rest : Lexemes) → is_mark mark.ColonColon (first rest) ≡ false
    → primary_with e (spell_name (record { is_global = b; first = s; rest = ss }) ++ rest) ≡ Ok (primary.Name (record { is_global = b; first = s; rest = ss }), rest)
unfolding primary_with
primary_name_parts true s ss e rest h = ap (λ (r : Result (ScopedName × Lexemes) ℕ). r >>= λ n. Ok (primary.Name n.0, n.1)) (name_again (record { is_global = true; first = s; rest = ss }) rest h)
primary_name_parts false s ss e rest h = ap (λ (r : Result (ScopedName × Lexemes) ℕ). r >>= λ n. Ok (primary.Name n.0, n.1)) (name_again (record { is_global = false; first = s; rest = ss }) rest h)

name_is_again : (m : ScopedName) → IsPrimaryAgain (primary.Name m)
name_is_again m = record {
  quiet = λ rest. ap (λ (w : Lexemes). unary_operator_of (first (w ++ rest))) (spell_primary-name m)
      ∙ ap (λ (w : Lexemes). unary_operator_of (first w)) (append_assoc (spell_leading m.is_global) (Identifier m.first ∷ flat_map spell_part m.rest) rest)
      ∙ quiet_name m.is_global m.first (flat_map spell_part m.rest ++ rest);
  again = λ n le rest h. ap (λ (w : Lexemes). primary_at n (w ++ rest)) (spell_primary-name m)
      ∙ primary_name_parts m.is_global m.first m.rest (expression_at n) rest (name_stops (first rest) h).0;
}

quiet_literal : (l : Literal) (rest : Lexemes) → unary_operator_of (first (spell_literal l ++ rest)) ≡ None
quiet_literal (literal.Integer n) rest = refl
quiet_literal (literal.Character c) rest = refl
quiet_literal (literal.WideCharacter c) rest = refl
quiet_literal (literal.Text pieces) rest = refl
quiet_literal (literal.WideText pieces) rest = refl
quiet_literal literal.True rest = refl
quiet_literal literal.False rest = refl

primary_literal : (l : Literal) (e : Reader Expression) (rest : Lexemes) → primary_with e (spell_literal l ++ rest) ≡ (literal_at (spell_literal l ++ rest) >>= λ l. Ok (primary.Literal l.0, l.1))
unfolding primary_with
primary_literal (literal.Integer n) e rest = refl
primary_literal (literal.Character c) e rest = refl
primary_literal (literal.WideCharacter c) e rest = refl
primary_literal (literal.Text pieces) e rest = refl
primary_literal (literal.WideText pieces) e rest = refl
primary_literal literal.True e rest = refl
primary_literal literal.False e rest = refl

literal_is_again : (l : Literal) → IsPrimaryAgain (primary.Literal l)
literal_is_again l = record {
  quiet = λ rest. ap (λ (w : Lexemes). unary_operator_of (first (w ++ rest))) (spell_primary-literal l) ∙ quiet_literal l rest;
  again = λ n le rest h. ap (λ (w : Lexemes). primary_at n (w ++ rest)) (spell_primary-literal l)
      ∙ primary_literal l (expression_at n) rest
      ∙ ap (λ (r : Result (Literal × Lexemes) ℕ). r >>= λ l. Ok (primary.Literal l.0, l.1)) (literal_again l rest h);
}

abbrev or_at : ℕ → Reader Expression
or_at n = or_with (expression_at n)

enclosed_again : (e : Expression) → Later goes_expression spell_expression or_at e → (n : ℕ) → length (spell_expression e) < n → (rest : Lexemes)
    → primary_at n (Punctuation mark.OpenParenthesis ∷ ((spell_expression e ++ Punctuation mark.CloseParenthesis ∷ []) ++ rest)) ≡ Ok (primary.Parentheses e, rest)
unfolding primary_with parentheses_with expression_at
enclosed_again e again zero lt rest = absurd (omega (arith, lt))
enclosed_again e again (suc n) lt rest =
    ap (λ (w : Lexemes). or_at n w >>= λ e. expect (is_mark mark.CloseParenthesis) e.1 >>= λ r. Ok (primary.Parentheses e.0, r)) (append_assoc (spell_expression e) (Punctuation mark.CloseParenthesis ∷ []) rest)
    ∙ ap (λ (r : Result (Expression × Lexemes) ℕ). r >>= λ e. expect (is_mark mark.CloseParenthesis) e.1 >>= λ r. Ok (primary.Parentheses e.0, r)) (again n (omega (arith, lt)) (Punctuation mark.CloseParenthesis ∷ rest) refl)

parentheses_are_again : (e : Expression) → Later goes_expression spell_expression or_at e → IsPrimaryAgain (primary.Parentheses e)
parentheses_are_again e again = record {
  quiet = λ rest. ap (λ (w : Lexemes). unary_operator_of (first (w ++ rest))) (spell_primary-parentheses e);
  again = λ n le rest h.
      let long = ap length (spell_primary-parentheses e) ∙ ap (λ m. suc m) (length-append (spell_expression e) (Punctuation mark.CloseParenthesis ∷ [])) in
      ap (λ (w : Lexemes). primary_at n (w ++ rest)) (spell_primary-parentheses e) ∙ enclosed_again e again n (omega (arith, le, long)) rest;
}

abbrev unary_at : ℕ → Reader Unary
unary_at n = unary_with (primary_at n)

by_operator : (o : Option UnaryOperator) (p : Primary) (n : ℕ) (rest : Lexemes) → Quiet p → primary_at n (spell_primary p ++ rest) ≡ Ok (p, rest)
    → unary_at n ((spell_unary_operator o ++ spell_primary p) ++ rest) ≡ Ok (made_unary o p, rest)
unfolding unary_with
by_operator None p n rest quiet reads =
    ap (λ (o : Option UnaryOperator). primary_at n (cond (is_some o) (drop 1 (spell_primary p ++ rest)) (spell_primary p ++ rest)) >>= λ p. Ok (made_unary o p.0, p.1)) (quiet rest)
    ∙ ap (λ (r : Result (Primary × Lexemes) ℕ). r >>= λ p. Ok (made_unary None p.0, p.1)) reads
by_operator (Some unary.Minus) p n rest quiet reads = ap (λ (r : Result (Primary × Lexemes) ℕ). r >>= λ p. Ok (made_unary (Some unary.Minus) p.0, p.1)) reads
by_operator (Some unary.Plus) p n rest quiet reads = ap (λ (r : Result (Primary × Lexemes) ℕ). r >>= λ p. Ok (made_unary (Some unary.Plus) p.0, p.1)) reads
by_operator (Some unary.Complement) p n rest quiet reads = ap (λ (r : Result (Primary × Lexemes) ℕ). r >>= λ p. Ok (made_unary (Some unary.Complement) p.0, p.1)) reads

unary_is_again : (o : Option UnaryOperator) (p : Primary) → IsPrimaryAgain p → Later goes_primary spell_unary unary_at (made_unary o p)
unary_is_again o p is n le rest h =
    let sum = ap length (spell_unary-made o p) ∙ length-append (spell_unary_operator o) (spell_primary p) in
    ap (λ (w : Lexemes). unary_at n (w ++ rest)) (spell_unary-made o p) ∙ by_operator o p n rest is.quiet (is.again n (omega (arith, le, sum)) rest h)

-- ---- all ranks

abbrev product_at : ℕ → Reader Product
product_at n = product_with (expression_at n)

abbrev sum_at : ℕ → Reader Sum
sum_at n = sum_with (expression_at n)

abbrev shift_at : ℕ → Reader Shift
shift_at n = shift_with (expression_at n)

abbrev and_at : ℕ → Reader And
and_at n = and_with (expression_at n)

abbrev exclusive_or_at : ℕ → Reader ExclusiveOr
exclusive_or_at n = exclusive_or_with (expression_at n)

quiet_product : (o : ProductOperator) → goes_primary (Some (product_token o)) ≡ false
quiet_product Times = refl
quiet_product Divided = refl
quiet_product Remainder = refl

quiet_sum : (o : SumOperator) → goes_product (Some (sum_token o)) ≡ false
quiet_sum sum.Plus = refl
quiet_sum sum.Minus = refl

quiet_shift : (o : ShiftOperator) → goes_sum (Some (shift_token o)) ≡ false
quiet_shift Left = refl
quiet_shift Right = refl

product_is_again : (x : Tree goes_primary spell_unary unary_at) (xs : List (ProductOperator × Tree goes_primary spell_unary unary_at)) → Later goes_product spell_product product_at (made_product x.0 (map (λ s. (s.0, s.1.0)) xs))
product_is_again = chain_later goes_primary product_operator_of product_token made_product spell_unary spell_product unary_at products_picked quiet_product spell_product-made

sum_is_again : (x : Tree goes_product spell_product product_at) (xs : List (SumOperator × Tree goes_product spell_product product_at)) → Later goes_sum spell_sum sum_at (made_sum x.0 (map (λ s. (s.0, s.1.0)) xs))
sum_is_again = chain_later goes_product sum_operator_of sum_token made_sum spell_product spell_sum product_at sums_picked quiet_sum spell_sum-made

shift_is_again : (x : Tree goes_sum spell_sum sum_at) (xs : List (ShiftOperator × Tree goes_sum spell_sum sum_at)) → Later goes_shift spell_shift shift_at (made_shift x.0 (map (λ s. (s.0, s.1.0)) xs))
shift_is_again = chain_later goes_sum shift_operator_of shift_token made_shift spell_sum spell_shift sum_at shifts_picked quiet_shift spell_shift-made

and_is_again : (x : Tree goes_shift spell_shift shift_at) (xs : List (Tree goes_shift spell_shift shift_at)) → Later goes_and spell_and and_at (made_and x.0 (map (λ s. s.0) xs))
and_is_again = parted_later goes_shift mark.Ampersand made_and spell_shift spell_and shift_at refl spell_and-made

exclusive_or_is_again : (x : Tree goes_and spell_and and_at) (xs : List (Tree goes_and spell_and and_at)) → Later goes_exclusive_or spell_exclusive_or exclusive_or_at (made_exclusive_or x.0 (map (λ s. s.0) xs))
exclusive_or_is_again = parted_later goes_and mark.Caret made_exclusive_or spell_and spell_exclusive_or and_at refl spell_exclusive_or-made

or_is_again : (x : Tree goes_exclusive_or spell_exclusive_or exclusive_or_at) (xs : List (Tree goes_exclusive_or spell_exclusive_or exclusive_or_at)) → Later goes_expression spell_expression or_at (made_expression x.0 (map (λ s. s.0) xs))
or_is_again = parted_later goes_exclusive_or mark.Bar made_expression spell_exclusive_or spell_expression exclusive_or_at refl spell_expression-made

-- the claims by which the induction goes
abbrev Ands : And → Type 0
Ands = Later goes_and spell_and and_at

abbrev ExclusiveOrs : ExclusiveOr → Type 0
ExclusiveOrs = Later goes_exclusive_or spell_exclusive_or exclusive_or_at

abbrev Expressions : Expression → Type 0
Expressions = Later goes_expression spell_expression or_at

abbrev Products : Product → Type 0
Products = Later goes_product spell_product product_at

abbrev Shifts : Shift → Type 0
Shifts = Later goes_shift spell_shift shift_at

abbrev Sums : Sum → Type 0
Sums = Later goes_sum spell_sum sum_at

abbrev Unaries : Unary → Type 0
Unaries = Later goes_primary spell_unary unary_at

abbrev Such : {X : Type 0} → (X → Type 0) → Type 0
Such {X} claim = (x : X) × claim x

by_primary : (y : Primary-F (Such IsPrimaryAgain) (Such Ands) (Such ExclusiveOrs) (Such Expressions) (Such Products) (Such Shifts) (Such Sums) (Such Unaries))
    → IsPrimaryAgain (roll-Primary (map-Primary (Such IsPrimaryAgain) (Such Ands) (Such ExclusiveOrs) (Such Expressions) (Such Products) (Such Shifts) (Such Sums) (Such Unaries)
    Primary And ExclusiveOr Expression Product Shift Sum Unary (λ e. e.0) (λ e. e.0) (λ e. e.0) (λ e. e.0) (λ e. e.0) (λ e. e.0) (λ e. e.0) (λ e. e.0) y))
by_primary (Primary-F.Name n) = subst IsPrimaryAgain (sym (rolls-Name n)) (name_is_again n)
by_primary (Primary-F.Literal l) = subst IsPrimaryAgain (sym (rolls-Literal l)) (literal_is_again l)
by_primary (Primary-F.Parentheses e) = subst IsPrimaryAgain (sym (rolls-Parentheses e.0)) (parentheses_are_again e.0 e.1)

expression_is_again : (e : Expression) → Expressions e
expression_is_again = ind-Expression IsPrimaryAgain Ands ExclusiveOrs Expressions Products Shifts Sums Unaries
    (λ x y is. subst (λ z. IsPrimaryAgain (roll-Primary z)) is (by_primary y))
    (λ x y is. subst (λ z. Ands (roll-And z)) is (and_is_again y.first y.rest))
    (λ x y is. subst (λ z. ExclusiveOrs (roll-ExclusiveOr z)) is (exclusive_or_is_again y.first y.rest))
    (λ x y is. subst (λ z. Expressions (roll-Expression z)) is (or_is_again y.first y.rest))
    (λ x y is. subst (λ z. Products (roll-Product z)) is (product_is_again y.first y.rest))
    (λ x y is. subst (λ z. Shifts (roll-Shift z)) is (shift_is_again y.first y.rest))
    (λ x y is. subst (λ z. Sums (roll-Sum z)) is (sum_is_again y.first y.rest))
    (λ x y is. subst (λ z. Unaries (roll-Unary z)) is (unary_is_again y.operator y.operand.0 y.operand.1))

pub expression_again : (e : Expression) (n : ℕ) (rest : Lexemes) → length (spell_expression e) < n → goes_expression (first rest) ≡ false → expression_at n (spell_expression e ++ rest) ≡ Ok (e, rest)
unfolding expression_at
expression_again e zero rest lt h = absurd (omega (arith, lt))
expression_again e (suc n) rest lt h = expression_is_again e n (omega (arith, lt)) rest h
