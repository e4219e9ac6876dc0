-- A unit without faults of its tokens has no more levels than are allowed.
use Rattle.std.proofs.Common.{◌≡◌, ◌∙◌, ℕ, zero, suc, ◌+◌, ◌<◌, ◌≤◌, Bool, true, false, cond, List, [], ◌∷◌, ◌++◌, length, map, Option, None, Some, refl, sym, ap, subst, arith, inl, inr, IsTrue, rules}
use Rattle.std.specs.Prelude.{count_by, nat_lt, drop}
use Rattle.std.proofs.lemmas.Bool.{cases_lt, lt-ltb}
use Rattle.std.proofs.lemmas.List.{length-map}
use Rattle.std.proofs.lemmas.List.Sums.{sum_by-cons}
use Rattle.idl_fault.specs.declared.code.Code.{Code}
use Rattle.idl_fault.specs.declared.code.Code.TheVariants.{MixedWidths, LeftOut, NestedTooDeep}
use Rattle.idl_lex.specs.kinds.Kind.{kind_of, name_of}
use Rattle.idl_lex.specs.kinds.Literal.{literal_value}
use Rattle.idl_lex.specs.kinds.Number.{integer_value}
use Rattle.idl_lex.specs.declared.kinds.kind.TokenKind.{TokenKind}
use Rattle.idl_lex.specs.declared.kinds.kind.TokenKind.TheVariants as kind
use Rattle.idl_lex.specs.declared.kinds.mark.Mark.{Mark}
use Rattle.idl_lex.specs.declared.kinds.mark.Mark.TheVariants as mark
use Rattle.idl_tree.specs.Lexeme.{Lexeme, Lexemes, Punctuation, Identifier, Integer, Character, WideCharacter, Text, WideText, one_character, valued, lexeme_by, lexeme_of, lexemes}
use Rattle.idl_tree.specs.reading.Levels.{Side, Opening, Closing, Neither, side_of, left_behind, is_within, IsWithin}
use Rattle.idl_tree.specs.reading.ReadUnit.{unit_at}
use Rattle.idl_unit.specs.Faults.{least_fault}
use Rattle.idl_unit.specs.TokenRules.{bad_codes, code_if, codes_beside, fault_at, faults_after, first, is_left_out, is_other_width, is_too_deep, nests, token_codes, token_faults, unnests}
use Rattle.idl_unit.specs.declared.fault.Fault.{Fault}

-- ---- what a token of a kind is among brackets

abbrev side_by : TokenKind → Side
side_by (kind.Punctuation m) = side_of (Punctuation m)
side_by _ = Neither

side-valued : {A : Type 0} (lexeme : A → Lexeme) (o : Option A) → ((a : A) → side_of (lexeme a) ≡ Neither) → side_of (valued lexeme o) ≡ Neither
side-valued lexeme None h = refl
side-valued lexeme (Some a) h = h a

side-lexeme_by : (k : TokenKind) (token : List ℕ) → side_of (lexeme_by k token) ≡ side_by k
side-lexeme_by (kind.Punctuation m) token = refl
side-lexeme_by kind.Identifier token = side-valued Identifier (name_of token) (λ a. refl)
side-lexeme_by kind.Escaped token = side-valued Identifier (name_of token) (λ a. refl)
side-lexeme_by kind.Integer token = side-valued Integer (integer_value token) (λ a. refl)
side-lexeme_by kind.Character token = side-valued Character (one_character (literal_value token)) (λ a. refl)
side-lexeme_by kind.WideCharacter token = side-valued WideCharacter (one_character (literal_value token)) (λ a. refl)
side-lexeme_by kind.String token = side-valued Text (literal_value token) (λ a. refl)
side-lexeme_by kind.WideString token = side-valued WideText (literal_value token) (λ a. refl)
side-lexeme_by _ token = refl

side-lexeme : (token : List ℕ) → side_of (lexeme_of token) ≡ side_by (kind_of token)
unfolding lexeme_of
side-lexeme token = side-lexeme_by (kind_of token) token

-- how many it opens and closes
abbrev opened : Side → ℕ
opened Opening = 1
opened _ = 0

abbrev closed : Side → ℕ
closed Closing = 1
closed _ = 0

opened-is : (k : TokenKind) → cond (nests k) 1 0 ≡ opened (side_by k)
opened-is (kind.Punctuation m) = by m
  where
    by : (m : Mark) → cond (nests (kind.Punctuation m)) 1 0 ≡ opened (side_by (kind.Punctuation m))
    by mark.OpenBrace = refl
    by mark.OpenParenthesis = refl
    by mark.OpenBracket = refl
    by mark.Less = refl
    by mark.CloseBrace = refl
    by mark.CloseParenthesis = refl
    by mark.CloseBracket = refl
    by mark.Greater = refl
    by _ = refl
opened-is _ = refl

closed-is : (k : TokenKind) → cond (unnests k) 1 0 ≡ closed (side_by k)
closed-is (kind.Punctuation m) = by m
  where
    by : (m : Mark) → cond (unnests (kind.Punctuation m)) 1 0 ≡ closed (side_by (kind.Punctuation m))
    by mark.OpenBrace = refl
    by mark.OpenParenthesis = refl
    by mark.OpenBracket = refl
    by mark.Less = refl
    by mark.CloseBrace = refl
    by mark.CloseParenthesis = refl
    by mark.CloseBracket = refl
    by mark.Greater = refl
    by _ = refl
closed-is _ = refl

-- ---- faults

none_least : (faults : List Fault) → least_fault faults ≡ None → faults ≡ []
none_least [] h = refl
none_least (f ∷ fs) h = absurd cc

both_empty : {A : Type 0} (xs ys : List A) → xs ++ ys ≡ [] → (xs ≡ []) × (ys ≡ [])
both_empty [] ys h = (refl, h)
both_empty (x ∷ xs) ys h = absurd cc

none_mapped : {A B : Type 0} (f : A → B) (xs : List A) → map f xs ≡ [] → xs ≡ []
none_mapped f [] h = refl
none_mapped f (x ∷ xs) h = absurd cc

not_coded : (b : Bool) (code : Code) → code_if b code ≡ [] → b ≡ false
not_coded true code h = absurd cc
not_coded false code h = refl

-- a token without codes isn't too deep
not_deep : (k : TokenKind) (last second : Option TokenKind) (deep : Bool) → codes_beside k last second deep ≡ [] → deep ≡ false
not_deep k last second deep h =
    let behind_bad = (both_empty (bad_codes k) _ h).1 in
    let behind_width = (both_empty (code_if (is_other_width k last) MixedWidths) _ behind_bad).1 in
    let behind_left = (both_empty (code_if (is_left_out k last second) LeftOut) _ behind_width).1 in
    not_coded deep NestedTooDeep (both_empty (code_if deep NestedTooDeep) _ behind_left).0

count-cons : {A : Type 0} (p : A → Bool) (x : A) (xs : List A) → count_by p (x ∷ xs) ≡ cond (p x) 1 0 + count_by p xs
count-cons p x xs = sum_by-cons (λ y. cond (p y) 1 0) x xs

not-lt : (a b : ℕ) → nat_lt a b ≡ false → b ≤ a
not-lt a b h = elim (cases_lt a b) [ inl less ↦ absurd (let t = lt-ltb a b less in cc) | inr more ↦ more ]

-- ---- levels

-- what is left behind a token, from how many were opened and closed before it and with it
behind_token : (ts : Lexemes) (side : Side) (left o c o2 c2 : ℕ) → left + o ≡ c + 64 → o2 ≡ opened side + o → c2 ≡ closed side + c → o2 ≤ c2 + 64
    → ((rest : ℕ) → rest + o2 ≡ c2 + 64 → is_within (Some rest) ts ≡ true) → is_within (left_behind side left) ts ≡ true
behind_token ts Opening zero o c o2 c2 levels opens closes nested goes_on = absurd (omega (arith, levels, opens, closes, nested))
behind_token ts Opening (suc left) o c o2 c2 levels opens closes nested goes_on = goes_on left (omega (arith, levels, opens, closes))
behind_token ts Closing left o c o2 c2 levels opens closes nested goes_on = goes_on (suc left) (omega (arith, levels, opens, closes))
behind_token ts Neither left o c o2 c2 levels opens closes nested goes_on = goes_on left (omega (arith, levels, opens, closes))

-- as many levels are left as 64 and those that were closed are more than those that were opened
stays_within : (before : List TokenKind) (tokens : List (List ℕ)) (left : ℕ) → left + count_by nests before ≡ count_by unnests before + 64 → faults_after before (map kind_of tokens) ≡ []
    → is_within (Some left) (lexemes tokens) ≡ true
stays_within before [] left levels h = refl
stays_within before (t ∷ tokens) left levels h =
    let k = kind_of t in
    let parts = both_empty (map (fault_at (length before)) (token_codes before k)) (faults_after (k ∷ before) (map kind_of tokens)) h in
    let deep = not_deep k (first before) (first (drop 1 before)) (is_too_deep (k ∷ before)) (none_mapped (fault_at (length before)) (token_codes before k) parts.0) in
    let nested = not-lt (count_by unnests (k ∷ before) + 64) (count_by nests (k ∷ before)) deep in
    let opens : count_by nests (k ∷ before) ≡ opened (side_by k) + count_by nests before = count-cons nests k before ∙ ap (λ (n : ℕ). n + count_by nests before) (opened-is k) in
    let closes : count_by unnests (k ∷ before) ≡ closed (side_by k) + count_by unnests before = count-cons unnests k before ∙ ap (λ (n : ℕ). n + count_by unnests before) (closed-is k) in
    subst (λ (side : Side). is_within (left_behind side left) (lexemes tokens) ≡ true) (sym (side-lexeme t))
    (behind_token (lexemes tokens) (side_by k) left (count_by nests before) (count_by unnests before) (count_by nests (k ∷ before)) (count_by unnests (k ∷ before)) levels opens closes nested
    (λ rest more. stays_within (k ∷ before) tokens rest more parts.1))

pub within_levels : (tokens : List (List ℕ)) → least_fault (token_faults tokens) ≡ None → is_within (Some 64) (lexemes tokens) ≡ true
within_levels tokens h = stays_within [] tokens 64 refl (none_least (token_faults tokens) h)

-- as many levels as are allowed, and one more, are enough
pub levels_enough : ((levels n m : ℕ) (tokens : Lexemes) → IsWithin levels tokens → levels < n → levels < m → unit_at n tokens ≡ unit_at m tokens) → ((tokens : Lexemes) → IsWithin (length tokens) tokens)
    → (tokens : List (List ℕ)) → least_fault (token_faults tokens) ≡ None → unit_at 65 (lexemes tokens) ≡ unit_at (length tokens + 1) (lexemes tokens)
levels_enough same most tokens h = elim (cases_lt 64 (length tokens + 1)) [
  | inl less ↦ same 64 65 (length tokens + 1) (lexemes tokens) (to_true (within_levels tokens h)) (omega arith) less
  | inr more ↦ same (length (lexemes tokens)) 65 (length tokens + 1) (lexemes tokens) (most (lexemes tokens)) (omega (arith, more, length-map tokens lexeme_of)) (omega (arith, length-map tokens lexeme_of))
]
  where
    to_true : {b : Bool} → b ≡ true → IsTrue b
    to_true h = search rules
