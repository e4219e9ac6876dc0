-- A condition has the value of the expression of C that its tokens spell.
use Rattle.std.proofs.Common.{◌≡◌, ◌∙◌, ◌≤◌, ℕ, suc, Bool, true, false, cond, List, [], ◌∷◌, ◌++◌, Option, None, Some, ℤ, pos, map, refl, subst, sym, ap}
use Rattle.std.proofs.lemmas.Bool.{and_parts}
use Rattle.std.proofs.lemmas.List.{map-append}
use Rattle.std.specs.Cmp.Lexicographic.{bytes_decides}
use Rattle.std.specs.List.{find, list_all}
use Rattle.std.specs.Option.{option_map}
use Rattle.std.specs.Prelude.{◌↔◌, codes}
use Rattle.std.specs.Str.{bytes_eq}
use Rattle.idl_lex.specs.kinds.Marks.{marks}
use Rattle.idl_lex.specs.kinds.Word.{is_word}
use Rattle.idl_lex.specs.kinds.WordTable.{value_of}
use Rattle.idl_lex.specs.tokens.Tokens.{Token}
use Rattle.idl_lex.specs.declared.kinds.kind.TokenKind.{TokenKind}
use Rattle.idl_macro.specs.Condition.{value}
use Rattle.idl_macro.specs.conditions.Arithmetic.{Value, checked}
use Rattle.idl_macro.specs.conditions.Condition.{condition, sign_of}
use Rattle.idl_macro.specs.conditions.Grammar.{HasValue, infixed, name, number, parenthesized, prefixed}
use Rattle.idl_macro.specs.conditions.Mark.{mark_of, symbol_of_kind}
use Rattle.idl_macro.specs.conditions.Number.{integer}
use Rattle.idl_macro.specs.conditions.Operator.{application, decided as needless, operation, rank, sign_application}
use Rattle.idl_macro.specs.conditions.Symbol.{number_or_mark, symbol_of}
use Rattle.idl_macro.specs.declared.conditions.operator.Operator.{Operator}
use Rattle.idl_macro.specs.declared.conditions.operator.Operator.TheVariants as op
use Rattle.idl_macro.specs.declared.conditions.operator.Sign.{Sign}
use Rattle.idl_macro.specs.declared.conditions.operator.Sign.TheVariants as sign
use Rattle.idl_macro.specs.declared.conditions.symbol.ConditionSymbol.{ConditionSymbol}
use Rattle.idl_macro.specs.declared.conditions.symbol.ConditionSymbol.TheVariants as symbol
use Rattle.idl_plain.proofs.PragmaLaws.{no-some, some-same}
use Rattle.idl_plain.specs.Condition.{Infixed, Means, Number, Parenthesized, Prefixed, Word, applied, decided, operators, signs}

pub untrue : false ≡ true → ⊥
untrue h = cc

-- ---- tables of words

module _ {V : Type 0} where
  -- a test that all rows pass holds of a word and of what stands there for it
  pub passed : (test : List ℕ × V → Bool) (table : List (List ℕ × V)) (t : List ℕ) (v : V) → list_all test table ≡ true → value_of table t ≡ Some v → test (t, v) ≡ true
  passed test [] t v all h = absurd (no-some v h)
  passed test (row ∷ table) t v all h =
      let both = and_parts (test row) (list_all test table) all in
      by (bytes_eq row.0 t) refl both.0 (λ k. passed test table t v both.1 k) h
    where
      by : (b : Bool) → bytes_eq row.0 t ≡ b → test row ≡ true → (value_of table t ≡ Some v → test (t, v) ≡ true)
          → option_map (λ (e : List ℕ × V). e.1) (cond b (Some row) (find (λ (e : List ℕ × V). bytes_eq e.0 t) table)) ≡ Some v → test (t, v) ≡ true
      by true is here more k = sym (λ i. test ((bytes_decides row.0 t).0 is i, some-same row.1 v k i)) ∙ here
      by false is here more k = more k

  -- what stands for a word in a table of things, each with its spelling
  module _ {X : Type 0} (spelling : X → List ℕ) (meaning : X → V) where
    abbrev row : X → List ℕ × V
    row x = (spelling x, meaning x)

    found : (xs : List X) (t : List ℕ) (v : V) → value_of (map row xs) t ≡ Some v → (x : X) × (t ≡ spelling x) × (v ≡ meaning x)
    found [] t v h = absurd (no-some v h)
    found (x ∷ xs) t v h = by (bytes_eq (spelling x) t) refl (λ k. found xs t v k) h
      where
        by : (b : Bool) → bytes_eq (spelling x) t ≡ b → (value_of (map row xs) t ≡ Some v → (y : X) × (t ≡ spelling y) × (v ≡ meaning y))
            → option_map (λ (e : List ℕ × V). e.1) (cond b (Some (row x)) (find (λ (e : List ℕ × V). bytes_eq e.0 t) (map row xs))) ≡ Some v
            → (y : X) × (t ≡ spelling y) × (v ≡ meaning y)
        by true is more k = (x, sym ((bytes_decides (spelling x) t).0 is), sym (some-same (meaning x) v k))
        by false is more k = more k

-- ---- operators and signs

abbrev spelling : Operator → List ℕ
spelling op.Or = codes "||"
spelling op.And = codes "&&"
spelling op.BitOr = codes "|"
spelling op.BitXor = codes "^"
spelling op.BitAnd = codes "&"
spelling op.Equal = codes "=="
spelling op.NotEqual = codes "!="
spelling op.Less = codes "<"
spelling op.LessOrEqual = codes "<="
spelling op.Greater = codes ">"
spelling op.GreaterOrEqual = codes ">="
spelling op.ShiftLeft = codes "<<"
spelling op.ShiftRight = codes ">>"
spelling op.Add = codes "+"
spelling op.Subtract = codes "-"
spelling op.Multiply = codes "*"
spelling op.Divide = codes "/"
spelling op.Remainder = codes "%"

abbrev all-operators : List Operator
all-operators =
    op.Or ∷ op.And ∷ op.BitOr ∷ op.BitXor ∷ op.BitAnd ∷ op.Equal ∷ op.NotEqual ∷ op.Less ∷ op.LessOrEqual ∷ op.Greater ∷ op.GreaterOrEqual ∷ op.ShiftLeft ∷ op.ShiftRight
    ∷ op.Add ∷ op.Subtract ∷ op.Multiply ∷ op.Divide ∷ op.Remainder ∷ []

abbrev sign_spelling : Sign → List ℕ
sign_spelling sign.Not = codes "!"
sign_spelling sign.Complement = codes "~"
sign_spelling sign.Minus = codes "-"
sign_spelling sign.Plus = codes "+"

abbrev sign_value : Sign → ℤ → Value
sign_value s a = sign_application s (Some a)

operator-found : (t : Token) (v : ℕ × (ℤ → ℤ → Value)) → value_of operators t ≡ Some v → (o : Operator) × (t ≡ spelling o) × (v ≡ (rank o, operation o))
operator-found t v h = found spelling (λ o. (rank o, operation o)) all-operators t v h

sign-found : (t : Token) (f : ℤ → Value) → value_of signs t ≡ Some f → (s : Sign) × (t ≡ sign_spelling s) × (f ≡ sign_value s)
sign-found t f h = found sign_spelling sign_value (sign.Not ∷ sign.Complement ∷ sign.Minus ∷ sign.Plus ∷ []) t f h

-- each is read as itself, has its row, and decides what it did
record IsRead (o : Operator) : Type 0 where
  pub symbol : symbol_of (spelling o) ≡ symbol.Operator o
  pub row : value_of operators (spelling o) ≡ Some (rank o, operation o)
  pub decides : (a : ℤ) → decided (spelling o) a ≡ needless o a

read : (o : Operator) → IsRead o
unfolding marks
read op.Or = record { symbol = refl; row = refl; decides = λ a. refl }
read op.And = record { symbol = refl; row = refl; decides = λ a. refl }
read op.BitOr = record { symbol = refl; row = refl; decides = λ a. refl }
read op.BitXor = record { symbol = refl; row = refl; decides = λ a. refl }
read op.BitAnd = record { symbol = refl; row = refl; decides = λ a. refl }
read op.Equal = record { symbol = refl; row = refl; decides = λ a. refl }
read op.NotEqual = record { symbol = refl; row = refl; decides = λ a. refl }
read op.Less = record { symbol = refl; row = refl; decides = λ a. refl }
read op.LessOrEqual = record { symbol = refl; row = refl; decides = λ a. refl }
read op.Greater = record { symbol = refl; row = refl; decides = λ a. refl }
read op.GreaterOrEqual = record { symbol = refl; row = refl; decides = λ a. refl }
read op.ShiftLeft = record { symbol = refl; row = refl; decides = λ a. refl }
read op.ShiftRight = record { symbol = refl; row = refl; decides = λ a. refl }
read op.Add = record { symbol = refl; row = refl; decides = λ a. refl }
read op.Subtract = record { symbol = refl; row = refl; decides = λ a. refl }
read op.Multiply = record { symbol = refl; row = refl; decides = λ a. refl }
read op.Divide = record { symbol = refl; row = refl; decides = λ a. refl }
read op.Remainder = record { symbol = refl; row = refl; decides = λ a. refl }

applied-same : (o : Operator) (a b : Value) → applied (spelling o) (operation o) a b ≡ application o a b
applied-same o None b = refl
applied-same o (Some a) None = (read o).decides a
applied-same o (Some a) (Some b) = refl

signed-same : (s : Sign) (v : Value) → (elim v as (λ _. Value) [ None ↦ None | Some a ↦ sign_value s a ]) ≡ sign_application s v
signed-same s None = refl
signed-same s (Some a) = refl

-- the symbol that a sign is
abbrev sign_symbol : Sign → ConditionSymbol
sign_symbol sign.Not = symbol.Not
sign_symbol sign.Complement = symbol.Complement
sign_symbol sign.Minus = symbol.Operator op.Subtract
sign_symbol sign.Plus = symbol.Operator op.Add

record IsSign (s : Sign) : Type 0 where
  pub symbol : symbol_of (sign_spelling s) ≡ sign_symbol s
  pub sign : sign_of (sign_symbol s) ≡ Some s
  pub row : value_of signs (sign_spelling s) ≡ Some (sign_value s)

sign-read : (s : Sign) → IsSign s
unfolding marks
sign-read sign.Not = record { symbol = refl; sign = refl; row = refl }
sign-read sign.Complement = record { symbol = refl; sign = refl; row = refl }
sign-read sign.Minus = record { symbol = refl; sign = refl; row = refl }
sign-read sign.Plus = record { symbol = refl; sign = refl; row = refl }

-- ---- what a token is that counts so

abbrev fits : ConditionSymbol → List ℕ → Bool
fits (symbol.Number n) t = false
fits symbol.Name t = false
fits (symbol.Operator o) t = bytes_eq (spelling o) t
fits symbol.Not t = bytes_eq (codes "!") t
fits symbol.Complement t = bytes_eq (codes "~") t
fits symbol.Open t = bytes_eq (codes "(") t
fits symbol.Close t = bytes_eq (codes ")") t
fits symbol.Other t = true

marks-fit : list_all (λ (row : List ℕ × TokenKind). fits (symbol_of_kind (Some row.1)) row.0) marks ≡ true
unfolding marks
marks-fit = refl

mark-fits : (t : List ℕ) → fits (mark_of t) t ≡ true
mark-fits t = by (value_of marks t) refl
  where
    by : (k : Option TokenKind) → value_of marks t ≡ k → fits (symbol_of_kind k) t ≡ true
    by None is = refl
    by (Some k) is = passed (λ (row : List ℕ × TokenKind). fits (symbol_of_kind (Some row.1)) row.0) marks t k marks-fit is

abbrev Reads : List ℕ → ConditionSymbol → Type 0
Reads t (symbol.Number n) = (is_word t ≡ false) × (integer t ≡ Some n)
Reads t symbol.Name = is_word t ≡ true
Reads t (symbol.Operator o) = t ≡ spelling o
Reads t symbol.Not = t ≡ codes "!"
Reads t symbol.Complement = t ≡ codes "~"
Reads t symbol.Open = t ≡ codes "("
Reads t symbol.Close = t ≡ codes ")"
Reads t symbol.Other = Unit {0}

spelled-so : (t s : List ℕ) → bytes_eq s t ≡ true → t ≡ s
spelled-so t s h = sym ((bytes_decides s t).0 h)

mark-reads : (t : List ℕ) (s : ConditionSymbol) → fits s t ≡ true → Reads t s
mark-reads t (symbol.Number n) h = absurd (untrue h)
mark-reads t symbol.Name h = absurd (untrue h)
mark-reads t (symbol.Operator o) h = spelled-so t (spelling o) h
mark-reads t symbol.Not h = spelled-so t (codes "!") h
mark-reads t symbol.Complement h = spelled-so t (codes "~") h
mark-reads t symbol.Open h = spelled-so t (codes "(") h
mark-reads t symbol.Close h = spelled-so t (codes ")") h
mark-reads t symbol.Other h = tt

reads : (t : List ℕ) → Reads t (symbol_of t)
reads t = by (is_word t) refl (integer t) refl
  where
    by : (b : Bool) → is_word t ≡ b → (n : Option ℕ) → integer t ≡ n → Reads t (cond b symbol.Name (number_or_mark t n))
    by true is n told = is
    by false is None told = mark-reads t (mark_of t) (mark-fits t)
    by false is (Some n) told = (is, told)

reads-as : (t : List ℕ) (s : ConditionSymbol) → symbol_of t ≡ s → Reads t s
reads-as t s is = subst (Reads t) is (reads t)

-- ---- tokens and their symbols

abbrev symbols : List Token → List ConditionSymbol
symbols ts = map symbol_of ts

module _ {X : Type 0} where
  head-same : (x y : X) (xs ys : List X) → x ∷ xs ≡ y ∷ ys → x ≡ y
  head-same x y xs ys h = cc

  tail-same : (x y : X) (xs ys : List X) → x ∷ xs ≡ y ∷ ys → xs ≡ ys
  tail-same x y xs ys h = cc

  no-more : (x : X) (xs : List X) → [] ≡ x ∷ xs → ⊥
  no-more x xs h = cc

record IsSplit (ts : List Token) (ls rs : List ConditionSymbol) : Type 0 where
  pub left : List Token
  pub right : List Token
  pub whole : ts ≡ left ++ right
  pub first : symbols left ≡ ls
  pub second : symbols right ≡ rs

split : (ts : List Token) (ls rs : List ConditionSymbol) → symbols ts ≡ ls ++ rs → IsSplit ts ls rs
split ts [] rs h = record { left = []; right = ts; whole = refl; first = refl; second = h }
split [] (l ∷ ls) rs h = absurd (no-more l (ls ++ rs) h)
split (t ∷ ts) (l ∷ ls) rs h =
    let s = split ts ls rs (tail-same (symbol_of t) l (symbols ts) (ls ++ rs) h) in
    record {
      left = t ∷ s.left;
      right = s.right;
      whole = ap (λ us. t ∷ us) s.whole;
      first = (λ i. head-same (symbol_of t) l (symbols ts) (ls ++ rs) h i ∷ s.first i);
      second = s.second;
    }

record IsFirst (ts : List Token) (s : ConditionSymbol) (ss : List ConditionSymbol) : Type 0 where
  pub token : Token
  pub others : List Token
  pub whole : ts ≡ token ∷ others
  pub reads : Reads token s
  pub rest : symbols others ≡ ss

first : (ts : List Token) (s : ConditionSymbol) (ss : List ConditionSymbol) → symbols ts ≡ s ∷ ss → IsFirst ts s ss
first [] s ss h = absurd (no-more s ss h)
first (t ∷ ts) s ss h =
    record {
      token = t;
      others = ts;
      whole = refl;
      reads = reads-as t s (head-same (symbol_of t) s (symbols ts) ss h);
      rest = tail-same (symbol_of t) s (symbols ts) ss h;
    }

nothing : (ts : List Token) → symbols ts ≡ [] → ts ≡ []
nothing [] h = refl
nothing (t ∷ ts) h = absurd (no-more (symbol_of t) (symbols ts) (sym h))

alone : (ts : List Token) (s : ConditionSymbol) → symbols ts ≡ s ∷ [] → (t : Token) × (ts ≡ t ∷ []) × Reads t s
alone ts s h =
    let f = first ts s [] h in
    (f.token, f.whole ∙ ap (λ us. f.token ∷ us) (nothing f.others f.rest), f.reads)

-- ---- an expression of tokens is one of symbols

sign-spelled : (t : Token) (k : ConditionSymbol) (s : Sign) → sign_of k ≡ Some s → Reads t k → t ≡ sign_spelling s
sign-spelled t symbol.Not s h is = is ∙ ap sign_spelling (some-same sign.Not s h)
sign-spelled t symbol.Complement s h is = is ∙ ap sign_spelling (some-same sign.Complement s h)
sign-spelled t (symbol.Operator op.Subtract) s h is = is ∙ ap sign_spelling (some-same sign.Minus s h)
sign-spelled t (symbol.Operator op.Add) s h is = is ∙ ap sign_spelling (some-same sign.Plus s h)
sign-spelled t k s h is = absurd (no-some s h)

to-tokens : (r : ℕ) (ss : List ConditionSymbol) (v : Value) → HasValue r ss v → (ts : List Token) → symbols ts ≡ ss → Means r ts v
to-tokens _ _ _ (number r n) ts h =
    let a = alone ts (symbol.Number n) h in
    subst (λ (us : List Token). Means r us (checked (pos n))) (sym a.1) (Number r n a.0 a.2.0 a.2.1)
to-tokens _ _ _ (name r) ts h =
    let a = alone ts symbol.Name h in
    subst (λ (us : List Token). Means r us (Some (pos 0))) (sym a.1) (Word r a.0 a.2)
to-tokens _ _ _ (parenthesized r ss v inner) ts h =
    let f = first ts symbol.Open (ss ++ symbol.Close ∷ []) h in
    let s = split f.others ss (symbol.Close ∷ []) f.rest in
    let a = alone s.right symbol.Close s.second in
    let is : ts ≡ codes "(" ∷ (s.left ++ codes ")" ∷ []) =
    f.whole ∙ ap (λ us. f.token ∷ us) (s.whole ∙ ap (λ us. s.left ++ us) (a.1 ∙ ap (λ t. t ∷ []) a.2)) ∙ ap (λ t. t ∷ (s.left ++ codes ")" ∷ [])) f.reads in
    subst (λ (us : List Token). Means r us v) (sym is) (Parenthesized r s.left v (to-tokens 1 ss v inner s.left s.first))
to-tokens _ _ _ (prefixed r k s ss v signed inner) ts h =
    let f = first ts k ss h in
    let spelled = sign-spelled f.token k s signed f.reads in
    let is : ts ≡ sign_spelling s ∷ f.others = f.whole ∙ ap (λ t. t ∷ f.others) spelled in
    subst (λ (us : List Token). Means r us (sign_application s v)) (sym is)
    (subst (Means r (sign_spelling s ∷ f.others)) (signed-same s v)
    (Prefixed r (sign_spelling s) (sign_value s) f.others v (sign-read s).row (to-tokens 11 ss v inner f.others f.rest)))
to-tokens _ _ _ (infixed r o ls rs a b low left right) ts h =
    let s = split ts ls (symbol.Operator o ∷ rs) h in
    let f = first s.right (symbol.Operator o) rs s.second in
    let is : ts ≡ s.left ++ spelling o ∷ f.others = s.whole ∙ ap (λ us. s.left ++ us) (f.whole ∙ ap (λ t. t ∷ f.others) f.reads) in
    subst (λ (us : List Token). Means r us (application o a b)) (sym is)
    (subst (Means r (s.left ++ spelling o ∷ f.others)) (applied-same o a b)
    (Infixed r (rank o) (spelling o) (operation o) s.left f.others a b (read o).row low (to-tokens (rank o) ls a left s.left s.first) (to-tokens (suc (rank o)) rs b right f.others f.rest)))

-- ---- and one of symbols is one of tokens

opened : symbol_of (codes "(") ≡ symbol.Open
unfolding marks
opened = refl

closed : symbol_of (codes ")") ≡ symbol.Close
unfolding marks
closed = refl

of-tokens : (r : ℕ) (ts : List Token) (v : Value) → Means r ts v → HasValue r (symbols ts) v
of-tokens _ _ _ (Number r n t word is) =
    let same : symbol_of t ≡ symbol.Number n = ap (λ b. cond b symbol.Name (number_or_mark t (integer t))) word ∙ ap (number_or_mark t) is in
    subst (λ (s : ConditionSymbol). HasValue r (s ∷ []) (checked (pos n))) (sym same) (number r n)
of-tokens _ _ _ (Word r t word) =
    let same : symbol_of t ≡ symbol.Name = ap (λ b. cond b symbol.Name (number_or_mark t (integer t))) word in
    subst (λ (s : ConditionSymbol). HasValue r (s ∷ []) (Some (pos 0))) (sym same) (name r)
of-tokens _ _ _ (Parenthesized r ts v inner) =
    let behind : symbols (ts ++ codes ")" ∷ []) ≡ symbols ts ++ symbol.Close ∷ [] = map-append symbol_of ts (codes ")" ∷ []) ∙ ap (λ s. symbols ts ++ s ∷ []) closed in
    let same : symbols (codes "(" ∷ (ts ++ codes ")" ∷ [])) ≡ symbol.Open ∷ (symbols ts ++ symbol.Close ∷ []) = λ i. opened i ∷ behind i in
    subst (λ (ss : List ConditionSymbol). HasValue r ss v) (sym same) (parenthesized r (symbols ts) v (of-tokens 1 ts v inner))
of-tokens _ _ _ (Prefixed r t f ts v known inner) =
    let s = sign-found t f known in
    let whole : HasValue r (sign_symbol s.0 ∷ symbols ts) (sign_application s.0 v) = prefixed r (sign_symbol s.0) s.0 (symbols ts) v (sign-read s.0).sign (of-tokens 11 ts v inner) in
    subst (λ (g : ℤ → Value). HasValue r (symbol_of t ∷ symbols ts) (elim v [ None ↦ None | Some a ↦ g a ])) (sym s.2)
    (subst (λ (k : ConditionSymbol). HasValue r (k ∷ symbols ts) (elim v [ None ↦ None | Some a ↦ sign_value s.0 a ])) (sym (ap symbol_of s.1 ∙ (sign-read s.0).symbol))
    (subst (HasValue r (sign_symbol s.0 ∷ symbols ts)) (sym (signed-same s.0 v)) whole))
of-tokens _ _ _ (Infixed r n t f ls rs a b known low left right) =
    let o = operator-found t (n, f) known in
    let same : n ≡ rank o.0 = ap (λ (v : ℕ × (ℤ → ℤ → Value)). v.0) o.2 in
    let value : applied t f a b ≡ application o.0 a b =
    (λ i. applied (o.1 i) (o.2 i).1 a b) ∙ applied-same o.0 a b in
    let first : HasValue (rank o.0) (symbols ls) a = subst (λ (m : ℕ). HasValue m (symbols ls) a) same (of-tokens n ls a left) in
    let second : HasValue (suc (rank o.0)) (symbols rs) b = subst (λ (m : ℕ). HasValue (suc m) (symbols rs) b) same (of-tokens (suc n) rs b right) in
    subst (λ (ss : List ConditionSymbol). HasValue r ss (applied t f a b)) (sym (map-append symbol_of ls (t ∷ rs)))
    (subst (λ (k : ConditionSymbol). HasValue r (symbols ls ++ k ∷ symbols rs) (applied t f a b)) (sym (ap symbol_of o.1 ∙ (read o.0).symbol))
    (subst (HasValue r (symbols ls ++ symbol.Operator o.0 ∷ symbols rs)) (sym value)
    (infixed r o.0 (symbols ls) (symbols rs) a b (subst (λ (m : ℕ). r ≤ m) same low) first second)))

pub condition-means : ((ss : List ConditionSymbol) (v : Value) → HasValue 1 ss v → condition ss ≡ v)
    → ((ss : List ConditionSymbol) (z : ℤ) → condition ss ≡ Some z → HasValue 1 ss (Some z))
    → (tokens : List Token) (z : ℤ) → (value tokens ≡ Some z) ↔ Means 1 tokens (Some z)
condition-means comes form tokens z = (
  λ h. to-tokens 1 (symbols tokens) (Some z) (form (symbols tokens) z h) tokens refl,
  λ h. comes (symbols tokens) (Some z) (of-tokens 1 tokens (Some z) h),
)
