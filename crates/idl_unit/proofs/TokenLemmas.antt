-- The least fault of tokens.
use Rattle.std.proofs.Common.{◌≡◌, ◌∙◌, ℕ, ◌+◌, ◌<◌, ◌≤◌, Bool, true, false, cond, List, [], ◌∷◌, ◌++◌, length, map, drop, Option, None, Some, refl, sym, ap, arith}
use Rattle.std.specs.Prelude.{count_by, fold, nat_eq, nat_lt, ⊤}
use Rattle.std.proofs.lemmas.Bool.{or_from, and_left, and_right, le-ltb, ne_eqb, cond-false}
use Rattle.std.proofs.lemmas.List.Sums.{sum_by-cons}
use Rattle.idl_fault.specs.Code.{number_of}
use Rattle.idl_fault.specs.declared.code.Code.{Code}
use Rattle.idl_fault.specs.declared.code.Code.TheVariants.{MixedWidths, LeftOut, NestedTooDeep, LikeKeyword}
use Rattle.idl_lex.specs.kinds.Kind.{kind_of}
use Rattle.idl_lex.specs.tokens.Tokens.{Token}
use Rattle.idl_lex.specs.declared.kinds.kind.Defect.{Defect}
use Rattle.idl_lex.specs.declared.kinds.kind.Defect.TheVariants as defect
use Rattle.idl_lex.specs.declared.kinds.kind.TokenKind.{TokenKind}
use Rattle.idl_lex.specs.declared.kinds.kind.TokenKind.TheVariants.{Accepted, Refused, Miscased, Identifier, Escaped, Integer, Character, WideCharacter, String, WideString, Punctuation, HeaderName, Preprocessing, Bad}
use Rattle.idl_unit.specs.Faults.{least_fault, lesser_fault}
use Rattle.idl_unit.specs.TokenRules.{code_if, codes_beside, defect_code, fault_at, faults_after, first, is_left_out, is_other_width, is_too_deep, nests, token_codes, token_faults, unnests}
use Rattle.idl_unit.specs.declared.fault.Fault.{Fault}
use Rattle.idl_unit.specs.declared.token_rules.TokenContext.{TokenContext}

-- each of these codes has this number or more
abbrev AllFrom : ℕ → List Code → Type 0
AllFrom n [] = ⊤
AllFrom n (code ∷ codes) = (n ≤ number_of code) × AllFrom n codes

-- the codes after the first aren't less
abbrev IsLed : List Code → Type 0
IsLed [] = ⊤
IsLed (code ∷ codes) = AllFrom (number_of code) codes

abbrev after_deep : Bool → Bool → List Code
after_deep deep miscased = code_if deep NestedTooDeep ++ code_if miscased LikeKeyword

abbrev after_left : Bool → Bool → Bool → List Code
after_left left deep miscased = code_if left LeftOut ++ after_deep deep miscased

from-after : (n : ℕ) (a b c : Bool) → n ≤ 21 → AllFrom n (after_left a b c)
from-after n true true true le = (le, (omega arith, (omega arith, tt)))
from-after n true true false le = (le, (omega arith, tt))
from-after n true false true le = (le, (omega arith, tt))
from-after n true false false le = (le, tt)
from-after n false true true le = (omega arith, (omega arith, tt))
from-after n false true false le = (omega arith, tt)
from-after n false false true le = (omega arith, tt)
from-after n false false false le = tt

led-after : (a b c : Bool) → IsLed (after_left a b c)
led-after true true true = (omega arith, (omega arith, tt))
led-after true true false = (omega arith, tt)
led-after true false true = (omega arith, tt)
led-after true false false = tt
led-after false true true = (omega arith, tt)
led-after false true false = tt
led-after false false true = tt
led-after false false false = tt

led-mixed : (m a b c : Bool) → IsLed (code_if m MixedWidths ++ after_left a b c)
led-mixed true a b c = from-after 8 a b c (omega arith)
led-mixed false a b c = led-after a b c

defect-number : (why : Defect) → number_of (defect_code why) ≤ 21
defect-number defect.UnknownByte = omega arith
defect-number defect.NothingEscaped = omega arith
defect-number defect.UnclosedLiteral = omega arith
defect-number defect.NotOneCharacter = omega arith
defect-number defect.BadEscape = omega arith
defect-number defect.MalformedInteger = omega arith
defect-number defect.FloatingLiteral = omega arith
defect-number defect.IntegerTooLarge = omega arith
defect-number defect.UnclosedComment = omega arith

-- the codes of a token stand with the least first
led : (kind : TokenKind) (last second : Option TokenKind) (deep : Bool) → IsLed (codes_beside kind last second deep)
led (Accepted keyword) last second deep = led-after (is_left_out (Accepted keyword) last second) deep false
led Refused last second deep = led-after true deep false
led Miscased last second deep = led-after false deep true
led Identifier last second deep = led-after false deep false
led Escaped last second deep = led-after false deep false
led Integer last second deep = led-after false deep false
led Character last second deep = led-after false deep false
led WideCharacter last second deep = led-after false deep false
led String last second deep = led-mixed (is_other_width String last) false deep false
led WideString last second deep = led-mixed (is_other_width WideString last) false deep false
led (Punctuation mark) last second deep = led-after false deep false
led HeaderName last second deep = led-after false deep false
led (Preprocessing mark) last second deep = from-after 1 false deep false (omega arith)
led (Bad why) last second deep = from-after (number_of (defect_code why)) false deep false (defect-number why)

lesser-later : (f g : Fault) → f.index < g.index → lesser_fault f g ≡ f
lesser-later f g lt = cond-false _ g f (or_from _ _ (le-ltb g.index f.index (omega arith)) (and_left _ _ (ne_eqb g.index f.index (λ e. omega arith))))

lesser-beside : (n : ℕ) (c d : Code) → number_of c ≤ number_of d → lesser_fault (fault_at n c) (fault_at n d) ≡ fault_at n c
lesser-beside n c d le =
    cond-false _ (fault_at n d) (fault_at n c) (or_from _ _ (le-ltb n n (omega arith)) (and_right (nat_eq n n) _ (le-ltb (number_of d) (number_of c) le)))

-- at one token the first code is the least
fold-beside : (n : ℕ) (code : Code) (codes : List Code) (rest : List Fault) → AllFrom (number_of code) codes
    → fold lesser_fault (fault_at n code) (map (fault_at n) codes ++ rest) ≡ fold lesser_fault (fault_at n code) rest
fold-beside n code [] rest all = refl
fold-beside n code (c ∷ codes) rest all =
    ap (λ g. fold lesser_fault g (map (fault_at n) codes ++ rest)) (lesser-beside n code c all.0) ∙ fold-beside n code codes rest all.1

fold-later : (f : Fault) (n : ℕ) (codes : List Code) (rest : List Fault) → f.index < n
    → fold lesser_fault f (map (fault_at n) codes ++ rest) ≡ fold lesser_fault f rest
fold-later f n [] rest lt = refl
fold-later f n (code ∷ codes) rest lt =
    ap (λ g. fold lesser_fault g (map (fault_at n) codes ++ rest)) (lesser-later f (fault_at n code) lt) ∙ fold-later f n codes rest lt

-- those of later tokens are greater
fold-after : (f : Fault) (before kinds : List TokenKind) → f.index < length before → fold lesser_fault f (faults_after before kinds) ≡ f
fold-after f before [] lt = refl
fold-after f before (kind ∷ kinds) lt =
    fold-later f (length before) (token_codes before kind) (faults_after (kind ∷ before) kinds) lt ∙ fold-after f (kind ∷ before) kinds (omega arith)

least-codes : (before : List TokenKind) (kind : TokenKind) (kinds : List TokenKind) (codes : List Code) (code : Code) → IsLed codes → Some code ≡ first codes
    → least_fault (map (fault_at (length before)) codes ++ faults_after (kind ∷ before) kinds) ≡ Some (fault_at (length before) code)
least-codes before kind kinds [] code led e = cc
least-codes before kind kinds (c ∷ codes) code led e =
    let is : c ≡ code = cc in
    ap Some (fold-beside (length before) c codes (faults_after (kind ∷ before) kinds) led
    ∙ fold-after (fault_at (length before) c) (kind ∷ before) kinds (omega arith)
    ∙ ap (fault_at (length before)) is)

none-codes : (before : List TokenKind) (kind : TokenKind) (kinds : List TokenKind) (codes : List Code) → None ≡ first codes
    → map (fault_at (length before)) codes ++ faults_after (kind ∷ before) kinds ≡ faults_after (kind ∷ before) kinds
none-codes before kind kinds [] e = refl
none-codes before kind kinds (c ∷ codes) e = cc

-- what is known of a walk before a token: the kinds of the tokens before it, the nearest first
pub record IsWalked (unit : List Token) (index : ℕ) (state : TokenContext) : Type 0 where
  pub before : List TokenKind
  pub faults : token_faults unit ≡ faults_after before (map kind_of (drop index unit))
  pub count : length before ≡ index
  pub last : first before ≡ state.last
  pub second : first (drop 1 before) ≡ state.second
  pub opened : count_by nests before ≡ state.opened
  pub closed : count_by unnests before ≡ state.closed

count-cons : (p : TokenKind → Bool) (kind : TokenKind) (kinds : List TokenKind) → count_by p (kind ∷ kinds) ≡ cond (p kind) 1 0 + count_by p kinds
count-cons p kind kinds = sum_by-cons (λ k. cond (p k) 1 0) kind kinds

codes-are : (unit : List Token) (index : ℕ) (state : TokenContext) (w : IsWalked unit index state) (kind : TokenKind) (through : TokenContext)
    → through.opened ≡ cond (nests kind) 1 0 + state.opened → through.closed ≡ cond (unnests kind) 1 0 + state.closed
    → token_codes w.before kind ≡ codes_beside kind state.last state.second (nat_lt (through.closed + 64) through.opened)
codes-are unit index state w kind through opened closed =
    ap (λ l. codes_beside kind l (first (drop 1 w.before)) (is_too_deep (kind ∷ w.before))) w.last
    ∙ ap (λ s. codes_beside kind state.last s (is_too_deep (kind ∷ w.before))) w.second
    ∙ ap (λ n. codes_beside kind state.last state.second (nat_lt (n + 64) (count_by nests (kind ∷ w.before))))
    (count-cons unnests kind w.before ∙ ap (λ n. cond (unnests kind) 1 0 + n) w.closed ∙ sym closed)
    ∙ ap (λ n. codes_beside kind state.last state.second (nat_lt (through.closed + 64) n))
    (count-cons nests kind w.before ∙ ap (λ n. cond (nests kind) 1 0 + n) w.opened ∙ sym opened)

rest-is : (unit : List Token) (index : ℕ) (state : TokenContext) (w : IsWalked unit index state) (t : Token) (kind : TokenKind) → drop index unit ≡ t ∷ drop (index + 1) unit → kind ≡ kind_of t
    → token_faults unit ≡ map (fault_at (length w.before)) (token_codes w.before kind) ++ faults_after (kind ∷ w.before) (map kind_of (drop (index + 1) unit))
rest-is unit index state w t kind next is =
    w.faults ∙ ap (λ ts. faults_after w.before (map kind_of ts)) next
    ∙ ap (λ k. faults_after w.before (k ∷ map kind_of (drop (index + 1) unit))) (sym is)

-- a token with a code
pub walked-fault : (unit : List Token) (index : ℕ) (state : TokenContext) (w : IsWalked unit index state) (t : Token) (kind : TokenKind) (through : TokenContext) (code : Code)
    → drop index unit ≡ t ∷ drop (index + 1) unit → kind ≡ kind_of t
    → through.opened ≡ cond (nests kind) 1 0 + state.opened → through.closed ≡ cond (unnests kind) 1 0 + state.closed
    → Some code ≡ first (codes_beside kind state.last state.second (nat_lt (through.closed + 64) through.opened))
    → least_fault (token_faults unit) ≡ Some (fault_at index code)
walked-fault unit index state w t kind through code next is opened closed e =
    let codes = codes-are unit index state w kind through opened closed in
    ap least_fault (rest-is unit index state w t kind next is)
    ∙ least-codes w.before kind (map kind_of (drop (index + 1) unit)) (token_codes w.before kind) code
    (led kind (first w.before) (first (drop 1 w.before)) (is_too_deep (kind ∷ w.before))) (e ∙ ap first (sym codes))
    ∙ ap (λ n. Some (fault_at n code)) w.count

-- a token without
pub walked-on : (unit : List Token) (index : ℕ) (state : TokenContext) (w : IsWalked unit index state) (t : Token) (kind : TokenKind) (through : TokenContext)
    → drop index unit ≡ t ∷ drop (index + 1) unit → kind ≡ kind_of t → through.last ≡ Some kind → through.second ≡ state.last
    → through.opened ≡ cond (nests kind) 1 0 + state.opened → through.closed ≡ cond (unnests kind) 1 0 + state.closed
    → None ≡ first (codes_beside kind state.last state.second (nat_lt (through.closed + 64) through.opened))
    → IsWalked unit (index + 1) through
walked-on unit index state w t kind through next is last second opened closed e = record {
  before = kind ∷ w.before;
  faults =
      rest-is unit index state w t kind next is
      ∙ none-codes w.before kind (map kind_of (drop (index + 1) unit)) (token_codes w.before kind) (e ∙ ap first (sym (codes-are unit index state w kind through opened closed)));
  count = omega (arith, w.count);
  last = sym last;
  second = w.last ∙ sym second;
  opened = count-cons nests kind w.before ∙ ap (λ n. cond (nests kind) 1 0 + n) w.opened ∙ sym opened;
  closed = count-cons unnests kind w.before ∙ ap (λ n. cond (unnests kind) 1 0 + n) w.closed ∙ sym closed;
}
