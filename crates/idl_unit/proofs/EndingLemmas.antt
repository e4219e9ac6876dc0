-- Where a unit of tokens ends, token by token.
use Rattle.std.proofs.Common.{◌≡◌, ◌≢◌, ◌∙◌, ℕ, zero, suc, ◌+◌, ◌-◌, ◌<◌, ◌≤◌, Bool, true, false, cond, not, ◌&&◌, ◌||◌, List, [], ◌∷◌, ◌++◌, length, take, drop, get_or, ◌⊎◌, inl, inr, refl, sym, ap, arith, append_assoc, take-append-drop}
use Rattle.std.proofs.lemmas.List.{drop_more, take_more}
use Rattle.std.proofs.lemmas.Bool.{ne_eqb, eq-eqb}
use Rattle.std.specs.Prelude.{count_by, fold}
use Rattle.idl_lex.specs.tokens.Tokens.{Token}
use Rattle.idl_unit.specs.Ending.{begins, closes, edge, ends, ends_by, ends_in, is_balanced, is_empty, is_interface, is_semicolon, opens, role, role_of, rule_by, rule_of, token_units}
use Rattle.idl_lex.specs.declared.kinds.keyword.Keyword.{Keyword}
use Rattle.idl_lex.specs.declared.kinds.keyword.Keyword.TheVariants as keyword
use Rattle.idl_lex.specs.declared.kinds.kind.TokenKind.TheVariants.{Accepted}
use Rattle.idl_unit.specs.declared.role.Role.{Role}
use Rattle.idl_unit.specs.declared.role.Role.TheVariants.{OpenBrace, CloseBrace, Semicolon, Module, Interface, Local, Other}
use Rattle.idl_unit.specs.declared.role.Rule.{Rule}
use Rattle.idl_unit.specs.declared.role.Rule.TheVariants.{Closing, Heading, Declaration}
use Rattle.idl_unit.proofs.CutLemmas.{pending, pending-step, pending-first, pending-end}

-- the last of tokens
pub ends_in-more : (p : Role → Bool) (front : List Token) (t : Token) → ends_in p (front ++ t ∷ []) ≡ p (role t)
ends_in-more p [] t = refl
ends_in-more p (u ∷ []) t = refl
ends_in-more p (u ∷ v ∷ front) t = ends_in-more p (v ∷ front) t

pub some-more : (front : List Token) (t : Token) → front ++ t ∷ [] ≢ []
some-more [] t e = cc
some-more (u ∷ front) t e = cc

or-true : (a : Bool) → (a || true) ≡ true
or-true true = refl
or-true false = refl

and-false : (a : Bool) → (a && false) ≡ false
and-false true = refl
and-false false = refl

ends_by-end : (rule : Rule) (unit : List Token) → ends_by rule unit [] ≡ true
ends_by-end Closing unit = or-true (ends_in is_semicolon unit)
ends_by-end Heading unit = refl
ends_by-end Declaration unit = refl

-- a unit ends at the end of the tokens
pub ends-end : (unit : List Token) → ends unit [] ≡ true
ends-end unit = ends_by-end (rule_of (unit ++ [])) unit

-- a unit by the rule of all tokens
pub ends-rule : (rule : Rule) (unit rest : List Token) → rule_of (unit ++ rest) ≡ rule → ends unit rest ≡ ends_by rule unit rest
ends-rule rule unit rest is = ap (λ r. ends_by r unit rest) is

-- ---- closings
-- `}` before no `;`
pub closing-one : (tokens : List Token) → 0 < length tokens → rule_of tokens ≡ Closing → begins is_semicolon (drop 1 tokens) ≡ false
    → token_units tokens ≡ take 1 tokens ∷ token_units (drop 1 tokens)
closing-one [] lt is none = absurd (omega arith)
closing-one (t ∷ rest) lt is none =
    pending-first ends t rest
    ∙ pending-end ends (t ∷ []) rest (λ e. cc)
    (ends-rule Closing (t ∷ []) rest is ∙ ap (λ b. is_semicolon (role t) || not b) none ∙ or-true (is_semicolon (role t)))

local-closes : (b : Bool) → cond b Heading Declaration ≡ Closing → false ≡ true
local-closes true e = cc
local-closes false e = cc

rule_by-Closing : (r : Role) (rest : List Token) → rule_by r rest ≡ Closing → closes r ≡ true
rule_by-Closing OpenBrace rest e = cc
rule_by-Closing CloseBrace rest e = refl
rule_by-Closing Semicolon rest e = cc
rule_by-Closing Module rest e = cc
rule_by-Closing Interface rest e = cc
rule_by-Closing Local rest e = local-closes (begins is_interface rest) e
rule_by-Closing Other rest e = cc

closes-semicolon : (r : Role) → closes r ≡ true → is_semicolon r ≡ false
closes-semicolon OpenBrace e = refl
closes-semicolon CloseBrace e = refl
closes-semicolon Semicolon e = cc
closes-semicolon Module e = refl
closes-semicolon Interface e = refl
closes-semicolon Local e = refl
closes-semicolon Other e = refl

-- `}` and `;`
pub closing-two : (tokens : List Token) → rule_of tokens ≡ Closing → begins is_semicolon (drop 1 tokens) ≡ true
    → (token_units tokens ≡ take 2 tokens ∷ token_units (drop 2 tokens)) × (2 ≤ length tokens)
closing-two [] is semicolon = cc
closing-two (t ∷ []) is semicolon = cc
closing-two (t ∷ u ∷ rest) is semicolon =
    let close : closes (role t) ≡ true = rule_by-Closing (role t) (u ∷ rest) is in (
      pending-first ends t (u ∷ rest)
          ∙ pending-step ends (t ∷ []) u rest
          (ends-rule Closing (t ∷ []) (u ∷ rest) is ∙ ap (λ b. b || not (is_semicolon (role u))) (closes-semicolon (role t) close) ∙ ap not semicolon)
          ∙ pending-end ends (t ∷ u ∷ []) rest (λ e. cc)
          (ends-rule Closing (t ∷ u ∷ []) rest is ∙ ap (λ b. b || not (begins is_semicolon rest)) semicolon),
      omega arith,
    )

-- ---- a token of a longer unit
pub record IsAt (tokens : List Token) (i : ℕ) (t : Token) : Type 0 where
  pub next : drop i tokens ≡ t ∷ drop (i + 1) tokens
  pub more : take (i + 1) tokens ≡ take i tokens ++ t ∷ []
  pub whole : take i tokens ++ t ∷ drop (i + 1) tokens ≡ tokens
  pub within : i < length tokens

pub is_at : (tokens : List Token) (i : ℕ) (t : Token) → i < length tokens → t ≡ get_or tokens i t → IsAt tokens i t
is_at tokens i t lt is =
    let next : drop i tokens ≡ t ∷ drop (i + 1) tokens = drop_more tokens i t lt ∙ ap (λ x. x ∷ drop (i + 1) tokens) (sym is) in
    record {
      next = next;
      more = take_more tokens i t lt ∙ ap (λ x. take i tokens ++ x ∷ []) (sym is);
      whole = ap (λ r. take i tokens ++ r) (sym next) ∙ take-append-drop i tokens;
      within = lt;
    }

closes-rule : (r : Role) (rest : List Token) → closes r ≡ true → rule_by r rest ≡ Closing
closes-rule OpenBrace rest e = cc
closes-rule CloseBrace rest e = refl
closes-rule Semicolon rest e = cc
closes-rule Module rest e = cc
closes-rule Interface rest e = cc
closes-rule Local rest e = cc
closes-rule Other rest e = cc

-- a `}` isn't the first token of a unit that is no closing
later : (tokens : List Token) (i : ℕ) (t : Token) (rule : Rule) → rule_of tokens ≡ rule → (rule ≡ Closing → ⊥) → IsAt tokens i t → closes (role t) ≡ true
    → (0 < i) × (take i tokens ≢ [])
later tokens zero t rule is other at close =
    absurd (other (sym is ∙ ap rule_of (sym at.whole) ∙ closes-rule (role t) (drop (0 + 1) tokens) close))
later [] (suc i) t rule is other at close = absurd (omega (arith, at.within))
later (u ∷ tokens) (suc i) t rule is other at close = (omega arith, λ e. cc)

-- the parts, as they are cut where none ends before this place
abbrev pub IsPending : List Token → ℕ → Type 0
IsPending tokens i = token_units tokens ≡ pending ends (take i tokens) (drop i tokens)

step : (tokens : List Token) (i : ℕ) (t : Token) → IsAt tokens i t → IsPending tokens i → ends (take i tokens) (t ∷ drop (i + 1) tokens) ≡ false → IsPending tokens (i + 1)
step tokens i t at cut none =
    cut ∙ ap (pending ends (take i tokens)) at.next ∙ pending-step ends (take i tokens) t (drop (i + 1) tokens) none
    ∙ ap (λ f. pending ends f (drop (i + 1) tokens)) (sym at.more)

-- the unit goes through this token
through : (tokens : List Token) (i : ℕ) (t : Token) → IsAt tokens i t → IsPending tokens (i + 1) → ends (take i tokens ++ t ∷ []) (drop (i + 1) tokens) ≡ true
    → token_units tokens ≡ take (i + 1) tokens ∷ token_units (drop (i + 1) tokens)
through tokens i t at cut end =
    cut ∙ pending-end ends (take (i + 1) tokens) (drop (i + 1) tokens) (λ e. some-more (take i tokens) t (sym at.more ∙ e))
    (ap (λ f. ends f (drop (i + 1) tokens)) at.more ∙ end)

-- it goes up to it
before : (tokens : List Token) (i : ℕ) (t : Token) → IsAt tokens i t → IsPending tokens i → take i tokens ≢ [] → ends (take i tokens) (t ∷ drop (i + 1) tokens) ≡ true
    → token_units tokens ≡ take i tokens ∷ token_units (drop i tokens)
before tokens i t at cut some end = cut ∙ pending-end ends (take i tokens) (drop i tokens) some (ap (ends (take i tokens)) at.next ∙ end)

whole-rule : (tokens : List Token) (i : ℕ) (t : Token) (rule : Rule) → rule_of tokens ≡ rule → IsAt tokens i t → rule_of (take i tokens ++ t ∷ drop (i + 1) tokens) ≡ rule
whole-rule tokens i t rule is at = ap rule_of at.whole ∙ is

next-rule : (tokens : List Token) (i : ℕ) (t : Token) (rule : Rule) → rule_of tokens ≡ rule → IsAt tokens i t → rule_of ((take i tokens ++ t ∷ []) ++ drop (i + 1) tokens) ≡ rule
next-rule tokens i t rule is at = ap rule_of (append_assoc (take i tokens) (t ∷ []) (drop (i + 1) tokens) ∙ at.whole) ∙ is

-- ---- headings
pub record IsHeadingTo (tokens : List Token) (i : ℕ) : Type 0 where
  pub cut : IsPending tokens i
  pub opening : ends_in opens (take i tokens) ≡ false
  pub semicolon : ends_in is_semicolon (take i tokens) ≡ false

heading-none : (tokens : List Token) (i : ℕ) (t : Token) → rule_of tokens ≡ Heading → IsAt tokens i t → IsHeadingTo tokens i → closes (role t) ≡ false
    → ends (take i tokens) (t ∷ drop (i + 1) tokens) ≡ false
heading-none tokens i t is at h none =
    ends-rule Heading (take i tokens) (t ∷ drop (i + 1) tokens) (whole-rule tokens i t Heading is at)
    ∙ ap (λ b. b || ends_in opens (take i tokens) || ends_in is_semicolon (take i tokens)) none
    ∙ ap (λ b. b || ends_in is_semicolon (take i tokens)) h.opening
    ∙ h.semicolon

or-two : (a b : Bool) → (a ≡ true) ⊎ (b ≡ true) → (a || b) ≡ true
or-two a b (inl e) = ap (λ c. c || b) e
or-two a b (inr e) = ap (λ c. a || c) e ∙ or-true a

or-three : (a b c d : Bool) → (c || d) ≡ true → (a || b || c || d) ≡ true
or-three true b c d e = refl
or-three false true c d e = refl
or-three false false c d e = e

-- `{` or `;`
pub heading-through : (tokens : List Token) (i : ℕ) (t : Token) → rule_of tokens ≡ Heading → IsAt tokens i t → IsHeadingTo tokens i → closes (role t) ≡ false
    → (opens (role t) ≡ true) ⊎ (is_semicolon (role t) ≡ true) → token_units tokens ≡ take (i + 1) tokens ∷ token_units (drop (i + 1) tokens)
heading-through tokens i t is at h none end =
    let rest = drop (i + 1) tokens in
    let unit = take i tokens ++ t ∷ [] in
    through tokens i t at (step tokens i t at h.cut (heading-none tokens i t is at h none))
    (ends-rule Heading unit rest (next-rule tokens i t Heading is at)
    ∙ ap (λ b. is_empty rest || begins closes rest || b || ends_in is_semicolon unit) (ends_in-more opens (take i tokens) t)
    ∙ ap (λ b. is_empty rest || begins closes rest || opens (role t) || b) (ends_in-more is_semicolon (take i tokens) t)
    ∙ or-three (is_empty rest) (begins closes rest) (opens (role t)) (is_semicolon (role t)) (or-two (opens (role t)) (is_semicolon (role t)) end))

-- another token
pub heading-step : (tokens : List Token) (i : ℕ) (t : Token) → rule_of tokens ≡ Heading → IsAt tokens i t → IsHeadingTo tokens i → closes (role t) ≡ false
    → opens (role t) ≡ false → is_semicolon (role t) ≡ false → IsHeadingTo tokens (i + 1)
heading-step tokens i t is at h none opening semicolon = record {
  cut = step tokens i t at h.cut (heading-none tokens i t is at h none);
  opening = ap (ends_in opens) at.more ∙ ends_in-more opens (take i tokens) t ∙ opening;
  semicolon = ap (ends_in is_semicolon) at.more ∙ ends_in-more is_semicolon (take i tokens) t ∙ semicolon;
}

-- ---- declarations
abbrev opened : List Token → ℕ
opened tokens = count_by (λ t. opens (role t)) tokens

abbrev closed : List Token → ℕ
closed tokens = count_by (λ t. closes (role t)) tokens

fold-more : {A B : Type 0} (g : B → A → B) (b : B) (front : List A) (t : A) → fold g b (front ++ t ∷ []) ≡ g (fold g b front) t
fold-more g b [] t = refl
fold-more g b (u ∷ front) t = fold-more g (g b u) front t

count_by-more : (p : Token → Bool) (front : List Token) (t : Token) → count_by p (front ++ t ∷ []) ≡ count_by p front + cond (p t) 1 0
count_by-more p front t = fold-more (λ n u. n + cond (p u) 1 0) 0 front t

pub record IsDeclarationTo (tokens : List Token) (i depth : ℕ) : Type 0 where
  pub cut : IsPending tokens i
  pub count : opened (take i tokens) ≡ depth + closed (take i tokens)
  pub semicolon : depth ≡ 0 → ends_in is_semicolon (take i tokens) ≡ false
  pub within : depth ≤ i

-- inside its own braces it doesn't end
declaration-deep : (tokens : List Token) (i : ℕ) (t : Token) (depth : ℕ) → rule_of tokens ≡ Declaration → IsAt tokens i t → IsDeclarationTo tokens i depth → 0 < depth
    → ends (take i tokens) (t ∷ drop (i + 1) tokens) ≡ false
declaration-deep tokens i t depth is at d deep =
    ends-rule Declaration (take i tokens) (t ∷ drop (i + 1) tokens) (whole-rule tokens i t Declaration is at)
    ∙ ap (λ b. b && (closes (role t) || ends_in is_semicolon (take i tokens))) (ne_eqb (opened (take i tokens)) (closed (take i tokens)) (λ e. omega (arith, d.count)))

-- outside of them it doesn't end before a token that isn't `}`
declaration-none : (tokens : List Token) (i : ℕ) (t : Token) (depth : ℕ) → rule_of tokens ≡ Declaration → IsAt tokens i t → IsDeclarationTo tokens i depth → depth ≡ 0
    → closes (role t) ≡ false → ends (take i tokens) (t ∷ drop (i + 1) tokens) ≡ false
declaration-none tokens i t depth is at d none other =
    ends-rule Declaration (take i tokens) (t ∷ drop (i + 1) tokens) (whole-rule tokens i t Declaration is at)
    ∙ ap (λ b. is_balanced (take i tokens) && (b || ends_in is_semicolon (take i tokens))) other
    ∙ ap (λ b. is_balanced (take i tokens) && b) (d.semicolon none)
    ∙ and-false (is_balanced (take i tokens))

declaration-goes : (tokens : List Token) (i : ℕ) (t : Token) (depth : ℕ) → rule_of tokens ≡ Declaration → IsAt tokens i t → IsDeclarationTo tokens i depth
    → closes (role t) ≡ false → ends (take i tokens) (t ∷ drop (i + 1) tokens) ≡ false
declaration-goes tokens i t zero is at d other = declaration-none tokens i t zero is at d refl other
declaration-goes tokens i t (suc n) is at d other = declaration-deep tokens i t (suc n) is at d (omega arith)

balanced : (tokens : List Token) (i depth : ℕ) → IsDeclarationTo tokens i depth → depth ≡ 0 → is_balanced (take i tokens) ≡ true
balanced tokens i depth d none = eq-eqb (opened (take i tokens)) (closed (take i tokens)) (omega (arith, d.count))

-- `;` outside its own braces
pub declaration-through : (tokens : List Token) (i : ℕ) (t : Token) (depth : ℕ) → rule_of tokens ≡ Declaration → IsAt tokens i t → IsDeclarationTo tokens i depth → depth ≡ 0
    → closes (role t) ≡ false → opens (role t) ≡ false → is_semicolon (role t) ≡ true → token_units tokens ≡ take (i + 1) tokens ∷ token_units (drop (i + 1) tokens)
declaration-through tokens i t depth is at d none other opening semicolon =
    let rest = drop (i + 1) tokens in
    let unit = take i tokens ++ t ∷ [] in
    let o : opened unit ≡ opened (take i tokens) = count_by-more (λ t. opens (role t)) (take i tokens) t ∙ ap (λ b. opened (take i tokens) + cond b 1 0) opening ∙ omega arith in
    let c : closed unit ≡ closed (take i tokens) = count_by-more (λ t. closes (role t)) (take i tokens) t ∙ ap (λ b. closed (take i tokens) + cond b 1 0) other ∙ omega arith in
    through tokens i t at (step tokens i t at d.cut (declaration-goes tokens i t depth is at d other))
    (ends-rule Declaration unit rest (next-rule tokens i t Declaration is at)
    ∙ ap (λ b. is_empty rest || (b && (begins closes rest || ends_in is_semicolon unit))) (eq-eqb (opened unit) (closed unit) (omega (arith, d.count)))
    ∙ ap (λ b. is_empty rest || (begins closes rest || b)) (ends_in-more is_semicolon (take i tokens) t ∙ semicolon)
    ∙ ap (λ b. is_empty rest || b) (or-true (begins closes rest))
    ∙ or-true (is_empty rest))

-- a `}` that closes none of them
pub declaration-before : (tokens : List Token) (i : ℕ) (t : Token) (depth : ℕ) → rule_of tokens ≡ Declaration → IsAt tokens i t → IsDeclarationTo tokens i depth → depth ≡ 0
    → closes (role t) ≡ true → (token_units tokens ≡ take i tokens ∷ token_units (drop i tokens)) × (0 < i)
declaration-before tokens i t depth is at d none close =
    let l = later tokens i t Declaration is (λ e. cc) at close in (
      before tokens i t at d.cut l.1
          (ends-rule Declaration (take i tokens) (t ∷ drop (i + 1) tokens) (whole-rule tokens i t Declaration is at)
          ∙ ap (λ b. b && (closes (role t) || ends_in is_semicolon (take i tokens))) (balanced tokens i depth d none)
          ∙ ap (λ b. b || ends_in is_semicolon (take i tokens)) close),
      l.0,
    )

-- with one token more
declaration-more : (tokens : List Token) (i : ℕ) (t : Token) (depth next : ℕ) → IsAt tokens i t → IsDeclarationTo tokens i depth → ends (take i tokens) (t ∷ drop (i + 1) tokens) ≡ false
    → cond (opens (role t)) 1 0 + depth ≡ next + cond (closes (role t)) 1 0 → (next ≡ 0 → is_semicolon (role t) ≡ false) → next ≤ i + 1 → IsDeclarationTo tokens (i + 1) next
declaration-more tokens i t depth next at d none count semicolon within = record {
  cut = step tokens i t at d.cut none;
  count =
      ap opened at.more ∙ omega (arith, count_by-more (λ t. opens (role t)) (take i tokens) t, count_by-more (λ t. closes (role t)) (take i tokens) t, d.count, count)
      ∙ ap (λ n. next + n) (sym (ap closed at.more));
  semicolon = λ e. ap (ends_in is_semicolon) at.more ∙ ends_in-more is_semicolon (take i tokens) t ∙ semicolon e;
  within = within;
}

-- `{`
pub declaration-open : (tokens : List Token) (i : ℕ) (t : Token) (depth : ℕ) → rule_of tokens ≡ Declaration → IsAt tokens i t → IsDeclarationTo tokens i depth → role t ≡ OpenBrace
    → IsDeclarationTo tokens (i + 1) (depth + 1)
declaration-open tokens i t depth is at d r =
    declaration-more tokens i t depth (depth + 1) at d (declaration-goes tokens i t depth is at d (ap closes r))
    (ap (λ r. cond (opens r) 1 0 + depth) r ∙ omega arith ∙ ap (λ r. depth + 1 + cond (closes r) 1 0) (sym r)) (λ e. absurd (omega arith)) (omega (arith, d.within))

-- a `}` that closes one of them
pub declaration-close : (tokens : List Token) (i : ℕ) (t : Token) (depth : ℕ) → rule_of tokens ≡ Declaration → IsAt tokens i t → IsDeclarationTo tokens i depth → 0 < depth
    → role t ≡ CloseBrace → IsDeclarationTo tokens (i + 1) (depth - 1)
declaration-close tokens i t depth is at d deep r =
    declaration-more tokens i t depth (depth - 1) at d (declaration-deep tokens i t depth is at d deep)
    (ap (λ r. cond (opens r) 1 0 + depth) r ∙ omega arith ∙ ap (λ r. depth - 1 + cond (closes r) 1 0) (sym r)) (λ e. ap is_semicolon r) (omega (arith, d.within))

-- another token, or `;` inside its own braces
pub declaration-step : (tokens : List Token) (i : ℕ) (t : Token) (depth : ℕ) → rule_of tokens ≡ Declaration → IsAt tokens i t → IsDeclarationTo tokens i depth
    → closes (role t) ≡ false → opens (role t) ≡ false → (depth ≡ 0 → is_semicolon (role t) ≡ false) → IsDeclarationTo tokens (i + 1) depth
declaration-step tokens i t depth is at d close opening semicolon =
    declaration-more tokens i t depth depth at d (declaration-goes tokens i t depth is at d close)
    (ap (λ b. cond b 1 0 + depth) opening ∙ omega arith ∙ ap (λ b. depth + cond b 1 0) (sym close)) semicolon (omega (arith, d.within))

-- ---- roles
pub not_opens : (r : Role) → (r ≡ OpenBrace → ⊥) → opens r ≡ false
not_opens OpenBrace h = absurd (h refl)
not_opens CloseBrace h = refl
not_opens Semicolon h = refl
not_opens Module h = refl
not_opens Interface h = refl
not_opens Local h = refl
not_opens Other h = refl

pub not_closes : (r : Role) → (r ≡ CloseBrace → ⊥) → closes r ≡ false
not_closes OpenBrace h = refl
not_closes CloseBrace h = absurd (h refl)
not_closes Semicolon h = refl
not_closes Module h = refl
not_closes Interface h = refl
not_closes Local h = refl
not_closes Other h = refl

pub not_semicolon : (r : Role) → (r ≡ Semicolon → ⊥) → is_semicolon r ≡ false
not_semicolon OpenBrace h = refl
not_semicolon CloseBrace h = refl
not_semicolon Semicolon h = absurd (h refl)
not_semicolon Module h = refl
not_semicolon Interface h = refl
not_semicolon Local h = refl
not_semicolon Other h = refl

pub edge_open : (r : Role) → edge r ≡ OpenBrace → r ≡ OpenBrace
edge_open OpenBrace e = refl
edge_open CloseBrace e = cc
edge_open Semicolon e = cc
edge_open Module e = cc
edge_open Interface e = cc
edge_open Local e = cc
edge_open Other e = cc

pub edge_close : (r : Role) → edge r ≡ CloseBrace → r ≡ CloseBrace
edge_close OpenBrace e = cc
edge_close CloseBrace e = refl
edge_close Semicolon e = cc
edge_close Module e = cc
edge_close Interface e = cc
edge_close Local e = cc
edge_close Other e = cc

pub edge_semicolon : (r : Role) → edge r ≡ Semicolon → r ≡ Semicolon
edge_semicolon OpenBrace e = cc
edge_semicolon CloseBrace e = cc
edge_semicolon Semicolon e = refl
edge_semicolon Module e = cc
edge_semicolon Interface e = cc
edge_semicolon Local e = cc
edge_semicolon Other e = cc

pub edge_word : (word : Keyword) → edge (role_of (Accepted word)) ≡ Other
edge_word keyword.Module = refl
edge_word keyword.Interface = refl
edge_word keyword.Local = refl
edge_word other = refl
