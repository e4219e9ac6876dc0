-- The first unit of tokens is that of their first ones, where it ends among these before another token.
use Rattle.std.proofs.Common.{◌≡◌, ◌≢◌, ◌∙◌, ◌<◌, ◌≤◌, ℕ, Bool, true, false, ltb, List, [], ◌∷◌, ◌++◌, append_assoc, drop, length, length-drop, take, refl, sym, ap, subst, arith}
use Rattle.std.proofs.lemmas.Bool.{ltb-false, ltb-true}
use Rattle.std.proofs.lemmas.List.{drop-append-le, length-take-le, take-append-drop, take-append-le, take_all}
use Rattle.idl_lex.specs.tokens.Tokens.{Token}
use Rattle.idl_unit.specs.Ending.{ends, ends_by, role, rule_by, rule_of, token_units}
use Rattle.idl_unit.specs.Parts.{IsCutInto, IsPart}
use Rattle.idl_unit.specs.declared.role.Role.{Role}
use Rattle.idl_unit.specs.declared.role.Role.TheVariants.{OpenBrace, CloseBrace, Semicolon, Module, Interface, Local, Other}
use Rattle.idl_unit.specs.declared.role.Rule.{Rule}
use Rattle.idl_unit.specs.declared.role.Rule.TheVariants.{Closing, Heading, Declaration}
use Rattle.idl_unit.proofs.HeldLemmas.{tokens-cut}
use Rattle.idl_unit.proofs.PartsLemmas.{part-first}

rule_by-front : (r : Role) (u : Token) (ts more : List Token) → rule_by r (u ∷ ts ++ more) ≡ rule_by r (u ∷ ts)
rule_by-front OpenBrace u ts more = refl
rule_by-front CloseBrace u ts more = refl
rule_by-front Semicolon u ts more = refl
rule_by-front Module u ts more = refl
rule_by-front Interface u ts more = refl
rule_by-front Local u ts more = refl
rule_by-front Other u ts more = refl

rule_of-front : (unit rest more : List Token) → unit ≢ [] → rest ≢ [] → rule_of (unit ++ (rest ++ more)) ≡ rule_of (unit ++ rest)
rule_of-front [] rest more some left = absurd (some refl)
rule_of-front (t ∷ unit) [] more some left = absurd (left refl)
rule_of-front (t ∷ []) (u ∷ rest) more some left = rule_by-front (role t) u rest more
rule_of-front (t ∷ u ∷ unit) (v ∷ rest) more some left =
    ap (λ ts. rule_by (role t) (u ∷ ts)) (sym (append_assoc unit (v ∷ rest) more)) ∙ rule_by-front (role t) u (unit ++ v ∷ rest) more

ends_by-front : (rule : Rule) (unit rest more : List Token) → rest ≢ [] → ends_by rule unit (rest ++ more) ≡ ends_by rule unit rest
ends_by-front rule unit [] more left = absurd (left refl)
ends_by-front Closing unit (v ∷ rest) more left = refl
ends_by-front Heading unit (v ∷ rest) more left = refl
ends_by-front Declaration unit (v ∷ rest) more left = refl

-- whether a unit ends before tokens, whatever is behind these
ends-front : (unit rest more : List Token) → unit ≢ [] → rest ≢ [] → ends unit (rest ++ more) ≡ ends unit rest
ends-front unit rest more some left =
    ap (λ rule. ends_by rule unit (rest ++ more)) (rule_of-front unit rest more some left) ∙ ends_by-front (rule_of (unit ++ rest)) unit rest more left

some-behind : (a b : List Token) → b ≢ [] → a ++ b ≢ []
some-behind [] b some = some
some-behind (t ∷ a) b some = λ e. cc

units-front : (tokens more : List Token) (len : ℕ) → len < length tokens → token_units tokens ≡ take len tokens ∷ token_units (drop len tokens)
    → token_units (tokens ++ more) ≡ take len (tokens ++ more) ∷ token_units (drop len (tokens ++ more))
units-front tokens more len lt is =
    let unit = take len tokens in
    let rest = drop len tokens in
    let within : len ≤ length tokens = omega (arith, lt) in
    let cut : IsCutInto ends tokens (unit ∷ token_units rest) = subst (IsCutInto ends tokens) is (tokens-cut tokens) in
    let part : IsPart ends unit rest = subst (IsPart ends unit) (tokens-cut rest).0 cut.1.0 in
    let left : rest ≢ [] = λ e. let none : length rest ≡ 0 = ap length e in absurd (omega (arith, none, lt, length-drop len tokens)) in
    let all : unit ++ (rest ++ more) ≡ tokens ++ more = sym (append_assoc unit rest more) ∙ ap (λ ts. ts ++ more) (take-append-drop len tokens) in
    sym (ap token_units all)
    ∙ part-first ends [] unit (rest ++ more) part.some (ends-front unit rest more part.some left ∙ part.end)
    (λ a b e sa sb.
    ap (ends a) (sym (append_assoc b rest more))
    ∙ ends-front a (b ++ rest) more sa (some-behind b rest left)
    ∙ part.first a b e sa sb)
    ∙ (λ i. sym (take-append-le len tokens more within) i ∷ token_units (sym (drop-append-le len tokens more within) i))

-- what it is for a list of tokens to begin with a unit of this length
abbrev pub Begins : ℕ → List Token → Type 0
Begins len tokens = token_units tokens ≡ take len tokens ∷ token_units (drop len tokens)

units-before : (left : List Token) (count len : ℕ) → count ≤ length left → len < count → Begins len (take count left) → Begins len left
units-before left count len le lt is =
    let long : length (take count left) ≡ count = length-take-le count left le in
    subst (Begins len) (take-append-drop count left) (units-front (take count left) (drop count left) len (omega (arith, long, lt)) is)

units-all : (left : List Token) (count len : ℕ) → length left ≤ count → Begins len (take count left) → Begins len left
units-all left count len le is = subst (Begins len) (take_all count left le) is

units-by : (left : List Token) (count len : ℕ) (b : Bool) → ltb len count ≡ b → count ≤ length left → (count ≤ len → length left ≤ count)
    → Begins len (take count left) → Begins len left
units-by left count len true e le all is = units-before left count len le (ltb-true len count e) is
units-by left count len false e le all is = units-all left count len (all (ltb-false len count e)) is

-- the unit that the first tokens begin with is that of all, where it ends before the last of the first ones or these are all
pub units-left : (left : List Token) (count len : ℕ) → count ≤ length left → (count ≤ len → length left ≤ count)
    → token_units (take count left) ≡ take len (take count left) ∷ token_units (drop len (take count left))
    → token_units left ≡ take len left ∷ token_units (drop len left)
units-left left count len = units-by left count len (ltb len count) refl
