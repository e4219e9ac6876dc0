-- The condition of a line behind `if` or `elif` (after ISO/IEC 9899, 6.10.1).
-- Where a limit is passed inside a condition its answer means nothing: the expansion has ended.
use Rattle.std.specs.Prelude.{ℕ, zero, suc, Bool, true, false, not, ◌&&◌, List, [], ◌∷◌, map, Option, None, Some, is_some, codes, if◌then◌else◌}
use Rattle.std.specs.Str.{bytes_eq}
use Rattle.idl_memo.specs.Query.{Done, Tell, and_then}
use Rattle.idl_macro.specs.conditions.Arithmetic.{Value, is_zero}
use Rattle.idl_macro.specs.conditions.Condition.{condition as value_of}
use Rattle.idl_macro.specs.conditions.Symbol.{symbol_of}
use Rattle.idl_event.specs.Expanding.{Expanding}
use Rattle.idl_macro.specs.Macros.{Definitions, macro_of}
use Rattle.idl_macro.specs.Replace.{followed_by, operand}
use Rattle.idl_lex.specs.tokens.Tokens.{Token, tokens_in}
use Rattle.idl_lex.specs.kinds.Word.{is_word}
use Rattle.idl_lex.specs.declared.tokens.token.PlacedToken.{PlacedToken}
use Rattle.idl_fault.specs.declared.code.Code.TheVariants.{BadCondition}
use Rattle.idl_event.specs.declared.told.event.Event.TheVariants.{Fault}
use Rattle.idl_event.specs.declared.told.event.Item.TheVariants.{Kept}
use Rattle.idl_fault.specs.declared.place.Place.{Place}

-- a word and a `)` behind a `(`: the word, and how many tokens stand from the `(` on
abbrev pub enclosed_name : List Token → Option (List ℕ × ℕ)
enclosed_name [] = None
enclosed_name (t ∷ []) = None
enclosed_name (t ∷ close ∷ tokens) =
    if is_word t && bytes_eq close (codes ")") then Some (t, 3) else None

-- the name behind a `defined`, with parentheses or without, and how many tokens it takes
abbrev pub name_at : List Token → Option (List ℕ × ℕ)
name_at [] = None
name_at (t ∷ tokens) =
    if is_word t then Some (t, 1)
    else (if bytes_eq t (codes "(") then enclosed_name tokens else None)

-- the name that is asked for where this token and those after it are a `defined X`, and how many
-- tokens it takes
abbrev pub defined_at : Token → List Token → Option (List ℕ × ℕ)
defined_at t tokens = if bytes_eq t (codes "defined") then name_at tokens else None

-- the token `1` or `0` in the place of a `defined`
abbrev pub truth : Bool → Token
truth true = codes "1"
truth false = codes "0"

-- a token, or whether the macro with this name is there
abbrev pub read_one : Definitions → Token → Option (List ℕ × ℕ) → Expanding (List Token)
read_one definitions t None = Done (t ∷ [])
read_one definitions t (Some name) =
    and_then (macro_of definitions name.0) (λ body. Done (truth (is_some body) ∷ []))

-- how many tokens a name takes, if there is one
abbrev pub taken_by : Option (List ℕ × ℕ) → ℕ
taken_by None = 0
taken_by (Some name) = name.1

-- the tokens after the first n, in which each `defined X` is read
unfoldable pub read_after : Definitions → ℕ → List Token → Expanding (List Token)
read_after definitions n [] = Done []
read_after definitions (suc n) (t ∷ tokens) = read_after definitions n tokens
read_after definitions zero (t ∷ tokens) =
    followed_by (read_one definitions t (defined_at t tokens))
    (read_after definitions (taken_by (defined_at t tokens)) tokens)

-- each `defined X` is read, from left to right; a `defined` with no name behind it is left as it is
abbrev pub defined_read : Definitions → List Token → Expanding (List Token)
defined_read definitions tokens = read_after definitions zero tokens

-- the value of these tokens
abbrev pub value : List Token → Value
value tokens = value_of (map symbol_of tokens)

-- a condition without a value is a fault, and doesn't hold; another one holds unless its value is
-- zero
abbrev pub judged : Place → List ℕ → Value → Expanding Bool
judged place word None = Tell (Kept (Fault place BadCondition (Some word))) (Done false)
judged place word (Some z) = Done (not (is_zero z))

-- the tokens that are left have their values as they stand
abbrev pub judging : Place → List ℕ → Definitions → List Token → Expanding Bool
judging place word definitions read =
    and_then (operand place definitions read) (λ given. judged place word (value given))

-- `if` and `elif`: the directive's word, and the tokens after it; whether the condition holds
unfoldable pub condition : Place → List ℕ → Definitions → List PlacedToken → Expanding Bool
condition place word definitions operands =
    and_then (defined_read definitions (tokens_in operands)) (judging place word definitions)
