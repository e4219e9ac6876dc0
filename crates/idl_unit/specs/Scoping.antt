-- Which units open a scope, and which close one.
-- The tokens alone tell it, of a faulty unit too: so it is said here, once for all crates above.
use Rattle.std.specs.Prelude.{ℕ, ◌+◌, Bool, true, false, List, [], ◌∷◌, Option, None, Some, is_some, if◌then◌else◌}
use Rattle.idl_lex.specs.tokens.Tokens.{Token}
use Rattle.idl_unit.specs.Ending.{opens, role, rule_of}
use Rattle.idl_unit.specs.declared.role.Rule.{Rule}
use Rattle.idl_unit.specs.declared.role.Rule.TheVariants.{Closing, Heading}
use Rattle.idl_unit.specs.declared.unit.UnitText.{UnitText}
use Rattle.idl_unit.specs.declared.unit.UnitText.TheVariants.{Tokens, Pragma}

-- the number of the first `{`, where that of the first token is n
abbrev pub brace_from : ℕ → List Token → Option ℕ
brace_from n [] = None
brace_from n (t ∷ ts) = if opens (role t) then Some n else brace_from (n + 1) ts

-- an opening is a heading with `{`
abbrev pub brace_by : Rule → List Token → Option ℕ
brace_by Heading tokens = brace_from 0 tokens
brace_by other tokens = None

abbrev pub opening_brace : List Token → Option ℕ
opening_brace tokens = brace_by (rule_of tokens) tokens

abbrev pub is_closing_by : Rule → Bool
is_closing_by Closing = true
is_closing_by other = false

-- an opening opens a scope, faulty or not
abbrev pub is_opening : UnitText → Bool
is_opening (Tokens tokens) = is_some (opening_brace tokens)
is_opening (Pragma tokens inside) = false

-- and a closing closes the innermost one
abbrev pub is_closing : UnitText → Bool
is_closing (Tokens tokens) = is_closing_by (rule_of tokens)
is_closing (Pragma tokens inside) = false
