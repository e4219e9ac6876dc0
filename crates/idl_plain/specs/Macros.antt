-- The test of `ifdef` and `ifndef`.
use Rattle.std.specs.Prelude.{ℕ, Bool, false, List, None, Option, Some}
use Rattle.idl_event.specs.Expanding.{Expanding}
use Rattle.idl_event.specs.declared.told.event.Event.TheVariants.{Fault}
use Rattle.idl_event.specs.declared.told.event.Item.TheVariants.{Kept}
use Rattle.idl_fault.specs.declared.code.Code.TheVariants.{MalformedMacro}
use Rattle.idl_fault.specs.declared.place.Place.{Place}
use Rattle.idl_lex.specs.tokens.Tokens.{Token}
use Rattle.idl_lex.specs.declared.tokens.token.PlacedToken.{PlacedToken}
use Rattle.idl_macro.specs.Directives.{first_word}
use Rattle.idl_macro.specs.Macros.{Definitions, macro_of}
use Rattle.idl_memo.specs.Query.{Done, Tell, and_then}

-- A test of the body of the macro that the operands name first, if there is one. Where they name none
-- the group isn't taken.
abbrev pub macro_test : (Option (List Token) → Bool) → Place → List ℕ → Definitions
    → List PlacedToken → Expanding Bool
macro_test is place word definitions operands = elim (first_word operands) [
  | None ↦ Tell (Kept (Fault place MalformedMacro (Some word))) (Done false)
  | Some name ↦ and_then (macro_of definitions name) (λ body. Done (is body))
]
