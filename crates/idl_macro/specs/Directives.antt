-- The directives that define, remove and test macros (after ISO/IEC 9899, 6.10.1 and 6.10.3).
use Rattle.std.specs.Prelude.{ℕ, Bool, false, not, ◌&&◌, List, [], ◌∷◌, Option, None, Some, codes, is_some, if◌then◌else◌}
use Rattle.std.specs.Cmp.Lexicographic.{pointwise}
use Rattle.std.specs.Str.{bytes_eq}
use Rattle.idl_map.specs.Table.{insert_entry}
use Rattle.idl_memo.specs.Query.{Done, Tell, and_then}
use Rattle.idl_event.specs.Expanding.{Expanding}
use Rattle.idl_macro.specs.Macros.{Definitions, macro_of}
use Rattle.idl_macro.specs.Words.{is_macro_word}
use Rattle.idl_lex.specs.tokens.Tokens.{Token, tokens_in}
use Rattle.idl_lex.specs.kinds.Word.{is_word}
use Rattle.idl_lex.specs.declared.tokens.token.PlacedToken.{PlacedToken}
use Rattle.idl_fault.specs.declared.code.Code.TheVariants.{MalformedMacro, OtherDefinition}
use Rattle.idl_event.specs.declared.told.event.Event.TheVariants.{Fault}
use Rattle.idl_event.specs.declared.told.event.Item.TheVariants.{Kept}
use Rattle.idl_fault.specs.declared.place.Place.{Place}

-- the word at which a directive's operands begin, if they do
abbrev pub first_word : List PlacedToken → Option (List ℕ)
first_word [] = None
first_word (t ∷ operands) = if is_word t.token then Some t.token else None

-- a `(` that a word ends before: a list of parameters would begin
abbrev pub opens_parameters : PlacedToken → Bool
opens_parameters t = t.follows_word && bytes_eq t.token (codes "(")

abbrev pub begins_parameters : List PlacedToken → Bool
begins_parameters [] = false
begins_parameters (t ∷ operands) = opens_parameters t

-- the word and the body that the operands of `define` give, if they are well-formed
abbrev pub definition_in : List PlacedToken → Option (List ℕ × List Token)
definition_in [] = None
definition_in (t ∷ body) =
    if is_macro_word t.token && not (begins_parameters body) then Some (t.token, tokens_in body)
    else None

-- bodies of the same tokens, whatever stands between them
abbrev pub same_tokens : List Token → List Token → Bool
same_tokens body other = pointwise bytes_eq body other

-- what is said of a word from now on
abbrev pub saying : Definitions → List ℕ → Option (List Token) → Definitions
saying definitions word body = insert_entry bytes_eq definitions word body

-- there is a macro with other tokens
abbrev pub differs : Option (List Token) → List Token → Bool
differs None body = false
differs (Some old) body = not (same_tokens old body)

-- a macro is defined, unless it is there with other tokens, and then it stays
abbrev pub defining : Place → Definitions → List ℕ → List Token → Option (List Token)
    → Expanding Definitions
defining place definitions word body old =
    if differs old body
    then Tell (Kept (Fault place OtherDefinition (Some word))) (Done definitions)
    else Done (saying definitions word (Some body))

-- `define`: the directive's word, and the tokens after it
unfoldable pub define : Place → List ℕ → Definitions → List PlacedToken → Expanding Definitions
define place word definitions operands = elim (definition_in operands) [
  | None ↦ Tell (Kept (Fault place MalformedMacro (Some word))) (Done definitions)
  | Some d ↦ and_then (macro_of definitions d.0) (defining place definitions d.0 d.1)
]

-- `undef`: further tokens are passed over
unfoldable pub undef : Place → List ℕ → Definitions → List PlacedToken → Expanding Definitions
undef place word definitions operands = elim (first_word operands) [
  | None ↦ Tell (Kept (Fault place MalformedMacro (Some word))) (Done definitions)
  | Some name ↦ Done (saying definitions name None)
]

-- whether the macro named by these operands is there, where they name one; further tokens are
-- passed over
unfoldable pub is_macro_there : Place → List ℕ → Definitions → List PlacedToken
    → Expanding (Option Bool)
is_macro_there place word definitions operands = elim (first_word operands) [
  | None ↦ Tell (Kept (Fault place MalformedMacro (Some word))) (Done None)
  | Some name ↦ and_then (macro_of definitions name) (λ body. Done (Some (is_some body)))
]

-- the macro is named, and there
abbrev pub is_there : Option Bool → Bool
is_there None = false
is_there (Some there) = there

-- the macro is named, and not there
abbrev pub is_missing : Option Bool → Bool
is_missing None = false
is_missing (Some there) = not there

-- `ifdef`: whether its group is taken
unfoldable pub ifdef : Place → List ℕ → Definitions → List PlacedToken → Expanding Bool
ifdef place word definitions operands =
    and_then (is_macro_there place word definitions operands) (λ there. Done (is_there there))

-- `ifndef`: whether its group is taken
unfoldable pub ifndef : Place → List ℕ → Definitions → List PlacedToken → Expanding Bool
ifndef place word definitions operands =
    and_then (is_macro_there place word definitions operands) (λ there. Done (is_missing there))
