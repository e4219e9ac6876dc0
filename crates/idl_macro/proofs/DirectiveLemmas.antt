-- What the directives of macros ask and tell, by what their operands are.
use Rattle.std.proofs.Common.{◌≡◌, ℕ, Bool, if◌then◌else◌, List, Option, None, Some, Bor, is_some, refl, ap, ◌∙◌}
use Rattle.std.specs.Option.{option_copied}
use Rattle.idl_memo.specs.Query.{Done, Tell, and_then}
use Rattle.idl_event.specs.Expanding.{Expanding, Reached, arrival, arrived}
use Rattle.idl_fault.specs.declared.code.Code.TheVariants.{MalformedMacro, OtherDefinition}
use Rattle.idl_event.specs.declared.told.event.Event.TheVariants.{Fault}
use Rattle.idl_event.specs.declared.told.event.Item.TheVariants.{Kept}
use Rattle.idl_event.specs.declared.asked.key.RootAnswer.{RootAnswer}
use Rattle.idl_event.specs.declared.asked.key.RootKey.{RootKey}
use Rattle.idl_fault.specs.declared.place.Place.{Place}
use Rattle.idl_lex.specs.tokens.Tokens.{Token}
use Rattle.idl_lex.specs.declared.tokens.token.PlacedToken.{PlacedToken}
use Rattle.idl_macro.specs.Directives.{define, defining, definition_in, differs, first_word, is_macro_there, saying, undef}
use Rattle.idl_macro.specs.Macros.{Definitions, macro_of}
use Rattle.idl_macro.proofs.ArrivalLemmas.{arrival-and_then}

-- what is there is there when it is read
pub is_some-tokens : (body : Option (Bor (List Token))) → is_some body ≡ is_some (option_copied body)
is_some-tokens None = refl
is_some-tokens (Some body) = refl

module _ (place : Place) (word : List ℕ) (definitions : Definitions) (operands : List PlacedToken) where
  -- `undef`, by the word that its operands begin with
  abbrev removing : Option (List ℕ) → Expanding Definitions
  removing name = elim name [ None ↦ Tell (Kept (Fault place MalformedMacro (Some word))) (Done definitions) | Some w ↦ Done (saying definitions w None) ]

  pub undef-by : (name : Option (List ℕ)) → name ≡ first_word operands → removing name ≡ undef place word definitions operands
  unfolding undef
  undef-by name first = ap removing first

  -- whether a macro is there, by that word
  abbrev finding : Option (List ℕ) → Expanding (Option Bool)
  finding name = elim name [
    | None ↦ Tell (Kept (Fault place MalformedMacro (Some word))) (Done None)
    | Some w ↦ and_then (macro_of definitions w) (λ body. Done (Some (is_some body)))
  ]

  pub is_macro_there-by : (name : Option (List ℕ)) → name ≡ first_word operands → finding name ≡ is_macro_there place word definitions operands
  unfolding is_macro_there
  is_macro_there-by name first = ap finding first

  -- `define`, by the definition that its operands give
  abbrev defining_by : Option (List ℕ × List Token) → Expanding Definitions
  defining_by found = elim found [
    | None ↦ Tell (Kept (Fault place MalformedMacro (Some word))) (Done definitions)
    | Some d ↦ and_then (macro_of definitions d.0) (defining place definitions d.0 d.1)
  ]

  pub define-by : (found : Option (List ℕ × List Token)) → found ≡ definition_in operands → defining_by found ≡ define place word definitions operands
  unfolding define
  define-by found given = ap defining_by given

  module _ (bank : RootKey → Option RootAnswer) (p q : Reached) (name : List ℕ) (body : List Token) (old : Option (List Token)) (given : Some (name, body) ≡ definition_in operands) (found : arrived old q ≡ arrival bank (macro_of definitions name) p) where
    -- a macro is defined, or it is there with other tokens
    abbrev chosen : Bool → Expanding Definitions
    chosen other = if other then Tell (Kept (Fault place OtherDefinition (Some name))) (Done definitions) else Done (saying definitions name (Some body))

    pub arrival-define : (other : Bool) → other ≡ differs old body → arrival bank (chosen other) q ≡ arrival bank (define place word definitions operands) p
    arrival-define other same =
        ap (λ b. arrival bank (chosen b) q) same
        ∙ arrival-and_then bank (macro_of definitions name) (defining place definitions name body) old p q found
        ∙ ap (λ query. arrival bank query p) (define-by (Some (name, body)) given)
