-- The replacement of the words of macros (after ISO/IEC 9899, 6.10.3.4, for macros without
-- parameters).
-- Depth has room for one more than there are turns. That is no bound, as each replacement takes a
-- turn, and no macros that are still to be seen are counted.
use Rattle.std.specs.Prelude.{ℕ, zero, suc, ◌+◌, not, ◌&&◌, List, [], ◌∷◌, ◌++◌, Option, None, Some, if◌then◌else◌}
use Rattle.std.specs.List.{list_any}
use Rattle.std.specs.Str.{bytes_eq}
use Rattle.idl_memo.specs.Query.{Done, Tell, and_then}
use Rattle.idl_event.specs.Expanding.{Expanding}
use Rattle.idl_macro.specs.Macros.{Definitions, macro_of}
use Rattle.idl_lex.specs.tokens.Tokens.{Token}
use Rattle.idl_lex.specs.kinds.Word.{is_word}
use Rattle.idl_lex.specs.declared.tokens.token.PlacedToken.{PlacedToken}
use Rattle.idl_event.specs.Limits.{turns_at_most}
use Rattle.idl_fault.specs.declared.file_name.FileName.{FileName}
use Rattle.idl_event.specs.declared.told.event.Item.{Item}
use Rattle.idl_event.specs.declared.told.event.Event.TheVariants.{Emitted}
use Rattle.idl_event.specs.declared.told.event.Item.TheVariants.{Kept, Counted, Turn}
use Rattle.idl_fault.specs.declared.place.Place.{Place}

-- two that give tokens, one after the other: the tokens of both, end to end
abbrev pub followed_by : Expanding (List Token) → Expanding (List Token) → Expanding (List Token)
followed_by query more = and_then query (λ first. and_then more (λ rest. Done (first ++ rest)))

-- each of them, end to end
abbrev pub each : {X : Type 0} → (X → Expanding (List Token)) → List X → Expanding (List Token)
each f [] = Done []
each f (x ∷ xs) = followed_by (f x) (each f xs)

-- the body that a token is replaced by: its macro's, if it is a word and doesn't stand in its own
-- replacement
unfoldable pub replacement : Definitions → List (List ℕ) → Token → Expanding (Option (List Token))
replacement definitions hidden t =
    if is_word t && not (list_any (bytes_eq t) hidden) then macro_of definitions t else Done None

-- a token that stands for itself: it is told, and given
abbrev pub stands : (Token → Item) → Token → Expanding (List Token)
stands item t = Tell (item t) (Done (t ∷ []))

-- A token is replaced by the tokens of its macro's body, each of which is replaced in turn, with
-- the macro's word among those that are hidden; other tokens stand for themselves. A replacement is
-- a turn, so that no more of them than there are turns stand in one another.
unfoldable pub replaced : (Token → Item) → Place → Definitions → ℕ → List (List ℕ) → Token
    → Expanding (List Token)
replaced item place definitions zero hidden t = stands item t
replaced item place definitions (suc room) hidden t =
    and_then (replacement definitions hidden t) (λ body. elim body [
      | None ↦ stands item t
      | Some tokens ↦
          Tell (Turn place) (each (replaced item place definitions room (t ∷ hidden)) tokens)
    ])

-- tokens that are replaced at one place
abbrev pub replaced_at : (Token → Item) → Place → Definitions → List Token → Expanding (List Token)
replaced_at item place definitions tokens =
    each (replaced item place definitions (turns_at_most + 1) []) tokens

-- where a token stands
abbrev pub place_at : FileName → PlacedToken → Place
place_at file t = record { file = file; line = t.line }

-- the tokens of a text, each of which is replaced at its own place
unfoldable pub text : FileName → Definitions → List PlacedToken → Expanding (List Token)
text file definitions tokens =
    each (λ t. replaced_at (λ u. Kept (Emitted (place_at file t) u)) (place_at file t) definitions
    (t.token ∷ [])) tokens

-- the tokens of a condition or of an operand, all of which are replaced at the place of the
-- directive, and counted
unfoldable pub operand : Place → Definitions → List Token → Expanding (List Token)
operand place definitions tokens = replaced_at (λ _. Counted place) place definitions tokens
