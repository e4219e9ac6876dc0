-- What is found in a root, and the order in which it is told.
use Rattle.std.specs.Prelude.{ℕ, List, [], ◌∷◌, nat_le, slice_get, Option, None, Some, if◌then◌else◌}
use Rattle.idl_event.specs.Apart.{Numbered, place_in}
use Rattle.idl_fault.specs.Diagnostic.{diagnostic_row}
use Rattle.idl_fault.specs.declared.code.Code.{Code}
use Rattle.idl_event.specs.declared.told.event.Event.{Event}
use Rattle.idl_event.specs.declared.told.event.Event.TheVariants as event
use Rattle.idl_fault.specs.declared.place.Place.{Place}
use Rattle.idl_event.specs.declared.told.site.Site.{Site}
use Rattle.idl_lex.specs.tokens.Tokens.{Token}
use Rattle.idl_finding.specs.Number.{token_number}
use Rattle.idl_finding.specs.declared.finding.EventFinding.{EventFinding}
use Rattle.idl_finding.specs.declared.finding.Finding.{Finding}
use Rattle.idl_unit.specs.TokenRules.{first}
use Rattle.idl_unit.specs.declared.fault.Fault.{Fault}
use Rattle.idl_unit.specs.declared.unit.UnitText.{UnitText}
use Rattle.idl_unit.specs.declared.unit.UnitText.TheVariants.{Tokens, Pragma}

-- the tokens of a unit's text; those of a pragma begin with that word
abbrev pub tokens_of : UnitText → List Token
tokens_of (Tokens tokens) = tokens
tokens_of (Pragma tokens inside) = tokens

-- where the token with a number stands; of a pragma there is one place, that of its first word
abbrev pub site_of : UnitText → List Site → ℕ → Option Site
site_of (Tokens tokens) sites index = slice_get sites index
site_of (Pragma tokens inside) sites index = first sites

-- what is found at an event, and the text that its row shows
abbrev pub found_at : ℕ → Place → Code → Option (List ℕ) → EventFinding
found_at n place code text = record { event = n; place = place; code = code; text = text }

-- what is told where a token stands: its row shows the token
abbrev pub finding_at : Code → Option Site → Option Token → List EventFinding
finding_at code None token = []
finding_at code (Some site) token = found_at site.event (place_in site) code token ∷ []

-- what is found in a unit: its fault, at the token with that number
abbrev pub fault_finding : UnitText → List Site → Option Fault → List EventFinding
fault_finding text sites None = []
fault_finding text sites (Some fault) =
    finding_at fault.code (site_of text sites fault.index)
    (slice_get (tokens_of text) fault.index)

-- what is found in an event: a fault of the preprocessor
abbrev pub event_finding : Numbered → List EventFinding
event_finding (n, event.Fault place code text) = found_at n place code text ∷ []
event_finding (n, other) = []

-- one more, before those of its own event and of later ones
abbrev pub among : EventFinding → List EventFinding → List EventFinding
among f [] = f ∷ []
among f (g ∷ found) = if nat_le f.event g.event then f ∷ g ∷ found else g ∷ among f found

-- in the order of the events that they name; those of one event stay in theirs
abbrev pub in_order : List EventFinding → List EventFinding
in_order [] = []
in_order (f ∷ found) = among f (in_order found)

-- what is found at an event, with its token's number in the line
abbrev pub numbered : List Event → EventFinding → Finding
numbered events f = record {
  place = f.place;
  code = f.code;
  text = f.text;
  number = token_number events f.event;
}

-- its row
abbrev pub finding_row : Finding → List ℕ
finding_row f = diagnostic_row f.place f.code f.text
