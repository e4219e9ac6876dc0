-- The units of a root, from the events that it expands to.
use Rattle.std.specs.Prelude.{Bool, ◌||◌, List, [], ◌∷◌, ◌++◌, flat_map, not}
use Rattle.std.specs.List.{enumerate_from}
use Rattle.idl_event.specs.Apart.{Numbered, site_at, sites_in, tokens_in}
use Rattle.idl_event.specs.declared.told.event.Event.{Event}
use Rattle.idl_event.specs.declared.told.event.Event.TheVariants as event
use Rattle.idl_event.specs.declared.told.site.Site.{Site}
use Rattle.idl_lex.specs.tokens.Tokens.{Token}
use Rattle.idl_unit.specs.Cut.{parts}
use Rattle.idl_unit.specs.Ending.{ends, is_empty}
use Rattle.idl_unit.specs.declared.unit.Unit.{Unit as RootUnit}
use Rattle.idl_unit.specs.declared.unit.Unit.TheVariants.{Spelled, Entered, Left, End}
use Rattle.idl_unit.specs.declared.unit.UnitText.TheVariants.{Tokens, Pragma}

-- A stretch of events ends where it has no token, and else where its tokens are a unit before those
-- of the rest. So it is a unit from its first token through its last one, or one event outside of
-- units.
abbrev pub stretch_ends : List Numbered → List Numbered → Bool
stretch_ends stretch rest =
    is_empty (tokens_in stretch) || ends (tokens_in stretch) (tokens_in rest)

-- what a unit of tokens is: none where there are no tokens
abbrev pub spelled : List Token → List Site → List RootUnit
spelled [] sites = []
spelled (t ∷ ts) sites = Spelled (Tokens (t ∷ ts)) sites ∷ []

-- what an event is that is no token, inside a unit of tokens or outside
abbrev pub unit_in : Bool → Numbered → List RootUnit
unit_in inside (n, event.Emitted place token) = []
unit_in inside (n, event.Entered file) = Entered file inside ∷ []
unit_in inside (n, event.Left file) = Left file inside ∷ []
unit_in inside (n, event.Pragma place tokens) =
    Spelled (Pragma tokens inside) (site_at n place ∷ []) ∷ []
unit_in inside (n, event.Fault place code text) = []

-- a stretch: its unit of tokens, and directly after it what else stands inside, in order
abbrev pub stretch_units : List Numbered → List RootUnit
stretch_units stretch =
    spelled (tokens_in stretch) (sites_in stretch)
    ++ flat_map (unit_in (not (is_empty (tokens_in stretch)))) stretch

-- the units of these events
abbrev pub units_in : List Numbered → List RootUnit
units_in events = flat_map stretch_units (parts stretch_ends events)

-- the units of a root: those of its events, and then the end
unfoldable pub units_of : List Event → List RootUnit
units_of events = units_in (enumerate_from 0 events) ++ End ∷ []
