-- What an item of an expansion leaves of the limits of a root, what stands in the place of one past
-- them, and what is kept.
use Rattle.std.specs.Prelude.{ℕ, ◌-◌, List, [], Option, None, Some, if◌then◌else◌, nat_eq}
use Rattle.std.specs.Option.{option_to_list}
use Rattle.idl_memo.specs.Progress.{Rules, Progress}
use Rattle.idl_event.specs.Limits.{turns_at_most, tokens_at_most}
use Rattle.idl_event.specs.declared.told.allowance.Allowance.{Allowance}
use Rattle.idl_fault.specs.declared.code.Code.TheVariants.{PastLimit}
use Rattle.idl_event.specs.declared.told.event.Event.{Event}
use Rattle.idl_event.specs.declared.told.event.Event.TheVariants.{Emitted, Entered, Left, Pragma, Fault}
use Rattle.idl_event.specs.declared.told.event.Item.{Item}
use Rattle.idl_event.specs.declared.told.event.Item.TheVariants.{Kept, Counted, Turn, TooDeep}
use Rattle.idl_event.specs.declared.asked.key.RootAnswer.{RootAnswer}
use Rattle.idl_event.specs.declared.asked.key.RootKey.{RootKey}
use Rattle.idl_fault.specs.declared.place.Place.{Place}

-- what a root begins with
abbrev pub whole_allowance : Allowance
whole_allowance = record { turns = turns_at_most; tokens = tokens_at_most }

-- a turn less, if one is left
abbrev pub spend_turn : Allowance → Option Allowance
spend_turn left =
    if nat_eq left.turns 0 then None else Some (record left { turns = left.turns - 1 })

-- a token less, if one is left
abbrev pub spend_token : Allowance → Option Allowance
spend_token left =
    if nat_eq left.tokens 0 then None else Some (record left { tokens = left.tokens - 1 })

-- what an event leaves of an allowance, or nothing where it is past it
abbrev pub spend_event : Allowance → Event → Option Allowance
spend_event left (Emitted place token) = spend_token left
spend_event left (Entered file) = Some left
spend_event left (Left file) = Some left
spend_event left (Pragma place tokens) = Some left
spend_event left (Fault place code text) = Some left

-- what an item leaves of an allowance, or nothing where it is past it
abbrev pub spend : Allowance → Item → Option Allowance
spend left (Kept event) = spend_event left event
spend left (Counted place) = spend_token left
spend left (Turn place) = spend_turn left
spend left (TooDeep place) = None

-- the place of an event; that of a file entered or left is its line 0
abbrev pub place_of_event : Event → Place
place_of_event (Emitted place token) = place
place_of_event (Entered file) = record { file = file; line = 0 }
place_of_event (Left file) = record { file = file; line = 0 }
place_of_event (Pragma place tokens) = place
place_of_event (Fault place code text) = place

abbrev pub place_of : Item → Place
place_of (Kept event) = place_of_event event
place_of (Counted place) = place
place_of (Turn place) = place
place_of (TooDeep place) = place

-- what stands in the place of an item past the allowance
abbrev pub last : Item → Event
last item = Fault (place_of item) PastLimit None

-- what is kept of an item
abbrev pub event_of : Item → Option Event
event_of (Kept event) = Some event
event_of (Counted place) = None
event_of (Turn place) = None
event_of (TooDeep place) = None

abbrev pub rules : Rules Item Event Allowance
rules =
    record {
      spend = spend;
      last = λ item. Kept (last item);
      keep = λ item. option_to_list
          (event_of item);
    }

-- nothing is told, and nothing is spent
abbrev pub beginning : List (RootKey × Option RootAnswer) → Progress RootKey (Option RootAnswer) Event Allowance
beginning log = record { kept = []; left = Some whole_allowance; log = log }

-- the turns that are left
abbrev pub turns_left : Option Allowance → ℕ
turns_left None = 0
turns_left (Some left) = left.turns

-- the tokens that are left
abbrev pub tokens_left : Option Allowance → ℕ
tokens_left None = 0
tokens_left (Some left) = left.tokens
