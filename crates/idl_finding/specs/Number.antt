-- The number of a token in its line.
use Rattle.std.specs.Prelude.{◌≡◌, ℕ, zero, suc, Bool, false, ◌&&◌, List, nat_eq, slice_get, Option, None, Some, if◌then◌else◌}
use Rattle.std.specs.Str.{bytes_eq}
use Rattle.idl_event.specs.declared.told.event.Event.{Event}
use Rattle.idl_event.specs.declared.told.event.Event.TheVariants as event
use Rattle.idl_fault.specs.declared.place.Place.{Place}

-- a token at this place
abbrev pub stands_at : Place → Option Event → Bool
stands_at place (Some (event.Emitted at token)) =
    bytes_eq at.file place.file && nat_eq at.line place.line
stands_at place other = false

-- how many tokens at this place stand directly before the event with this number
abbrev pub tokens_before : List Event → Place → ℕ → ℕ
tokens_before events place zero = 0
tokens_before events place (suc n) =
    if stands_at place (slice_get events n) then suc (tokens_before events place n) else 0

-- that number for a token at its own place; another event has none
abbrev pub number_of_event : List Event → ℕ → Option Event → Option ℕ
number_of_event events n (Some (event.Emitted place token)) = Some (tokens_before events place n)
number_of_event events n other = None

-- the number of the token that an event is, among those of its line that stand together, from 0
abbrev pub token_number : List Event → ℕ → Option ℕ
token_number events n = number_of_event events n (slice_get events n)

-- the numbers of events from the first on, as far as there are any
abbrev pub AreNumbersOf : List Event → List (Option ℕ) → Type 0
AreNumbersOf events numbers =
    (n : ℕ) (number : Option ℕ) → slice_get numbers n ≡ Some number → number ≡ token_number events n
