-- What each item of an expansion takes of the allowance: nothing is left where it is past that.
use Rattle.std.specs.Prelude.{◌-◌, nat_eq, Option, None, Some, if◌then◌else◌}
use Rattle.idl_event.specs.Items.{spend_token}
use Rattle.idl_event.specs.declared.told.allowance.Allowance.{Allowance}
use Rattle.idl_event.specs.declared.told.event.Event.TheVariants.{Emitted}
use Rattle.idl_event.specs.declared.told.event.Item.{Item}
use Rattle.idl_event.specs.declared.told.event.Item.TheVariants.{Counted, Kept, TooDeep, Turn}

abbrev pub left_behind : Allowance → Item → Option Allowance
left_behind left (Turn place) =
    if nat_eq left.turns 0 then None else Some (record left { turns = left.turns - 1 })
left_behind left (TooDeep place) = None
left_behind left (Counted place) = spend_token left
left_behind left (Kept (Emitted place token)) = spend_token left
left_behind left (Kept event) = Some left
