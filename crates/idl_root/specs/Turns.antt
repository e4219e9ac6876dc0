-- What 64 bits count of a root.
use Rattle.std.specs.Prelude.{◌<◌, ◌^◌, List, []}
use Rattle.idl_env.specs.Facts.{answers, count_in}
use Rattle.idl_env.specs.declared.keys.key.Key.TheVariants.{Nameless}
use Rattle.idl_event.specs.declared.told.event.Event.{Event}
use Rattle.idl_root.specs.Judged.{HasTurns, facts_after}
use Rattle.idl_unit.specs.Units.{units_of}

-- 64 bits count what the units of a root that expands to these events add: the turns that verdicts
-- need over it, and the scopes without a name that it opens.
pub record FitsU64 (events : List Event) : Type 0 where
  pub turns : HasTurns (units_of events)
  pub nameless : count_in (answers (facts_after [] (units_of events)) Nameless) < 2 ^ 64
