-- What an event is, where it is read.
use Rattle.idl_event.specs.declared.told.event.Event.{Event}
use Rattle.idl_event.specs.declared.told.event.Event.TheVariants as event
use Rattle.idl_event.specs.declared.told.event_view.EventView.{EventView}
use Rattle.idl_event.specs.declared.told.event_view.EventView.TheVariants as told

abbrev pub event_told : EventView → Event
event_told (told.Emitted file line token) =
    event.Emitted (record { file = file.now; line = line }) token.now
event_told (told.Other event) = event.now
