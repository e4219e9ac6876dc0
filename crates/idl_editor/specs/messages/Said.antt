-- What is to be said to an editor.
use Rattle.std.specs.Prelude.{List, map}
use Rattle.serde_json.specs.Data.{Data}
use Rattle.serde_json.specs.View.{view}
use Rattle.idl_editor.specs.declared.messages.outbox.Outbox.{Outbox}

-- what is to be said, in order
abbrev pub said_by : Outbox → List Data
said_by out = map view out.messages.items
