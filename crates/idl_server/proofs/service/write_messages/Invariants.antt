use Rattle.std.proofs.Common.{◌≡◌, ℕ, List, map, take}
use Rattle.serde_json.specs.View.{view}
use Rattle.idl_source.specs.devices.Device.{append}
use Rattle.idl_server.specs.Serving.{AreWritten}
use Rattle.idl_server.proofs.service.write_messages.Given as goal

-- all writes went well, and those before are written
abbrev pub invariant-messages : goal.invariant-messages
invariant-messages g l = record {
  well : g.O.Sink.failures l.output ≡ g.O.Sink.failures l.fn.output;
  written : (text : List ℕ) × AreWritten (map view (take l.value-index l.messages)) text
      × (g.O.Sink.written l.output ≡ append (g.O.Sink.written l.fn.output) text);
}
