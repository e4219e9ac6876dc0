use Rattle.std.proofs.Common.{◌≡◌, map, drop}
use Rattle.httparse.specs.Spans.{header_bytes}
use Rattle.idl_editor.specs.frames.Message.{announced}
use Rattle.idl_editor.proofs.frames.head.announced.Given as goal

abbrev pub invariant-loop-field : goal.invariant-loop-field
invariant-loop-field l = announced (map (header_bytes l.bytes) l.fields) ≡ announced (map (header_bytes l.bytes) (drop l.field-index l.fields))
