use Rattle.std.proofs.Common.{◌≡◌, ◌++◌, drop}
use Rattle.idl_base.specs.Spans.{pieces}
use Rattle.idl_source.proofs.texts.lines.push_pieces.Given as goal

-- those so far and those of the rest are all
abbrev pub invariant-loop-span : goal.invariant-loop-span
invariant-loop-span l =
    l.lines.items ++ pieces l.bytes (drop l.span-index l.spans) ≡ l.fn.lines.items ++ pieces l.bytes l.spans
