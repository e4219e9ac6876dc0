use Rattle.std.proofs.Common.{◌≡◌, ◌++◌, drop}
use Rattle.idl_base.specs.Spans.{pieces}
use Rattle.idl_base.proofs.texts.push_texts.Given as goal

-- those so far and those of the rest are all
abbrev pub invariant-loop-span : goal.invariant-loop-span
invariant-loop-span l =
    l.texts.items ++ pieces l.bytes (drop l.span-index l.spans) ≡ l.fn.texts.items ++ pieces l.bytes l.spans
