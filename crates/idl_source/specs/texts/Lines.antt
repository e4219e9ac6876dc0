-- Lines whose bytes stand together.
use Rattle.std.specs.Prelude.{ℕ, List, ◌≤◌, All, length}
use Rattle.idl_base.specs.Spans.{piece}
use Rattle.idl_base.specs.declared.texts.ByteRange.{ByteRange}
use Rattle.idl_source.specs.texts.Line.{IsLine}

-- a line stands at each of these spans
abbrev pub AreLines : List ℕ → List ByteRange → Type 0
AreLines bytes spans =
    All (λ span. (span.from ≤ span.to) × (span.to ≤ length bytes) × IsLine (piece bytes span)) spans
