-- Texts that stand among bytes.
use Rattle.std.specs.Prelude.{ℕ, List, ◌≤◌, All, length, map, slice_range}
use Rattle.idl_base.specs.declared.texts.ByteRange.{ByteRange}

-- the bytes at a span
abbrev pub piece : List ℕ → ByteRange → List ℕ
piece bytes span = slice_range bytes span.from span.to

-- the bytes at these spans
abbrev pub pieces : List ℕ → List ByteRange → List (List ℕ)
pieces bytes spans = map (piece bytes) spans

-- none of these spans ends behind the bytes, or before it begins
abbrev pub AreWithin : List ℕ → List ByteRange → Type 0
AreWithin bytes spans = All (λ span. (span.from ≤ span.to) × (span.to ≤ length bytes)) spans
