-- A change of a text as one splice of lines.
use Rattle.std.specs.Prelude.{◌≡◌, ℕ, List, [], ◌∷◌, ◌++◌, ◌⊎◌, ◌<◌, ◌≤◌, IsTrue, length, take}
use Rattle.idl_base.specs.declared.texts.ByteRange.{ByteRange}
use Rattle.idl_source.specs.texts.Texts.{is_inside, spliced}
use Rattle.idl_editor.specs.declared.splice.LineSplice.{LineSplice}

-- a splice of these lines gives those
pub record IsSplice (old : List (List ℕ)) (splice : LineSplice) (new : List (List ℕ))
    : Type 0 where
  pub inside : IsTrue (is_inside old splice.span.from splice.span.del)
  pub gives : spliced old splice.span.from splice.span.del splice.lines.items ≡ new

-- bytes end where a line does, or there are none
abbrev pub EndsLine : List ℕ → Type 0
EndsLine bytes = (bytes ≡ []) ⊎ ((front : List ℕ) × (bytes ≡ front ++ 10 ∷ []))

-- a range of whole lines around another one: it begins behind a line's end, and ends behind one or
-- at the text's end
pub record IsWholeAround (text : List ℕ) (range whole : ByteRange) : Type 0 where
  pub before : whole.from ≤ range.from
  pub after : range.to ≤ whole.to
  pub within : whole.to ≤ length text
  pub begins : EndsLine (take whole.from text)
  pub ends : (whole.to ≡ length text) ⊎ (EndsLine (take whole.to text) × (range.to < whole.to))
