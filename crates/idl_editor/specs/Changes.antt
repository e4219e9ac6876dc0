-- Changes of a text.
use Rattle.std.specs.Prelude.{ℕ, List, ◌++◌, length, max, take, drop, Option, None, Some}
use Rattle.idl_base.specs.declared.texts.ByteRange.{ByteRange}
use Rattle.idl_editor.specs.Positions.{offset_at}
use Rattle.idl_editor.specs.declared.column.Encoding.{Encoding}
use Rattle.idl_editor.specs.declared.change.ContentChange.{ContentChange}
use Rattle.idl_editor.specs.declared.change.Range.{Range}

-- bytes with others in the place of a range of them
abbrev pub replaced : List ℕ → ByteRange → List ℕ → List ℕ
replaced text range new = take range.from text ++ (new ++ drop range.to text)

-- where a range stands in a text. One whose end is before its start is empty
abbrev pub range_in : Encoding → List ℕ → Range → ByteRange
range_in encoding text range =
    let from = offset_at encoding text range.start in
    record { from = from; to = max from (offset_at encoding text range.end) }

-- where a change is made: in its range, or all over the text
abbrev pub changed_in : Encoding → List ℕ → Option Range → ByteRange
changed_in encoding text None = record { from = 0; to = length text }
changed_in encoding text (Some range) = range_in encoding text range

-- a text after a change
abbrev pub text_after : Encoding → List ℕ → ContentChange → List ℕ
text_after encoding text change =
    replaced text (changed_in encoding text change.range) change.text.now
