-- Places in files as positions of an editor: to it a carriage return that is left in a line ends one,
-- too.
use Rattle.std.specs.Prelude.{ℕ, zero, suc, ◌+◌, List, [], Bool, ◌&&◌, ◌||◌, Option, None, Some, drop, length, nat_eq, nat_le, nat_lt, pred, slice_get, take, unwrap_or}
use Rattle.std.specs.List.{sum_by}
use Rattle.bstr.specs.Utf8.{pieces}
use Rattle.memchr.specs.Find.{is_byte, last_of, places}
use Rattle.idl_editor.specs.Columns.{run_units}
use Rattle.idl_editor.specs.declared.change.Range.{Range}
use Rattle.idl_editor.specs.declared.column.Encoding.{Encoding}
use Rattle.idl_editor.specs.declared.position.Position.{Position}

-- where the carriage returns are in bytes, and how many
abbrev pub return_places : List ℕ → List ℕ
return_places bytes = places (is_byte 13) bytes

abbrev pub returns : List ℕ → ℕ
returns bytes = length (return_places bytes)

-- the bytes behind the last one
abbrev pub behind_return : List ℕ → List ℕ
behind_return bytes =
    elim (last_of (return_places bytes)) [ None ↦ bytes | Some place ↦ drop (place + 1) bytes ]

-- so many bytes of the line with this index, from 0 on. A line that isn't there has none
abbrev pub bytes_before : List (List ℕ) → ℕ → ℕ → List ℕ
bytes_before lines index column = take column (unwrap_or (slice_get lines index) [])

-- the position behind these bytes of a line, behind so many lines of an editor
abbrev pub position_behind : Encoding → ℕ → List ℕ → Position
position_behind encoding before bytes = record {
  line = before + returns bytes;
  column = run_units encoding (pieces (behind_return bytes));
}

-- the position behind so many bytes of the line of a file that has this number, from 1 on; of line 0,
-- which no text has, it is the first one
abbrev pub position_in : Encoding → List (List ℕ) → ℕ → ℕ → Position
position_in encoding lines zero column = record { line = 0; column = 0 }
position_in encoding lines (suc index) column =
    position_behind encoding (index + sum_by returns (take index lines))
    (bytes_before lines index column)

-- from behind so many bytes of a line up to behind so many
abbrev pub range_between : Encoding → List (List ℕ) → ℕ → ℕ → ℕ → Range
range_between encoding lines number from to = record {
  start = position_in encoding lines number from;
  end = position_in encoding lines number to;
}

-- the range of a line
abbrev pub line_range : Encoding → List (List ℕ) → ℕ → Range
line_range encoding lines number =
    range_between encoding lines number 0 (length (unwrap_or (slice_get lines (pred number)) []))

-- the range of so many bytes behind so many of a line, and where these aren't known, of the line
abbrev pub range_in : Encoding → List (List ℕ) → ℕ → Option ℕ → ℕ → Range
range_in encoding lines number None len = line_range encoding lines number
range_in encoding lines number (Some column) len =
    range_between encoding lines number column (column + len)

-- a position is the same as another one, or before it
abbrev pub is_up_to : Position → Position → Bool
is_up_to a b = nat_lt a.line b.line || (nat_eq a.line b.line && nat_le a.column b.column)

-- a range goes from nowhere before to nowhere behind another one
abbrev pub is_around : Range → Range → Bool
is_around outer inner = is_up_to outer.start inner.start && is_up_to inner.end outer.end
