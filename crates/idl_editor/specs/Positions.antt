-- Positions in a text: lines end in a line feed, a carriage return, or both in this order.
use Rattle.std.specs.Prelude.{ℕ, zero, suc, ◌+◌, Bool, ◌||◌, ◌&&◌, ◌==◌, List, [], ◌∷◌, drop, take, if◌then◌else◌}
use Rattle.std.specs.List.{position_or_len}
use Rattle.bstr.specs.Utf8.{pieces}
use Rattle.idl_editor.specs.Columns.{run_size}
use Rattle.idl_editor.specs.declared.column.Encoding.{Encoding}
use Rattle.idl_editor.specs.declared.position.Position.{Position}

-- a line feed or a carriage return
abbrev pub is_break : ℕ → Bool
is_break b = b == 10 || b == 13

-- the bytes of the first line, without its end
abbrev pub line_size : List ℕ → ℕ
line_size text = position_or_len is_break text

-- the bytes of the line end that bytes begin with
abbrev pub end_size : List ℕ → ℕ
end_size [] = 0
end_size (b ∷ []) = 1
end_size (b ∷ c ∷ bytes) = if b == 13 && c == 10 then 2 else 1

-- the bytes of the first line, with its end
unfoldable pub whole_size : List ℕ → ℕ
whole_size text = line_size text + end_size (drop (line_size text) text)

-- where the line of this number begins, 0 being the first: at the text's end where there is none
unfoldable pub line_start : ℕ → List ℕ → ℕ
line_start zero text = 0
line_start (suc line) text = whole_size text + line_start line (drop (whole_size text) text)

-- the bytes before a column of the first line
abbrev pub column_size : Encoding → ℕ → List ℕ → ℕ
column_size encoding column text = run_size encoding column (pieces (take (line_size text) text))

-- the bytes before a position
abbrev pub offset_at : Encoding → List ℕ → Position → ℕ
offset_at encoding text position =
    let start = line_start position.line text in
    start + column_size encoding position.column (drop start text)
