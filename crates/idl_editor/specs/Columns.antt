-- Columns of a line in units of an encoding.
use Rattle.std.specs.Prelude.{ℕ, ◌+◌, ◌-◌, List, [], ◌∷◌, nat_le, Option, None, Some, if◌then◌else◌}
use Rattle.bstr.specs.Utf8.{Decoded}
use Rattle.idl_editor.specs.declared.column.Encoding.{Encoding}
use Rattle.idl_editor.specs.declared.column.Encoding.TheVariants.{Utf8, Utf16}

-- units of 16 bits of a character. What is none counts as U+FFFD
abbrev pub wide_units : Option ℕ → ℕ
wide_units None = 1
wide_units (Some c) = if nat_le 65536 c then 2 else 1

-- the units that a piece of a line takes
abbrev pub units : Encoding → Decoded → ℕ
units Utf8 piece = piece.size
units Utf16 piece = wide_units piece.char

-- the bytes of the longest run of pieces that takes at most n units
abbrev pub run_size : Encoding → ℕ → List Decoded → ℕ
run_size encoding n [] = 0
run_size encoding n (piece ∷ pieces) =
    if nat_le (units encoding piece) n
    then piece.size + run_size encoding (n - units encoding piece) pieces
    else 0

-- the units that pieces take
abbrev pub run_units : Encoding → List Decoded → ℕ
run_units encoding [] = 0
run_units encoding (piece ∷ pieces) = units encoding piece + run_units encoding pieces
