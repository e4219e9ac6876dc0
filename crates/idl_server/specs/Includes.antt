-- The include on a line of a file, and the file that it finds (after ISO/IEC 9899, 6.10.2).
use Rattle.std.specs.Prelude.{ℕ, suc, ◌+◌, ◌||◌, Bool, List, Option, None, Some, codes, drop, length, nat_eq, not, option_and_then, slice_get, slice_range, if◌then◌else◌}
use Rattle.std.specs.List.{position, starts_with}
use Rattle.std.specs.Option.{option_map, unwrap_or}
use Rattle.idl_source.specs.names.Candidates.{candidates, found}
use Rattle.idl_inputs.specs.Project.{Project}
use Rattle.idl_editor.specs.Places.{range_between}
use Rattle.idl_editor.specs.declared.column.Encoding.{Encoding}
use Rattle.idl_editor.specs.declared.position.Position.{Position}
use Rattle.idl_server.specs.Places.{is_at, lines_of}
use Rattle.idl_server.specs.declared.includes.IncludeOperand.{IncludeOperand}

-- how many blanks and tabs bytes begin with
abbrev pub is_blank : ℕ → Bool
is_blank b = nat_eq b 32 || nat_eq b 9

abbrev pub blank_count : List ℕ → ℕ
blank_count bytes = unwrap_or (position (λ b. not (is_blank b)) bytes) (length bytes)

-- behind how many bytes of a line a word ends that stands behind so many of them, and blanks
abbrev pub word_end : List ℕ → List ℕ → ℕ → Option ℕ
word_end line word at =
    let start = at + blank_count (drop at line) in
    if starts_with nat_eq (drop start line) word then Some (start + length word) else None

-- the name that begins behind so many bytes, and ends before a mark
abbrev pub operand_until : List ℕ → ℕ → ℕ → Option IncludeOperand
operand_until line mark start =
    option_map (λ len. record { start = start; end = start + len; is_quoted = nat_eq mark 34 })
    (position (λ b. nat_eq b mark) (drop start line))

-- the name that stands behind so many: in quotes, or in `<` and `>`
abbrev pub operand_behind : List ℕ → ℕ → Option IncludeOperand
operand_behind line at =
    elim (word_end line (codes "\"") at) [
      | Some start ↦ operand_until line 34 start
      | None ↦ option_and_then (operand_until line 62) (word_end line (codes "<") at)
    ]

-- that of the include that a line is
abbrev pub operand_in : List ℕ → Option IncludeOperand
operand_in line =
    option_and_then (operand_behind line)
    (option_and_then (word_end line (codes "include")) (word_end line (codes "#") 0))

-- the file that an operand on a line of a file finds
abbrev pub file_found : Project → List ℕ → List ℕ → IncludeOperand → Option (List ℕ)
file_found project name line operand =
    found project.inputs.files
    (candidates project.inputs.search name (slice_range line operand.start operand.end)
    operand.is_quoted)

-- the file that the include at a position finds, where the operand of its line stands there
abbrev pub included_by : Encoding → Project → List ℕ → Position → List ℕ → Option (List ℕ)
included_by encoding project name position line =
    option_and_then (λ operand. if is_at position
    (range_between encoding (lines_of project name) (suc position.line) operand.start operand.end)
    then file_found project name line operand else None) (operand_in line)

abbrev pub included_at : Encoding → Project → List ℕ → Position → Option (List ℕ)
included_at encoding project name position =
    option_and_then (included_by encoding project name position)
    (slice_get (lines_of project name) position.line)
