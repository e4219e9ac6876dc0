-- Places in files of a project as positions of an editor.
use Rattle.std.specs.Prelude.{◌≡◌, ◌≤◌, ◌*◌, ◌&&◌, ℕ, All, Bool, List, [], Option, Some, length, slice_get, take, unwrap_or}
use Rattle.std.specs.FinMap as finite
use Rattle.std.specs.List.{sum_by}
use Rattle.idl_source.specs.Limits.{longest_line}
use Rattle.idl_editor.specs.Places.{is_up_to, range_in, returns}
use Rattle.idl_editor.specs.declared.change.Range.{Range}
use Rattle.idl_editor.specs.declared.column.Encoding.{Encoding}
use Rattle.idl_editor.specs.declared.position.Position.{Position}
use Rattle.idl_fault.specs.declared.place.Place.{Place}
use Rattle.idl_inputs.specs.Columns.{column_of}
use Rattle.idl_inputs.specs.Project.{Project}

-- the lines of a file, and of one that isn't there none
abbrev pub lines_of : Project → List ℕ → List (List ℕ)
lines_of project name = unwrap_or (finite.get project.inputs.files name) []

-- the range of a token that is found in a project, by its place, its number there and its spelling
abbrev pub range_of : Encoding → Project → Place → Option ℕ → List ℕ → Range
range_of encoding project place number text =
    range_in encoding (lines_of project place.file) place.line
    (column_of project place number text) (length text)

-- for each of the first lines of a file, how many carriage returns are before it
abbrev pub AreCounts : List (List ℕ) → List ℕ → Type 0
AreCounts lines counts =
    (index count : ℕ) → slice_get counts index ≡ Some count
    → (count ≡ sum_by returns (take index lines)) × (count ≤ longest_line * length lines)

-- files that are counted, each of its name
abbrev pub AreOfProject : Project → List (List ℕ × List (List ℕ)) → Type 0
AreOfProject project files = All (λ file. file.1 ≡ lines_of project file.0) files

-- a range goes from a position or from before through it
abbrev pub is_at : Position → Range → Bool
is_at position range = is_up_to range.start position && is_up_to position range.end

-- the beginning of a file
abbrev pub file_start : Range
file_start =
    let start : Position = record { line = 0; column = 0 } in record { start = start; end = start }
