-- What is found, as an editor is told.
use Rattle.std.specs.Prelude.{◌≡◌, ℕ, ◌-◌, List, [], ◌∷◌, ◌++◌, length, nat_le, None, Some, slice_get, take, if◌then◌else◌}
use Rattle.std.specs.List.{AllZip}
use Rattle.serde_json.specs.Data.{Data, array}
use Rattle.serde_json.specs.View.{items_of}
use Rattle.idl_editor.specs.declared.change.Range.{Range}
use Rattle.idl_editor.specs.declared.column.Encoding.{Encoding}
use Rattle.idl_inputs.specs.Project.{Project}
use Rattle.idl_finding.specs.declared.finding.Finding.{Finding}
use Rattle.idl_server.specs.Found.{AreFoundIn}
use Rattle.idl_editor.specs.Places.{line_range}
use Rattle.idl_editor.specs.told.Diagnostics.{IsSaid, diagnostic_json, more_json}
use Rattle.idl_editor.specs.told.Found.{most_told}
use Rattle.idl_server.specs.Places.{lines_of, range_of}

-- the range of the line on which a finding stands
abbrev pub finding_line : Encoding → Project → Finding → Range
finding_line encoding project finding =
    line_range encoding (lines_of project finding.place.file) finding.place.line

-- where it is told what is found: at its token, and where that isn't told, on its line
abbrev pub finding_range : Encoding → Project → Finding → Range
finding_range encoding project finding =
    elim finding.text [
      | None ↦ finding_line encoding project finding
      | Some text ↦ range_of encoding project finding.place finding.number text
    ]

-- what is told of a finding, with what is told of its second places
abbrev pub IsDiagnostic : Encoding → Project → Finding → Data → Data → Type 0
IsDiagnostic encoding project finding related json =
    (message : List ℕ) × IsSaid finding message
    × (json ≡ diagnostic_json finding (finding_range encoding project finding) message related)

-- what is told of a finding, whatever its second places are
abbrev pub IsToldOf : Encoding → Project → Finding → Data → Type 0
IsToldOf encoding project finding json =
    (related : Data) × IsDiagnostic encoding project finding related json

-- where more are found than are told: how many more, on the line of the last one that is told
abbrev pub rest_told : Encoding → Project → List Finding → List Data
rest_told encoding project found =
    if nat_le (length found) most_told then []
    else elim (slice_get found (most_told - 1)) [
      | None ↦ []
      | Some last ↦ more_json (finding_line encoding project last) (length found - most_told) ∷ []
    ]

-- what is told of a file: of the first findings in it, and how many more there are
abbrev pub AreDiagnostics : Encoding → Project → List ℕ → Data → Type 0
AreDiagnostics encoding project name json =
    (found : List Finding) × AreFoundIn project name found
    × (jsons : List Data) × AllZip (IsToldOf encoding project) (take most_told found) jsons
    × (json ≡ array (items_of (jsons ++ rest_told encoding project found)))
