-- Where a token begins that is found in a project.
use Rattle.std.specs.Prelude.{◌≡◌, ℕ, List, All, Option, None, Some}
use Rattle.std.specs.FinMap as map
use Rattle.idl_fault.specs.declared.place.Place.{Place}
use Rattle.idl_source.specs.texts.Texts.{Texts}
use Rattle.idl_text.specs.Starts.{column_in}
use Rattle.idl_inputs.specs.Project.{Project}
use Rattle.idl_inputs.specs.declared.columns.ChunkPlace.{ChunkPlace}

-- how many bytes of its line are before a token of these files, by its place, its number there and
-- its spelling
abbrev pub column_at : Texts → Place → Option ℕ → List ℕ → Option ℕ
column_at files place number text =
    elim (map.get files place.file) [
      | None ↦ None
      | Some lines ↦ column_in lines place.line number text
    ]

-- chunks that are laid out, each of the file of its name
abbrev pub AreOfFiles : Texts → List (ChunkPlace × List (List ℕ)) → Type 0
AreOfFiles files chunks = All (λ chunk. map.get files chunk.0.file ≡ Some chunk.1) chunks

-- the same in a project
abbrev pub column_of : Project → Place → Option ℕ → List ℕ → Option ℕ
column_of project place number text = column_at project.inputs.files place number text
