-- Documents whose texts are refused.
use Rattle.std.specs.Prelude.{◌≡◌, ◌⊎◌, ℕ, true, List, Err, Some}
use Rattle.std.specs.Map.{lookup}
use Rattle.std.specs.Str.{bytes_eq}
use Rattle.idl_source.specs.declared.refusal.Refusal.{Refusal}
use Rattle.idl_source.specs.texts.Cut.{cut_lines}
use Rattle.idl_inputs.specs.Edits.{Put, after}
use Rattle.idl_inputs.specs.Project.{Project}
use Rattle.idl_editor.specs.declared.documents.document.Document.{Document}

-- a project refuses a text as that of the file of this name
abbrev pub IsRefusedText : Project → List ℕ → List ℕ → Type 0
IsRefusedText project name text =
    (refusal : Refusal) × (after project (Put name (cut_lines text)) ≡ Err refusal)

-- a document is behind only where a project refuses its text
abbrev pub OnlyRefusedIsBehind : Project → List ℕ → List (List ℕ × Document) → Type 0
OnlyRefusedIsBehind project name documents =
    (document : Document) → lookup (bytes_eq name) documents ≡ Some document
    → document.is_behind ≡ true → IsRefusedText project name document.text.items

-- each document is as it was, or behind only where a project refuses its text
abbrev pub OnlyRefusedAreBehind : Project → List (List ℕ × Document) → List (List ℕ × Document) → Type 0
OnlyRefusedAreBehind project old new =
    (name : List ℕ) → (lookup (bytes_eq name) new ≡ lookup (bytes_eq name) old)
    ⊎ OnlyRefusedIsBehind project name new
