-- What is told of what is found.
use Rattle.std.specs.Prelude.{◌≡◌, ◌++◌, ℕ, List, All, Option}
use Rattle.serde_json.specs.Data.{Data}
use Rattle.idl_editor.specs.told.Published.{published_json}
use Rattle.idl_server.specs.Diagnostics.{AreDiagnostics}
use Rattle.idl_server.specs.Uris.{uri_for, version_for}
use Rattle.idl_server.specs.declared.workspace.Workspace.{Workspace}

-- a message that tells of a file what is found tells what the roots of the present project find there,
-- and of an open document its version
abbrev pub IsPublished : Workspace → Data → Type 0
IsPublished w message =
    (uri : List ℕ) (version : Option ℕ) (list : Data) → message ≡ published_json uri version list
    → (name : List ℕ) × (uri ≡ uri_for w name) × (version ≡ version_for w name)
    × AreDiagnostics w.encoding w.session.project name list

-- so do those that were said since
abbrev pub ArePublished : Workspace → List Data → List Data → Type 0
ArePublished w old new = (more : List Data) × (new ≡ old ++ more) × All (IsPublished w) more
