-- Which files are roots: of the open documents those that no root asks for.
use Rattle.std.specs.Prelude.{◌≡◌, ◌⊎◌, ◌≤◌, ℕ, false, true, List, IsSome, length}
use Rattle.std.specs.FinMap as finite
use Rattle.std.specs.List.{list_any}
use Rattle.std.specs.Map.{lookup}
use Rattle.std.specs.Str.{bytes_eq}
use Rattle.idl_source.specs.Limits.{most_roots}
use Rattle.idl_inputs.specs.Project.{Project, is_root}
use Rattle.idl_server.specs.Named.{root_with}
use Rattle.idl_server.specs.declared.workspace.Workspace.{Workspace}

-- a document of this name is open
abbrev pub IsOpen : Workspace → List ℕ → Type 0
IsOpen w name = IsSome (lookup (bytes_eq name) w.documents.entries)

-- the session has a file of this name
abbrev pub IsThere : Project → List ℕ → Type 0
IsThere project name = IsSome (finite.get project.inputs.files name)

-- a file is a root, or a root asks for it
abbrev pub IsCompiled : Project → List ℕ → Type 0
IsCompiled project name =
    (is_root project name ≡ true) ⊎ IsSome (root_with project name)

-- there are as many roots as there may be
abbrev pub IsFull : Project → Type 0
IsFull project = most_roots ≤ length project.roots

-- an open document of which the session has the file is compiled, unless there are as many roots as
-- there may be
abbrev pub IsCovered : Workspace → List ℕ → Type 0
IsCovered w name =
    IsOpen w name → IsThere w.session.project name
    → IsCompiled w.session.project name ⊎ IsFull w.session.project

-- all of them are
abbrev pub AreCovered : Workspace → Type 0
AreCovered w = (name : List ℕ) → IsCovered w name

-- no file has become a root
abbrev pub AddsNoRoot : Project → Project → Type 0
AddsNoRoot old new = (name : List ℕ) → is_root new name ≡ true → is_root old name ≡ true

-- a root is an open document
abbrev pub IsRooted : Workspace → List ℕ → Type 0
IsRooted w name = is_root w.session.project name ≡ true → IsOpen w name

-- all roots are
abbrev pub AreRooted : Workspace → Type 0
AreRooted w = (name : List ℕ) → IsRooted w name

-- an open document of which the session has the file, that is no root and wasn't turned away
pub record IsWaiting (w : Workspace) (name : List ℕ) : Type 0 where
  pub opened : IsOpen w name
  pub there : IsThere w.session.project name
  pub rootless : is_root w.session.project name ≡ false
  pub welcome : list_any (bytes_eq name) w.turned_away.keys ≡ false
