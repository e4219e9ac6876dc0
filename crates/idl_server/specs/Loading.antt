-- Files that are loaded while no document changes.
use Rattle.std.specs.Prelude.{◌≡◌, ℕ, List, None}
use Rattle.std.specs.Map.{lookup}
use Rattle.std.specs.Str.{bytes_eq}
use Rattle.idl_inputs.specs.Edits.{Edit, Put, Splice, Remove, Define, Undef, Search, AddRoot, DropRoot}
use Rattle.idl_loader.specs.Holding.{Holding}
use Rattle.idl_loader.specs.Holding.{IsFileOf}
use Rattle.idl_server.specs.Files.{StaysSet}
use Rattle.idl_server.specs.Roots.{AddsNoRoot}
use Rattle.idl_editor.specs.declared.documents.document.Document.{Document}
use Rattle.idl_server.specs.declared.workspace.Workspace.{Workspace}

-- an edit puts a file that the loader has, or removes one, of a name that isn't open
abbrev pub IsLoadedEdit : (List ℕ → Holding) → List (List ℕ × Document) → Edit → Type 0
IsLoadedEdit told documents (Put name lines) =
    IsFileOf told name lines × (lookup (bytes_eq name) documents ≡ None)
IsLoadedEdit told documents (Splice name from del lines) = ⊥
IsLoadedEdit told documents (Remove name) = lookup (bytes_eq name) documents ≡ None
IsLoadedEdit told documents (Define word body) = ⊥
IsLoadedEdit told documents (Undef word) = ⊥
IsLoadedEdit told documents (Search directories) = ⊥
IsLoadedEdit told documents (AddRoot name) = ⊥
IsLoadedEdit told documents (DropRoot name) = ⊥

-- the open documents are the same, and what an editor set when the server began, and no file has
-- become a root
pub record StaysOpen (old new : Workspace) : Type 0 where
  pub set : StaysSet old new
  pub documents : new.documents ≡ old.documents
  pub roots : AddsNoRoot old.session.project new.session.project
