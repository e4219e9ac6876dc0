-- The files that are compiled: those of the open documents, and of the disk what roots ask for.
use Rattle.std.specs.Prelude.{◌≡◌, ◌⊎◌, ℕ, Bool, cond, false, true, List, All, IsSome, None, Some}
use Rattle.std.specs.FinMap as finite
use Rattle.std.specs.List.{list_any}
use Rattle.std.specs.Map.{lookup}
use Rattle.std.specs.Str.{bytes_eq}
use Rattle.idl_source.specs.texts.Cut.{cut_lines}
use Rattle.idl_inputs.specs.Bank.{IsSameBeside}
use Rattle.idl_project.specs.idl_sources.Compile.{compiled_root}
use Rattle.idl_loader.specs.Holding.{Holding, NoFile, Allows}
use Rattle.idl_loader.specs.Holding.{IsFileOf}
use Rattle.idl_editor.specs.Splices.{IsSplice}
use Rattle.idl_editor.specs.uris.Folders.{FolderNamed, path_for}
use Rattle.idl_editor.specs.documents.Documents.{AreSameBeside}
use Rattle.idl_server.specs.Roots.{AddsNoRoot}
use Rattle.idl_editor.specs.declared.documents.document.Document.{Document}
use Rattle.idl_editor.specs.declared.splice.LineSplice.{LineSplice}
use Rattle.idl_server.specs.declared.workspace.Workspace.{Workspace}

-- what a loader that tells of paths tells of names
abbrev pub told_by : List FolderNamed → (List ℕ → Holding) → List ℕ → Holding
told_by folders told name = elim (path_for folders name) [ None ↦ NoFile | Some path ↦ told path ]

-- a document that is open, unless the session is behind, is the file of its lines
abbrev pub IsOpenFile : Workspace → List ℕ → Type 0
IsOpenFile w name =
    (document : Document) → lookup (bytes_eq name) w.documents.entries ≡ Some document
    → document.is_behind ≡ false
    → finite.get w.session.project.inputs.files name ≡ Some (cut_lines document.text.items)

-- a splice of the lines of a document's file makes them those of its text
pub record SplicesText (splice : LineSplice) (name : List ℕ) (w : Workspace) : Type 0 where
  pub document : Document
  pub lines : List (List ℕ)
  pub opened : lookup (bytes_eq name) w.documents.entries ≡ Some document
  pub there : finite.get w.session.project.inputs.files name ≡ Some lines
  pub splices : IsSplice lines splice (cut_lines document.text.items)

-- a file is one that the loader has
abbrev pub IsLoadedFile : (List ℕ → Holding) → Workspace → List ℕ → Type 0
IsLoadedFile told w name =
    (lines : List (List ℕ)) → finite.get w.session.project.inputs.files name ≡ Some lines
    → IsFileOf told name lines

-- a file that was tried the loader hasn't, unless it is one that can't be read or is refused
abbrev pub IsMissing : (List ℕ → Holding) → Workspace → List ℕ → Type 0
IsMissing told w name =
    list_any (bytes_eq name) w.tried.keys ≡ true → list_any (bytes_eq name) w.unread.keys ≡ false
    → Allows (told name) NoFile

-- the file of a name that isn't open is the loader's
pub record IsClosed (told : List ℕ → Holding) (w : Workspace) (name : List ℕ) : Type 0 where
  pub loaded : IsLoadedFile told w name
  pub missing : IsMissing told w name

-- the file of a name is the open document's, or the loader's
pub record IsFiled (told : List ℕ → Holding) (w : Workspace) (name : List ℕ) : Type 0 where
  pub opened : IsOpenFile w name
  pub closed : lookup (bytes_eq name) w.documents.entries ≡ None → IsClosed told w name

-- all files are
abbrev pub AreFiled : (List ℕ → Holding) → Workspace → Type 0
AreFiled told w = (name : List ℕ) → IsFiled told w name

-- names after one was put in or taken out
abbrev pub IsWith : List ℕ → Bool → List (List ℕ) → List (List ℕ) → Type 0
IsWith name is old new = (other : List ℕ)
    → list_any (bytes_eq other) new ≡ cond (bytes_eq name other) is (list_any (bytes_eq other) old)

-- a name is among these, or it is that of one of these documents
abbrev pub IsNamed : List (List ℕ) → List (List ℕ × Document) → List ℕ → Type 0
IsNamed names documents name = (list_any (bytes_eq name) names ≡ true)
    ⊎ IsSome (lookup (bytes_eq name) documents)

-- a name is among these, or it is open
abbrev pub IsAmong : List (List ℕ) → Workspace → List ℕ → Type 0
IsAmong names w name = IsNamed names w.documents.entries name

-- a name was tried, or it is open
abbrev pub IsTried : Workspace → List ℕ → Type 0
IsTried w name = IsAmong w.tried.keys w name

-- what these roots ask for and isn't there was tried, or it is open and the session refuses it
abbrev pub AreTriedBy : Workspace → List (List ℕ) → Type 0
AreTriedBy w roots =
    All (λ root. All (IsTried w) (compiled_root w.session.project.inputs root).absent) roots

-- that is so of all roots
abbrev pub AreTried : Workspace → Type 0
AreTried w = AreTriedBy w w.session.project.roots

-- what an editor set when the server began
pub record StaysSet (old new : Workspace) : Type 0 where
  pub encoding : new.encoding ≡ old.encoding
  pub folders : new.folders ≡ old.folders
  pub macros : new.session.project.inputs.macros ≡ old.session.project.inputs.macros
  pub search : new.session.project.inputs.search ≡ old.session.project.inputs.search

-- nothing but what is to be told of it is another
pub record IsKept (old new : Workspace) : Type 0 where
  pub encoding : new.encoding ≡ old.encoding
  pub folders : new.folders ≡ old.folders
  pub session : new.session ≡ old.session
  pub documents : new.documents ≡ old.documents
  pub tried : new.tried ≡ old.tried
  pub unread : new.unread ≡ old.unread

-- nothing but the names that were tried is another, and what is to be told
pub record StaysCompiled (old new : Workspace) : Type 0 where
  pub encoding : new.encoding ≡ old.encoding
  pub folders : new.folders ≡ old.folders
  pub session : new.session ≡ old.session
  pub documents : new.documents ≡ old.documents

-- nothing but the roots is another, and what is to be told
pub record StaysFiled (old new : Workspace) : Type 0 where
  pub encoding : new.encoding ≡ old.encoding
  pub folders : new.folders ≡ old.folders
  pub inputs : new.session.project.inputs ≡ old.session.project.inputs
  pub documents : new.documents ≡ old.documents
  pub tried : new.tried ≡ old.tried
  pub unread : new.unread ≡ old.unread

-- nothing but the text of the document of this name is another
pub record StaysButText (name : List ℕ) (old new : Workspace) : Type 0 where
  pub encoding : new.encoding ≡ old.encoding
  pub folders : new.folders ≡ old.folders
  pub session : new.session ≡ old.session
  pub documents : AreSameBeside name old.documents.entries new.documents.entries
  pub tried : new.tried ≡ old.tried
  pub unread : new.unread ≡ old.unread

-- nothing but the document and the file of this name is another, and no file has become a root
pub record StaysBeside (name : List ℕ) (old new : Workspace) : Type 0 where
  pub set : StaysSet old new
  pub documents : AreSameBeside name old.documents.entries new.documents.entries
  pub files : IsSameBeside name old.session.project.inputs.files new.session.project.inputs.files
  pub tried : (other : List ℕ) → bytes_eq name other ≡ false
      → list_any (bytes_eq other) new.tried.keys ≡ list_any (bytes_eq other) old.tried.keys
  pub unread : (other : List ℕ) → bytes_eq name other ≡ false
      → list_any (bytes_eq other) new.unread.keys ≡ list_any (bytes_eq other) old.unread.keys
  pub roots : AddsNoRoot old.session.project new.session.project
