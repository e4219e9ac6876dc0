-- What holds of a server between messages.
use Rattle.std.specs.Prelude.{◌≡◌, ◌⊎◌, ℕ, true, List, [], Option, None, option_and_then}
use Rattle.std.specs.FinMap as finite
use Rattle.std.specs.List.{list_any}
use Rattle.std.specs.Map.{lookup}
use Rattle.std.specs.Str.{bytes_eq}
use Rattle.idl_loader.specs.Holding.{Holding}
use Rattle.idl_editor.specs.documents.Documents.{HaveTexts, Open, Told, open_after_told, texts_of}
use Rattle.idl_server.specs.Documents.{OnlyRefusedIsBehind}
use Rattle.idl_server.specs.Files.{AreFiled, AreTried, StaysSet, told_by}
use Rattle.idl_editor.specs.documents.Notices.{json_of, told_by_message}
use Rattle.idl_server.specs.Roots.{AreCovered, AreRooted}
use Rattle.idl_server.specs.declared.server.Phase.{Phase}
use Rattle.idl_server.specs.declared.server.Phase.TheVariants.{Running, ShutDown, Waiting}
use Rattle.idl_server.specs.declared.server.Server.{Server}
use Rattle.idl_server.specs.declared.workspace.Workspace.{Workspace}

-- nothing but what an editor sets when the server begins is another, and what is to be told
pub record OnlySets (old new : Workspace) : Type 0 where
  pub documents : new.documents ≡ old.documents
  pub files : new.session.project.inputs.files ≡ old.session.project.inputs.files
  pub roots : new.session.project.roots ≡ old.session.project.roots
  pub tried : new.tried ≡ old.tried

-- nothing was told of documents, and there are no files
pub record IsBlank (w : Workspace) : Type 0 where
  pub documents : w.documents.entries ≡ []
  pub files : (name : List ℕ) → finite.get w.session.project.inputs.files name ≡ None
  pub roots : w.session.project.roots ≡ []
  pub tried : w.tried.keys ≡ []

-- each file is that of an open document or the loader's, and what roots ask for was tried. So what
-- roots compile to is a function of the texts that the editor told, of what it set when the server
-- began, and of the files of the loader. Roots are open documents alone, and each open document that
-- the session has is compiled, unless there are as many roots as there may be
pub record IsSettled (told : List ℕ → Holding) (server : Server) : Type 0 where
  pub filed : AreFiled (told_by server.workspace.folders told) server.workspace
  pub tried : AreTried server.workspace
  pub rooted : AreRooted server.workspace
  pub covered : AreCovered server.workspace
  pub blank : server.phase ≡ Waiting → IsBlank server.workspace

-- only a server that runs takes in what it is told
abbrev pub if_running : Phase → Option Told → Option Told
if_running Running told = told
if_running Waiting told = None
if_running ShutDown told = None

-- what a message tells a server of documents
abbrev pub told_to : Server → List ℕ → Option Told
told_to server body =
    if_running server.phase
    (option_and_then (told_by_message server.workspace.folders) (json_of body))

-- the texts of its documents
abbrev pub open_in : Server → Open
open_in server = texts_of server.workspace.documents.entries

-- the documents of which the session gets the texts later, while a server runs
abbrev pub late_by : Phase → List (List ℕ) → List (List ℕ)
late_by Running late = late
late_by Waiting late = []
late_by ShutDown late = []

abbrev pub late_in : Server → List (List ℕ)
late_in server = late_by server.phase server.late.keys

-- this document is one of them
abbrev pub IsLate : Server → List ℕ → Type 0
IsLate server name = list_any (bytes_eq name) (late_in server) ≡ true

-- a document is as it was, and late if it was; or it is late, or behind only where the project refuses
-- its text
abbrev pub OnlyLateIsBehind : Server → Server → List ℕ → Type 0
OnlyLateIsBehind old new name =
    ((lookup (bytes_eq name) new.workspace.documents.entries
    ≡ lookup (bytes_eq name) old.workspace.documents.entries) × (IsLate old name → IsLate new name))
    ⊎ IsLate new name
    ⊎ OnlyRefusedIsBehind old.workspace.session.project name new.workspace.documents.entries

-- a server took this in: its documents have the texts that it makes of them; none that isn't as it was is
-- behind, unless it is late or the project refuses its text; and what was set when the server began stays
pub record HasTaken (told : Option Told) (old new : Server) : Type 0 where
  pub texts : HaveTexts new.workspace.documents.entries
      (open_after_told old.workspace.encoding (open_in old) told)
  pub held : (name : List ℕ) → OnlyLateIsBehind old new name
  pub set : old.phase ≡ Running → StaysSet old.workspace new.workspace

-- a server that was told nothing
pub record IsNew (server : Server) : Type 0 where
  pub waits : server.phase ≡ Waiting
  pub on_time : server.late.keys ≡ []
  pub blank : IsBlank server.workspace
