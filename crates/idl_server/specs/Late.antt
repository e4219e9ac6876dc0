-- Texts that the session gets later.
use Rattle.std.specs.Prelude.{◌≡◌, ◌⊎◌, ℕ, List, [], ◌∷◌, None, Some}
use Rattle.serde_json.specs.Data.{Data}
use Rattle.idl_editor.specs.documents.Documents.{AreSameBeside, texts_of}
use Rattle.idl_editor.specs.documents.Notices.{json_of, name_in}
use Rattle.idl_editor.specs.messages.Message.{id_in, method_in, params_in}
use Rattle.idl_editor.specs.declared.messages.method.Method.TheVariants.{DidChange}
use Rattle.idl_server.specs.Documents.{OnlyRefusedIsBehind}
use Rattle.idl_server.specs.Files.{StaysSet}
use Rattle.idl_server.specs.Published.{ArePublished}
use Rattle.idl_server.specs.Roots.{IsOpen}
use Rattle.idl_server.specs.Server.{HasTaken, late_in, told_to}
use Rattle.idl_server.specs.declared.server.Server.{Server}
use Rattle.idl_server.specs.declared.workspace.Workspace.{Workspace}

-- a message changes a document, by these parameters
abbrev pub IsChange : Data → Data → Type 0
IsChange json params =
    (id_in json ≡ None) × (method_in json ≡ Some DidChange) × (params_in json ≡ Some params)

-- parameters are about this open document
abbrev pub IsChangeOf : Workspace → List ℕ → Data → Type 0
IsChangeOf w name params = (name_in w.folders params ≡ Some name) × IsOpen w name

-- the text of a document was put: it is the session's, unless the project refused it
pub record IsPut (name : List ℕ) (old new : Workspace) : Type 0 where
  pub set : StaysSet old new
  pub documents : AreSameBeside name old.documents.entries new.documents.entries
  pub text : texts_of new.documents.entries name ≡ texts_of old.documents.entries name
  pub held : OnlyRefusedIsBehind old.session.project name new.documents.entries

-- those of several documents were, one after another
abbrev pub ArePut : List (List ℕ) → Workspace → Workspace → Type 0
ArePut [] old new = new ≡ old
ArePut (name ∷ names) old new =
    (mid : Workspace) × IsPut name old mid × ArePut names mid new

-- the texts of the documents that were late were put, and what is no text stays as it was set
pub record HasCaughtUp (old new : Server) : Type 0 where
  pub put : Workspace
  pub puts : ArePut (late_in old) old.workspace put
  pub documents : new.workspace.documents ≡ put.documents
  pub set : StaysSet old.workspace new.workspace
  pub phase : new.phase ≡ old.phase
  pub none : new.late.keys ≡ []

-- no document was late, or the session caught up
abbrev pub CatchesUp : Server → Server → Type 0
CatchesUp old new = (new ≡ old) ⊎ HasCaughtUp old new

-- a request finds no document late
abbrev pub FindsNoneLate : List ℕ → Server → Type 0
FindsNoneLate body server =
    (json id : Data) → json_of body ≡ Some json → id_in json ≡ Some id → server.late.keys ≡ []

-- what is published since is what roots find where no document is late, or nothing is: what would be
-- right whatever the server knew
abbrev pub ArePublishedOnTime : Server → List Data → List Data → Type 0
ArePublishedOnTime server before after =
    ((server.late.keys ≡ []) × ArePublished server.workspace before after)
    ⊎ ((w : Workspace) → ArePublished w before after)

-- a server took this body in, and the session may have caught up before, or after, by any body: how
-- long a text stays late is bound where no more is to come, and before a request, alone
pub record TakesIn (body : List ℕ) (old new : Server) (before after : List Data) : Type 0 where
  pub caught : Server
  pub moved : Server
  pub between : List Data
  pub first : CatchesUp old caught
  pub on_time : FindsNoneLate body caught
  pub taken : HasTaken (told_to old body) caught moved
  pub last : CatchesUp moved new
  pub early : ArePublishedOnTime caught before between
  pub later : ArePublishedOnTime new between after
