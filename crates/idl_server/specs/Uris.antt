-- The URIs by which an editor is told of files.
use Rattle.std.specs.Prelude.{ℕ, List, Option}
use Rattle.idl_editor.specs.documents.Uris.{uri_among, version_among}
use Rattle.idl_server.specs.declared.workspace.Workspace.{Workspace}

-- the URI of a file: the editor's own of an open document, and else that of its path
abbrev pub uri_for : Workspace → List ℕ → List ℕ
uri_for w name = uri_among w.documents.entries w.folders name

-- the version of a document that is open, and of which the session has the text
abbrev pub version_for : Workspace → List ℕ → Option ℕ
version_for w name = version_among w.documents.entries name
