-- The names of files that URIs stand for, and the URIs by which an editor is told of files.
use Rattle.std.specs.Prelude.{ℕ, List, Option, None, Some, option_and_then, string_bytes, unwrap_or, if◌then◌else◌}
use Rattle.std.specs.Map.{lookup}
use Rattle.std.specs.Str.{bytes_eq}
use Rattle.idl_editor.specs.uris.Folders.{FolderNamed, name_of, named, path_for}
use Rattle.idl_editor.specs.uris.Uri.{path_of, uri_of}
use Rattle.idl_editor.specs.declared.documents.document.Document.{Document}

-- the name of the file that a URI stands for
abbrev pub name_for : List FolderNamed → List ℕ → Option (List ℕ)
name_for folders uri = option_and_then (λ path. named (name_of folders path)) (path_of uri)

-- the version of the text of a document that is in the session
abbrev pub version_of : Document → Option ℕ
version_of document = if document.is_behind then None else document.version

-- that of one of these documents
abbrev pub version_among : List (List ℕ × Document) → List ℕ → Option ℕ
version_among documents name = option_and_then version_of (lookup (bytes_eq name) documents)

-- the URI of a file: the editor's own of one of these documents, and else that of its path
abbrev pub uri_among : List (List ℕ × Document) → List FolderNamed → List ℕ → List ℕ
uri_among documents folders name =
    elim (lookup (bytes_eq name) documents) [
      | None ↦ uri_of (unwrap_or (path_for folders name) name)
      | Some document ↦ string_bytes document.uri
    ]
