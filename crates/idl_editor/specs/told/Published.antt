-- Notices of what is found.
use Rattle.std.specs.Prelude.{ℕ, List, codes, Option, None, Some}
use Rattle.serde_json.specs.Data.{Data, Members, member, no_members, number, object, string, unsigned}
use Rattle.idl_editor.specs.messages.Answers.{notice_json}

-- the version of a document, if it is known
abbrev pub version_members : Option ℕ → Members
version_members None = no_members
version_members (Some version) =
    member (codes "version") (number (unsigned version)) no_members

-- what is told of a file of this URI, and the notice that tells it
abbrev pub found_json : List ℕ → Option ℕ → Data → Data
found_json uri version list = object (member (codes "diagnostics") list
    (member (codes "uri") (string uri) (version_members version)))

abbrev pub published_json : List ℕ → Option ℕ → Data → Data
published_json uri version list =
    notice_json (codes "textDocument/publishDiagnostics") (found_json uri version list)
