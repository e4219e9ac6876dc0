-- What messages tell of documents.
use Rattle.std.specs.Prelude.{ℕ, List, [], ◌∷◌, Option, None, Some, is_some, option_and_then, unwrap_or, if◌then◌else◌}
use Rattle.std.specs.Option.{option_map}
use Rattle.std.specs.Str.{is_utf8}
use Rattle.serde_json.specs.Data.{Data, Items, no_items, item, null}
use Rattle.serde_json.specs.Read.{read}
use Rattle.idl_editor.specs.messages.Message.{id_in, method_in, params_in}
use Rattle.idl_editor.specs.messages.Params.{both, changes_in, told_in, uri_in}
use Rattle.idl_editor.specs.declared.messages.method.Method.{Method}
use Rattle.idl_editor.specs.declared.messages.method.Method.TheVariants.{Initialize, Initialized, Shutdown, Exit, Cancel, DidOpen, DidChange, DidClose, DidSave, DidChangeWatchedFiles, DocumentSymbol, Definition, Hover, References, DocumentHighlight, Unknown}
use Rattle.idl_editor.specs.uris.Folders.{FolderNamed}
use Rattle.idl_editor.specs.documents.Documents.{Changed, Closed, Opened, TextChange, Told}
use Rattle.idl_editor.specs.documents.Uris.{name_for}
use Rattle.idl_editor.specs.messages.Items.{opened_text}

-- the name of the document that parameters are about
abbrev pub name_in : List FolderNamed → Data → Option (List ℕ)
name_in folders params = option_and_then (name_for folders) (uri_in params)

-- the changes of a list, if each of them makes sense
abbrev pub all_changes : Items → Option (List TextChange)
all_changes no_items = Some []
all_changes (item json more) = both ◌∷◌ (told_in json) (all_changes more)

-- the changes that parameters tell
abbrev pub changes_told : Data → Option (List TextChange)
changes_told params = option_and_then all_changes (changes_in params)

-- what a notice tells of documents. One that makes no sense tells nothing, and no other one does
abbrev pub told_by_notice : List FolderNamed → Method → Data → Option Told
told_by_notice folders DidOpen params = both Opened (name_in folders params) (opened_text params)
told_by_notice folders DidChange params = both Changed (name_in folders params) (changes_told params)
told_by_notice folders DidClose params = option_map Closed (name_in folders params)
told_by_notice folders DidSave params = None
told_by_notice folders DidChangeWatchedFiles params = None
told_by_notice folders Initialize params = None
told_by_notice folders Initialized params = None
told_by_notice folders Shutdown params = None
told_by_notice folders Exit params = None
told_by_notice folders Cancel params = None
told_by_notice folders DocumentSymbol params = None
told_by_notice folders Definition params = None
told_by_notice folders Hover params = None
told_by_notice folders References params = None
told_by_notice folders DocumentHighlight params = None
told_by_notice folders Unknown params = None

-- what a message does: a notice has no id
abbrev pub told_by_message : List FolderNamed → Data → Option Told
told_by_message folders json =
    if is_some (id_in json) then None
    else option_and_then (λ method. told_by_notice folders method (unwrap_or (params_in json) null))
    (method_in json)

-- the JSON that bytes are, if they are any
abbrev pub json_of : List ℕ → Option Data
json_of body = if is_utf8 body then read body else None
