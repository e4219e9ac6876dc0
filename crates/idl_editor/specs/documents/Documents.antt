-- The texts of the documents that an editor has open, after what it tells.
use Rattle.std.specs.Prelude.{◌≡◌, ℕ, false, List, Option, None, Some, fold, if◌then◌else◌}
use Rattle.std.specs.Map.{lookup}
use Rattle.std.specs.Option.{option_map}
use Rattle.std.specs.Str.{bytes_eq}
use Rattle.idl_editor.specs.Changes.{changed_in, replaced}
use Rattle.idl_editor.specs.declared.change.ContentChange.{ContentChange}
use Rattle.idl_editor.specs.declared.change.Range.{Range}
use Rattle.idl_editor.specs.declared.column.Encoding.{Encoding}
use Rattle.idl_editor.specs.declared.documents.document.Document.{Document}

-- a change of a text: other bytes in the place of a range, or of the whole text
abbrev pub TextChange : Type 0
TextChange = Option Range × List ℕ

abbrev pub change_told : ContentChange → TextChange
change_told change = (change.range, change.text.now)

-- a text after a change
abbrev pub text_with : Encoding → List ℕ → TextChange → List ℕ
text_with encoding text change = replaced text (changed_in encoding text change.0) change.1

-- a text after changes, one after another
abbrev pub text_after_all : Encoding → List ℕ → List TextChange → List ℕ
text_after_all encoding text changes = fold (text_with encoding) text changes

-- what an editor tells of a document, by its name
pub data Told : Type 0 where
  Opened : (name text : List ℕ) → Told
  Changed : (name : List ℕ) → (changes : List TextChange) → Told
  Closed : (name : List ℕ) → Told

-- the texts of the open documents, by their names
abbrev pub Open : Type 0
Open = List ℕ → Option (List ℕ)

abbrev pub with_text : Open → List ℕ → Option (List ℕ) → Open
with_text texts name text other = if bytes_eq name other then text else texts other

-- the documents after what is told. A change of one that isn't open is nothing
abbrev pub open_after : Encoding → Open → Told → Open
open_after encoding texts (Opened name text) = with_text texts name (Some text)
open_after encoding texts (Changed name changes) =
    with_text texts name (option_map (λ text. text_after_all encoding text changes) (texts name))
open_after encoding texts (Closed name) = with_text texts name None

-- the documents after what is told, if it is anything
abbrev pub open_after_told : Encoding → Open → Option Told → Open
open_after_told encoding texts None = texts
open_after_told encoding texts (Some told) = open_after encoding texts told

-- the texts of documents
abbrev pub texts_of : List (List ℕ × Document) → Open
texts_of documents name = option_map (λ document. document.text.items) (lookup (bytes_eq name) documents)

-- documents have these texts
abbrev pub HaveTexts : List (List ℕ × Document) → Open → Type 0
HaveTexts documents texts = (name : List ℕ) → texts_of documents name ≡ texts name

-- no document but the one of this name is another
abbrev pub AreSameBeside : List ℕ → List (List ℕ × Document) → List (List ℕ × Document) → Type 0
AreSameBeside name old new =
    (other : List ℕ) → bytes_eq name other ≡ false → lookup (bytes_eq other) new ≡ lookup (bytes_eq other) old
