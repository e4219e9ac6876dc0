-- Texts and lists among the parameters of messages.
use Rattle.std.specs.Prelude.{ℕ, List, codes, Option, None, Some, option_and_then, unwrap_or}
use Rattle.serde_json.specs.Data.{Data, Items, no_items}
use Rattle.serde_json.specs.Find.{as_array, get}
use Rattle.idl_editor.specs.messages.Fields.{text_at}

-- the text of a document that is opened
abbrev pub opened_text : Data → Option (List ℕ)
opened_text params = option_and_then (text_at (codes "text")) (get (codes "textDocument") params)

-- the items of a list, and of all else none
abbrev pub items_of : Data → Items
items_of json = unwrap_or (as_array json) no_items

-- those of the list under a key
abbrev pub items_at : List ℕ → Data → Items
items_at key json = elim (get key json) [ None ↦ no_items | Some list ↦ items_of list ]
