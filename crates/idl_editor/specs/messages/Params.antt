-- The parameters of messages.
use Rattle.std.specs.Prelude.{ℕ, List, codes, Option, None, Some, is_some, option_and_then, if◌then◌else◌}
use Rattle.std.specs.Option.{option_map}
use Rattle.serde_json.specs.Data.{Data, Items}
use Rattle.serde_json.specs.Find.{as_array, as_null, get}
use Rattle.idl_editor.specs.declared.change.Range.{Range}
use Rattle.idl_editor.specs.declared.position.Position.{Position}
use Rattle.idl_editor.specs.messages.Fields.{number_at, text_at}

-- the URI of the document that parameters are about
abbrev pub uri_in : Data → Option (List ℕ)
uri_in params = option_and_then (text_at (codes "uri")) (get (codes "textDocument") params)

-- its version
abbrev pub version_in : Data → Option ℕ
version_in params = option_and_then (number_at (codes "version")) (get (codes "textDocument") params)

-- what is made of two that are there
abbrev pub both : {A B C : Type 0} → (A → B → C) → Option A → Option B → Option C
both f a b = option_and_then (λ x. option_map (f x) b) a

abbrev pub position_of : Data → Option Position
position_of json =
    both (λ line column. record { line = line; column = column })
    (number_at (codes "line") json) (number_at (codes "character") json)

-- the position under a key
abbrev pub position_at : List ℕ → Data → Option Position
position_at key json = option_and_then position_of (get key json)

abbrev pub range_of : Data → Option Range
range_of json =
    both (λ start end. record { start = start; end = end })
    (position_at (codes "start") json) (position_at (codes "end") json)

-- the changes that parameters tell of, one after another
abbrev pub changes_in : Data → Option Items
changes_in params = option_and_then as_array (get (codes "contentChanges") params)

-- a change that is told: its range, if it has one, and its text
abbrev pub Told : Type 0
Told = Option Range × List ℕ

-- with a range it is a change there, and without one of the whole text: `null` is none
abbrev pub told_at : Option Data → List ℕ → Option Told
told_at None text = Some (None, text)
told_at (Some json) text =
    if is_some (as_null json) then Some (None, text)
    else option_map (λ range. (Some range, text)) (range_of json)

abbrev pub told_in : Data → Option Told
told_in json = option_and_then (told_at (get (codes "range") json)) (text_at (codes "text") json)
