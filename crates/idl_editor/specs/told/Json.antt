-- What an editor is told, as JSON. The keys stand in their order.
use Rattle.std.specs.Prelude.{ℕ, List, codes}
use Rattle.std.specs.Str.Lossy.{utf8_lossy}
use Rattle.serde_json.specs.Data.{Data, member, no_members, number, object, string, unsigned}
use Rattle.idl_editor.specs.declared.change.Range.{Range}
use Rattle.idl_editor.specs.declared.position.Position.{Position}

-- a text that is shown: what isn't UTF-8 is U+FFFD
abbrev pub shown_json : List ℕ → Data
shown_json bytes = string (utf8_lossy bytes)

abbrev pub position_json : Position → Data
position_json position = object (member (codes "character") (number (unsigned position.column))
    (member (codes "line") (number (unsigned position.line)) no_members))

abbrev pub range_json : Range → Data
range_json range = object (member (codes "end") (position_json range.end)
    (member (codes "start") (position_json range.start) no_members))

-- a range of a document
abbrev pub location_json : List ℕ → Range → Data
location_json uri range = object (member (codes "range") (range_json range)
    (member (codes "uri") (string uri) no_members))

-- a range of the document that is asked of
abbrev pub highlight_json : Range → Data
highlight_json range = object (member (codes "range") (range_json range) no_members)
