-- Objects and lists in JSON.
use Rattle.std.specs.Prelude.{ℕ, List, [], ◌∷◌, map}
use Rattle.serde_json.specs.Data.{Data, Members, array, no_members, number, object, put, unsigned}
use Rattle.serde_json.specs.View.{items_of}

-- a member: its key, and its value
abbrev pub Field : Type 0
Field = List ℕ × Data

-- members, and these as well: an object has its keys in order, whichever is told first
abbrev pub with_fields : Members → List Field → Members
with_fields members [] = members
with_fields members (field ∷ fields) = with_fields (put field.0 field.1 members) fields

abbrev pub object_of : List Field → Data
object_of fields = object (with_fields no_members fields)

abbrev pub list_json : {X : Type 0} → (X → Data) → List X → Data
list_json json xs = array (items_of (map json xs))

abbrev pub number_json : ℕ → Data
number_json n = number (unsigned n)
