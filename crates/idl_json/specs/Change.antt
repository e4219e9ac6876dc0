-- A change in JSON: for whom it counts, what it is of, what that was and is, and where that is
-- declared.
use Rattle.std.specs.Prelude.{ℕ, List, [], ◌∷◌, ◌++◌, codes, Option, None, Some}
use Rattle.std.specs.Option.{option_map}
use Rattle.serde_json.specs.Data.{Data, Members, no_members, object}
use Rattle.serde_json.specs.Written.{compact_text}
use Rattle.idl_changes.specs.Changes.{weight_names}
use Rattle.idl_changes.specs.declared.change.Difference.{Difference}
use Rattle.idl_changes.specs.declared.change.Turn.{Turn}
use Rattle.idl_changes.specs.declared.change.Turn.TheVariants as turn
use Rattle.idl_repo.specs.Row.{kind_word}
use Rattle.idl_repo.specs.declared.details.row_tree.RowTree.{RowTree}
use Rattle.idl_json.specs.Listed.{NamePlace, column_field, kept_column, place_of}
use Rattle.idl_json.specs.Objects.{Field, number_json, with_fields}
use Rattle.idl_json.specs.Text.{text_json, texts_json}
use Rattle.idl_json.specs.declared.change.ChangeTold.{ChangeTold}

-- what differs of an entry, and where that is declared
pub record LocatedChange : Type 0 where
  pub tree : RowTree
  pub difference : Difference
  pub declared : Option NamePlace

abbrev pub change_of : ChangeTold → LocatedChange
change_of told = record {
  tree = told.tree.now;
  difference = told.difference.now;
  declared = option_map place_of told.declared;
}

abbrev pub entry_fields : RowTree → List Field
entry_fields e =
    (codes "kind", text_json (kind_word e.kind))
    ∷ (codes "path", text_json e.path) ∷ (codes "id", text_json e.id) ∷ []

-- a whole entry has no part
abbrev pub part_fields : List ℕ → List Field
part_fields [] = []
part_fields (byte ∷ part) = (codes "part", text_json (byte ∷ part)) ∷ []

-- what was and what is, or that it is gone or new, of an item of a list with its number
abbrev pub turn_fields : Turn → List Field
turn_fields turn.Gone = (codes "word", text_json (codes "is gone")) ∷ []
turn_fields turn.New = (codes "word", text_json (codes "is new")) ∷ []
turn_fields (turn.NewAt n) =
    (codes "word", text_json (codes "is new")) ∷ (codes "number", number_json n) ∷ []
turn_fields (turn.Changed was is) =
    (codes "old", text_json was) ∷ (codes "new", text_json is) ∷ []

abbrev pub shown_fields : Option NamePlace → List Field
shown_fields None = []
shown_fields (Some p) =
    (codes "file", text_json p.place.file)
    ∷ (codes "line", number_json p.place.line) ∷ column_field (kept_column p.column)

-- of which entry a change is, and for whom it counts
abbrev pub told_of : RowTree → List (List ℕ) → Members
told_of e weights =
    with_fields no_members ((codes "weights", texts_json weights) ∷ entry_fields e)

abbrev pub change_json : LocatedChange → Data
change_json c =
    object (with_fields
    (with_fields
    (with_fields (told_of c.tree (weight_names c.difference.weights))
    (part_fields c.difference.part))
    (turn_fields c.difference.turn))
    (shown_fields c.declared))

-- its line
unfoldable pub change_line : LocatedChange → List ℕ
change_line c = compact_text (change_json c) ++ 10 ∷ []
