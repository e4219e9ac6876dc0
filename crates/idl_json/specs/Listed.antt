-- The rows of a listing in JSON: the tree of each, and where its name is declared.
use Rattle.std.specs.Prelude.{◌+◌, ◌^◌, ℕ, Bool, List, [], ◌∷◌, codes, nat_lt, Option, None, Some, if◌then◌else◌}
use Rattle.std.specs.Option.{option_map}
use Rattle.serde_json.specs.Data.{Data, boolean, no_members, object}
use Rattle.idl_repo.specs.declared.details.row_tree.RowTree.{RowTree}
use Rattle.idl_fault.specs.declared.place.Place.{Place}
use Rattle.idl_json.specs.Objects.{Field, number_json, with_fields}
use Rattle.idl_json.specs.Rows.{row_fields}
use Rattle.idl_json.specs.Text.{text_json}
use Rattle.idl_json.specs.declared.listed.ListedRow.{ListedRow}
use Rattle.idl_json.specs.declared.listed.NamePlace.{NamePlace as HeldPlace}

-- where a name is declared, how many bytes of its line are before it, if that is known, and whether
-- its file is that of the root
pub record NamePlace : Type 0 where
  pub place : Place
  pub column : Option ℕ
  pub is_main : Bool

-- the tree of a row, and where its name is declared, if that is known
pub record LocatedRow : Type 0 where
  pub tree : RowTree
  pub declared : Option NamePlace

abbrev pub place_of : HeldPlace → NamePlace
place_of told =
    record { place = told.place.now; column = told.column; is_main = told.is_main }

abbrev pub row_of : ListedRow → LocatedRow
row_of told = record { tree = told.tree.now; declared = option_map place_of told.declared }

-- From 2^53 on, where no line goes, no column is told: many readers keep no such number.
abbrev pub kept_column : Option ℕ → Option ℕ
kept_column None = None
kept_column (Some before) = if nat_lt before (2 ^ 53) then Some before else None

-- the column, in bytes from 1 on
abbrev pub column_field : Option ℕ → List Field
column_field None = []
column_field (Some before) = (codes "column", number_json (before + 1)) ∷ []

abbrev pub name_fields : NamePlace → List Field
name_fields p =
    (codes "file", text_json p.place.file)
    ∷ (codes "line", number_json p.place.line)
    ∷ (codes "main", boolean p.is_main) ∷ column_field (kept_column p.column)

abbrev pub place_fields : Option NamePlace → List Field
place_fields None = []
place_fields (Some p) = name_fields p

-- a row: the members of its tree, and these as well
abbrev pub row_json : LocatedRow → Data
row_json r =
    object (with_fields (with_fields no_members (row_fields r.tree)) (place_fields r.declared))
