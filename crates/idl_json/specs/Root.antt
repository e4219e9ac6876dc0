-- What is told of a root, in JSON.
use Rattle.std.specs.Prelude.{◌≡◌, ℕ, Bool, List, [], ◌∷◌, ◌++◌, codes, map}
use Rattle.std.specs.List.{AllZip}
use Rattle.serde_json.specs.Data.{Data, array, boolean}
use Rattle.serde_json.specs.View.{items_of}
use Rattle.serde_json.specs.Written.{compact_text}
use Rattle.idl_json.specs.Diagnostic.{IsDiagnosticJson, Located, located}
use Rattle.idl_json.specs.Listed.{LocatedRow, row_json, row_of}
use Rattle.idl_json.specs.Objects.{list_json, object_of}
use Rattle.idl_json.specs.Text.{text_json, texts_json}
use Rattle.idl_json.specs.declared.root.RootTold.{RootTold}

-- a root's name, whether it has an error, what is found in it, the rows of its listing, the files
-- that it asks for, and those that aren't there
pub record Root : Type 0 where
  pub name : List ℕ
  pub is_faulty : Bool
  pub found : List Located
  pub listing : List LocatedRow
  pub asked : List (List ℕ)
  pub absent : List (List ℕ)

abbrev pub root_of : RootTold → Root
root_of told = record {
  name = told.name.now;
  is_faulty = told.is_faulty;
  found = map located told.found.now;
  listing = map row_of told.listing.now;
  asked = told.asked.now;
  absent = told.absent.now;
}

-- with these as what is found in it
abbrev pub root_json : Root → List Data → Data
root_json root diagnostics = object_of (
    (codes "root", text_json root.name)
    ∷ (codes "faulty", boolean root.is_faulty)
    ∷ (codes "diagnostics", array (items_of diagnostics))
    ∷ (codes "listing", list_json row_json root.listing)
    ∷ (codes "asked", texts_json root.asked)
    ∷ (codes "absent", texts_json root.absent) ∷ [])

-- the line that tells all that
abbrev pub IsRootLine : Root → List ℕ → Type 0
IsRootLine root line =
    (diagnostics : List Data) × AllZip IsDiagnosticJson root.found diagnostics
    × (line ≡ compact_text (root_json root diagnostics) ++ 10 ∷ [])
