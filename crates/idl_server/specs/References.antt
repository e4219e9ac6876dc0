-- Where what the name at a position denotes is named.
use Rattle.std.specs.Prelude.{◌≡◌, Bool, ◌&&◌, ℕ, List, [], ◌∷◌, ◌++◌, filter, flat_map, fold, map, nat_eq, true, if◌then◌else◌}
use Rattle.std.specs.List.{list_any}
use Rattle.std.specs.Option.{option_map_or}
use Rattle.std.specs.Str.{bytes_eq}
use Rattle.serde_json.specs.Data.{Data}
use Rattle.idl_entity.specs.Path.{path_eq}
use Rattle.idl_editor.specs.declared.change.Range.{Range}
use Rattle.idl_editor.specs.declared.column.Encoding.{Encoding}
use Rattle.idl_editor.specs.declared.position.Position.{Position}
use Rattle.idl_editor.specs.told.Json.{highlight_json, location_json}
use Rattle.idl_inputs.specs.Project.{Project}
use Rattle.idl_project.specs.Details.{details_of}
use Rattle.idl_project.specs.idl_sources.idl_root.declared.compiling.detailing.Details.{Details}
use Rattle.idl_project.specs.idl_sources.idl_root.declared.compiling.places.SitedToken.{SitedToken}
use Rattle.idl_server.specs.Named.{asks_for, details_with, last_declared, path_at, token_range}
use Rattle.idl_server.specs.Uris.{uri_for}
use Rattle.idl_server.specs.declared.references.FileRange.{FileRange}
use Rattle.idl_server.specs.declared.references.NamedPlaces.{NamedPlaces}
use Rattle.idl_server.specs.declared.workspace.Workspace.{Workspace}

-- where a token stands
abbrev pub place_of : Encoding → Project → SitedToken → FileRange
place_of encoding project token = record {
  file = token.place.file;
  range = token_range encoding project token;
}

-- two places are one
abbrev pub range_eq : Range → Range → Bool
range_eq a b =
    (nat_eq a.start.line b.start.line && nat_eq a.start.column b.start.column)
    && (nat_eq a.end.line b.end.line && nat_eq a.end.column b.end.column)

abbrev pub place_eq : FileRange → FileRange → Bool
place_eq a b = bytes_eq a.file b.file && range_eq a.range b.range

-- places, and one more, unless it is among them
abbrev pub with_place : List FileRange → FileRange → List FileRange
with_place places one =
    if list_any (place_eq one) places then places else places ++ one ∷ []

-- where tokens stand, each place once
abbrev pub places_of : Encoding → Project → List SitedToken → List FileRange
places_of encoding project tokens = fold with_place [] (map (place_of encoding project) tokens)

-- the tokens that name a path, by what is told of a root: where it is declared, and where used
abbrev pub declared_as : List (List ℕ) → Details → List SitedToken
declared_as path details =
    map (λ one. one.place.name) (filter (λ one. path_eq path one.path) details.declared)

abbrev pub used_as : List (List ℕ) → Details → List SitedToken
used_as path details = map (λ one. one.name) (filter (λ one. path_eq path one.path) details.uses)

-- both, or where it is used alone
abbrev pub named_as : Bool → List (List ℕ) → Details → List SitedToken
named_as declared path details =
    if declared then declared_as path details ++ used_as path details else used_as path details

-- the same by a root, if it asks for a file
abbrev pub named_by : Project → Bool → List (List ℕ) → List ℕ → List ℕ → List SitedToken
named_by project declared path file root =
    if asks_for project file root
    then option_map_or (named_as declared path) (details_of project root) [] else []

-- the same by all roots that ask for the file which declares the path last
abbrev pub named_with : Project → Bool → Details → List (List ℕ) → List SitedToken
named_with project declared details path =
    option_map_or (λ place. flat_map (named_by project declared path place.name.place.file)
    project.roots) (last_declared details path) []

-- where what the name at a position of a file denotes is named, in the order in which roots read it
abbrev pub references_at : Encoding → Project → Bool → List ℕ → Position → List FileRange
references_at encoding project declared name position =
    places_of encoding project (option_map_or (λ details.
    option_map_or (named_with project declared details)
    (path_at encoding project details name position) []) (details_with project name) [])

-- where the first root that asks for the file names it, and of that what is in the file itself
abbrev pub named_at : Encoding → Project → List ℕ → Position → List FileRange
named_at encoding project name position =
    places_of encoding project (option_map_or (λ details.
    option_map_or (λ path. named_as true path details)
    (path_at encoding project details name position) []) (details_with project name) [])

abbrev pub highlights_at : Encoding → Project → List ℕ → Position → List FileRange
highlights_at encoding project name position =
    filter (λ place. bytes_eq place.file name) (named_at encoding project name position)

-- what is told of a place, and of one in the file that is asked of
abbrev pub told_of : Workspace → FileRange → Data
told_of w place = location_json (uri_for w place.file) place.range

abbrev pub highlight_of : FileRange → Data
highlight_of place = highlight_json place.range

-- tokens were added to places, in this order
pub record AreAdded (tokens : List SitedToken) (old new : NamedPlaces) : Type 0 where
  pub files : new.files ≡ old.files
  pub encoding : new.encoding ≡ old.encoding
  pub places : new.places.keys ≡ fold with_place old.places.keys
      (map (place_of old.encoding old.files.project) tokens)
