-- The name at a position, and what is shown of what it denotes.
use Rattle.std.specs.Prelude.{ℕ, ◌-◌, Bool, ◌&&◌, ◌++◌, ◌∷◌, [], List, Option, is_some, length, option_and_then, slice_get}
use Rattle.std.specs.List.{find, list_any}
use Rattle.std.specs.Option.{option_map, option_or, unwrap_or}
use Rattle.std.specs.Str.{bytes_eq}
use Rattle.idl_repo.specs.Row.{kind_word}
use Rattle.idl_editor.specs.declared.change.Range.{Range}
use Rattle.idl_editor.specs.declared.column.Encoding.{Encoding}
use Rattle.idl_editor.specs.declared.position.Position.{Position}
use Rattle.serde_json.specs.Data.{Data, null}
use Rattle.idl_inputs.specs.Asked.{asked_of}
use Rattle.idl_inputs.specs.Columns.{column_of}
use Rattle.idl_project.specs.Details.{details_of}
use Rattle.idl_inputs.specs.Project.{Project}
use Rattle.idl_project.specs.idl_sources.idl_root.declared.compiling.detailing.DetailedEntry.{DetailedEntry}
use Rattle.idl_project.specs.idl_sources.idl_root.declared.compiling.detailing.Details.{Details}
use Rattle.idl_project.specs.idl_sources.idl_root.NamePlaces.{places_at}
use Rattle.idl_project.specs.idl_sources.idl_root.declared.compiling.places.DeclaredPlace.{DeclaredPlace}
use Rattle.idl_project.specs.idl_sources.idl_root.declared.compiling.places.PlacedName.{PlacedName}
use Rattle.idl_project.specs.idl_sources.idl_root.declared.compiling.places.SitedToken.{SitedToken}
use Rattle.idl_project.specs.idl_sources.idl_root.declared.compiling.places.UsedName.{UsedName}
use Rattle.idl_editor.specs.told.Json.{location_json}
use Rattle.idl_server.specs.Places.{file_start, is_at, range_of}
use Rattle.idl_server.specs.Uris.{uri_for}
use Rattle.idl_server.specs.declared.workspace.Workspace.{Workspace}

-- the range of a token
abbrev pub token_range : Encoding → Project → SitedToken → Range
token_range encoding project token =
    range_of encoding project token.place token.number token.text

-- a token of this file stands at a position, by where it begins
abbrev pub stands_at : Encoding → Project → List ℕ → Position → SitedToken → Bool
stands_at encoding project name position token =
    bytes_eq token.place.file name
    && (is_some (column_of project token.place token.number token.text)
    && is_at position (token_range encoding project token))

-- the first name that is declared there
abbrev pub declared_at : Encoding → Project → List ℕ → Position → Details → Option PlacedName
declared_at encoding project name position details =
    find (λ declared. stands_at encoding project name position declared.place.name) details.declared

-- the first name that is used there
abbrev pub used_at : Encoding → Project → List ℕ → Position → Details → Option UsedName
used_at encoding project name position details =
    find (λ used. stands_at encoding project name position used.name) details.uses

-- the entry of a path
abbrev pub has_path : List ℕ → DetailedEntry → Bool
has_path path entry = bytes_eq entry.tree.path path

abbrev pub entry_of : Details → List ℕ → Option DetailedEntry
entry_of details path = find (has_path path) details.entries

-- the path of what a name at a position denotes: of what is declared there, and else of what the
-- first name denotes that is used there
abbrev pub path_at : Encoding → Project → Details → List ℕ → Position → Option (List (List ℕ))
path_at encoding project details name position =
    option_or (option_map (λ declared. declared.path)
    (declared_at encoding project name position details))
    (option_map (λ used. used.path) (used_at encoding project name position details))

-- the last place where the name at a path is declared
abbrev pub last_declared : Details → List (List ℕ) → Option DeclaredPlace
last_declared details path =
    let places = places_at path details.declared in slice_get places (length places - 1)

-- the last place where what a name at a position denotes is declared
abbrev pub declared_place : Encoding → Project → Details → List ℕ → Position → Option DeclaredPlace
declared_place encoding project details name position =
    option_and_then (last_declared details) (path_at encoding project details name position)

-- a root asks for a file
abbrev pub asks_for : Project → List ℕ → List ℕ → Bool
asks_for project name root = list_any (λ asked. bytes_eq asked name) (asked_of project root)

-- the first root that does, and what is told of it
abbrev pub root_with : Project → List ℕ → Option (List ℕ)
root_with project name = find (asks_for project name) project.roots

abbrev pub details_with : Project → List ℕ → Option Details
details_with project name = option_and_then (details_of project) (root_with project name)

-- where what the name at a position of a file denotes is declared, by what is told of that root
abbrev pub definition_at : Encoding → Project → List ℕ → Position → Option DeclaredPlace
definition_at encoding project name position =
    option_and_then (λ details. declared_place encoding project details name position)
    (details_with project name)

-- what is told of such a place: the range of the name in its file
abbrev pub place_json : Workspace → DeclaredPlace → Data
place_json w declared = location_json (uri_for w declared.name.place.file)
    (token_range w.encoding w.session.project declared.name)

-- what is told of a file: where it begins
abbrev pub file_json : Workspace → List ℕ → Data
file_json w name = location_json (uri_for w name) file_start

-- what is told of a definition: of that place, and else of the file that an include finds
abbrev pub definition_json : Workspace → Option DeclaredPlace → Option (List ℕ) → Data
definition_json w place included = unwrap_or
    (option_or (option_map (place_json w) place) (option_map (file_json w) included)) null

-- what is shown of an entry: `struct M::S`, and its id
abbrev pub entry_text : DetailedEntry → List ℕ
entry_text entry =
    kind_word entry.tree.kind ++ (32 ∷ []) ++ entry.tree.path ++ (10 ∷ []) ++ entry.tree.id
