-- The names that an include asks for, one after another, and the file found.
use Rattle.std.specs.Prelude.{ℕ, Bool, List, ◌∷◌, is_some, Option, if◌then◌else◌}
use Rattle.std.specs.List.{filter_map, find}
use Rattle.std.specs.Option.{option_to_list}
use Rattle.std.specs.FinMap as map
use Rattle.idl_source.specs.names.Directory.{directory_of}
use Rattle.idl_source.specs.names.Path.{is_rooted, joined_path}
use Rattle.idl_source.specs.texts.Texts.{Texts}

-- the names along a list of directories
abbrev pub along : List (List ℕ) → List ℕ → List (List ℕ)
along directories spelled = filter_map (λ directory. joined_path directory spelled) directories

-- an operand with a leading `/` asks for that name alone; another one for the names along the
-- search list, in quotes after the name beside the including file
unfoldable pub candidates : List (List ℕ) → List ℕ → List ℕ → Bool → List (List ℕ)
candidates search from spelled quoted =
    if is_rooted spelled then option_to_list (joined_path (directory_of from) spelled)
    else (if quoted then along (directory_of from ∷ search) spelled else along search spelled)

-- the first candidate that is present
abbrev pub found : Texts → List (List ℕ) → Option (List ℕ)
found files names = find (λ name. is_some (map.get files name)) names
