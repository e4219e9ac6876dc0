-- Directories: where operands of includes are looked for.
use Rattle.std.specs.Prelude.{ℕ, Bool, ◌&&◌, ◌||◌, List, [], ◌∷◌, nat_eq, nat_le, length, Option, Some, None, if◌then◌else◌}
use Rattle.std.specs.List.{list_all}
use Rattle.std.specs.Str.{bytes_eq}
use Rattle.idl_source.specs.Limits.{longest_name}
use Rattle.idl_source.specs.names.Name.{is_name, is_up, segments}

-- a name, `.`, `/`, or 1 to 255 bytes of a run of `..`
abbrev pub is_directory : List ℕ → Bool
is_directory bytes =
    is_name bytes
    || (bytes_eq bytes (46 ∷ [])
    || (bytes_eq bytes (47 ∷ [])
    || (nat_le (length bytes) longest_name && list_all is_up (segments bytes))))

-- what stands before the last such byte, if there is one
abbrev pub before_last : ℕ → List ℕ → Option (List ℕ)
before_last byte [] = None
before_last byte (b ∷ bytes) =
    elim (before_last byte bytes)
    [ Some before ↦ Some (b ∷ before) | None ↦ if nat_eq b byte then Some [] else None ]

-- the directory of a file: its name up to the last `/`; `.` where there is none, and `/` where that
-- stands first
abbrev pub up_to : Option (List ℕ) → List ℕ
up_to None = 46 ∷ []
up_to (Some []) = 47 ∷ []
up_to (Some (b ∷ bytes)) = b ∷ bytes

unfoldable pub directory_of : List ℕ → List ℕ
directory_of name = up_to (before_last 47 name)
