-- Operands of includes: what a path stands for, and the name that it makes in a directory.
use Rattle.std.specs.Prelude.{ℕ, Bool, true, false, List, [], ◌∷◌, ◌++◌, ◌+◌, ◌-◌, drop, replicate, nat_eq, Option, Some, None, if◌then◌else◌}
use Rattle.idl_source.specs.names.Directory.{is_directory}
use Rattle.idl_source.specs.names.Name.{is_name, is_plain, is_up, segments}

-- so many steps up, and then segments down
pub record Path : Type 0 where
  pub up : ℕ
  pub down : List (List ℕ)

-- no step
abbrev pub here : Path
here = record { up = 0; down = [] }

-- a segment takes away the step up that follows it, and where none follows it is the first one down
abbrev pub down_by : List ℕ → Path → Path
down_by segment path =
    if nat_eq path.up 0 then record path { down = segment ∷ path.down }
    else record path { up = path.up - 1 }

-- a path after a segment: `..` is a step up, a plain one a step down, and an empty one and `.` go
-- out
abbrev pub led_by : List ℕ → Path → Path
led_by segment path =
    if is_up segment then record path { up = path.up + 1 }
    else (if is_plain segment then down_by segment path else path)

-- a path after segments
unfoldable pub led_by_all : List (List ℕ) → Path → Path
led_by_all [] path = path
led_by_all (segment ∷ segments) path = led_by segment (led_by_all segments path)

-- each with `/` before it
abbrev pub slashed : List (List ℕ) → List ℕ
slashed [] = []
slashed (segment ∷ segments) = 47 ∷ segment ++ slashed segments

-- its segments, a `..` for each step up
abbrev pub steps : Path → List (List ℕ)
steps path = replicate path.up (46 ∷ 46 ∷ []) ++ path.down

-- the text of segments: from the root it begins with `/`, and else it does not
abbrev pub text_down : Bool → List (List ℕ) → List ℕ
text_down true segments = slashed segments
text_down false segments = drop 1 (slashed segments)

unfoldable pub text_of : Bool → Path → List ℕ
text_of rooted path = text_down rooted (steps path)

-- the name that a path makes. A `..` above the root makes none
abbrev pub name_of : Bool → Path → Option (List ℕ)
name_of rooted path = if is_name (text_of rooted path) then Some (text_of rooted path) else None

abbrev pub is_rooted : List ℕ → Bool
is_rooted [] = false
is_rooted (b ∷ bytes) = nat_eq b 47

-- the name that an operand makes in a directory. With a leading `/` it stands for itself
unfoldable pub joined_path : List ℕ → List ℕ → Option (List ℕ)
joined_path directory spelled =
    if is_rooted spelled then name_of true (led_by_all (segments spelled) here)
    else name_of (is_rooted directory)
    (led_by_all (segments directory) (led_by_all (segments spelled) here))

-- the text of a directory: where a path takes no step, `/` from the root, and else `.`
abbrev pub directory_text : Bool → List ℕ → List ℕ
directory_text true [] = 47 ∷ []
directory_text false [] = 46 ∷ []
directory_text rooted (b ∷ text) = b ∷ text

-- the directory that a path leads to
abbrev pub directory_to : Bool → Path → Option (List ℕ)
directory_to rooted path =
    let text = directory_text rooted (text_of rooted path) in
    if is_directory text then Some text else None

-- the directory that a word names
unfoldable pub directory_path : List ℕ → Option (List ℕ)
directory_path spelled = directory_to (is_rooted spelled) (led_by_all (segments spelled) here)
