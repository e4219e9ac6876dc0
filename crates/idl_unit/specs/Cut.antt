-- How a list is cut into parts, where a test tells whether a part ends, by what stands in it and by
-- what comes after it.
use Rattle.std.specs.Prelude.{Bool, List, [], ◌∷◌, ◌++◌, if◌then◌else◌}

-- a last part that isn't empty
abbrev pub last_part : {X : Type 0} → List X → List (List X)
last_part [] = []
last_part (x ∷ front) = (x ∷ front) ∷ []

-- the parts of a list before which `front` stands in the first part: a part goes to the first place
-- where it ends
unfoldable pub parts_after : {X : Type 0}
    → (List X → List X → Bool) → List X → List X → List (List X)
parts_after ends front [] = last_part front
parts_after ends front (x ∷ rest) =
    if ends (front ++ x ∷ []) rest then (front ++ x ∷ []) ∷ parts_after ends [] rest
    else parts_after ends (front ++ x ∷ []) rest

-- the parts of a list
abbrev pub parts : {X : Type 0} → (List X → List X → Bool) → List X → List (List X)
parts ends list = parts_after ends [] list
