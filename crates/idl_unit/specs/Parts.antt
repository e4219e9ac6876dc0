-- What it means that a list is cut into these parts.
use Rattle.std.specs.Prelude.{◌≡◌, ◌≢◌, Bool, true, false, List, [], ◌∷◌, ◌++◌, ⊤}

-- A part before the rest of the list: it isn't empty, it ends there, and at no place before.
pub record IsPart {X : Type 0} (ends : List X → List X → Bool) (part rest : List X) : Type 0 where
  pub some : part ≢ []
  pub end : ends part rest ≡ true
  pub first : (front back : List X) → part ≡ front ++ back → front ≢ [] → back ≢ []
      → ends front (back ++ rest) ≡ false

-- the parts, end to end
abbrev pub joined : {X : Type 0} → List (List X) → List X
joined [] = []
joined (part ∷ parts) = part ++ joined parts

-- each is a part before those after it
abbrev pub AreParts : {X : Type 0} → (List X → List X → Bool) → List (List X) → Type 0
AreParts ends [] = ⊤
AreParts ends (part ∷ parts) = IsPart ends part (joined parts) × AreParts ends parts

-- a list is cut into these parts: end to end they are the list, and each is one
abbrev pub IsCutInto : {X : Type 0} → (List X → List X → Bool) → List X → List (List X) → Type 0
IsCutInto ends list parts = (joined parts ≡ list) × AreParts ends parts
