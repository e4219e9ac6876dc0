-- Entries of logs that stand side by side.
use Rattle.std.specs.Prelude.{◌≡◌, ℕ, Bool, List, [], ◌∷◌, ◌++◌, Option, None, Some, if◌then◌else◌, length}
use Rattle.std.specs.Option.{option_eq}

-- these entries begin with those
abbrev pub BeginsWith : {E : Type 0} → List E → List E → Type 0
BeginsWith {E} first entries = (rest : List E) × (entries ≡ first ++ rest)

-- these stand among those, so many behind the first
pub record StandAt {E : Type 0} (place : ℕ) (these those : List E) : Type 0 where
  pub before : List E
  pub behind : List E
  pub whole : those ≡ before ++ these ++ behind
  pub place_is : length before ≡ place

-- an answer and another in its place, where they aren't one
abbrev pub other_at : {V : Type 0} → (V → V → Bool) → Option V → Option V
    → Option (Option V × Option V)
other_at eq answer found = if option_eq eq answer found then None else Some (answer, found)

module _ {K V : Type 0} (eq : V → V → Bool) (bank : K → Option V) where
  -- the first of the answers that isn't the bank's, with the bank's
  abbrev pub first_other : List (K × Option V) → Option (Option V × Option V)
  first_other [] = None
  first_other (e ∷ log) =
      if option_eq eq e.1 (bank e.0) then first_other log else Some (e.1, bank e.0)
