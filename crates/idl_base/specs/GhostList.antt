-- A list of which contracts alone know.
use Rattle.std.specs.Prelude.{List, [], ◌++◌, ◌∷◌, Option, None, Some}
use Rattle.std.specs.declared.snapshot.Snapshot.{Snapshot}

-- the items before, and the last of them
abbrev pub items_of : {T : Type 0} → Option (Snapshot (List T) × Snapshot T) → List T
items_of None = []
items_of (Some parts) = parts.0.value ++ parts.1.value ∷ []
