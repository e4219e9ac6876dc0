-- What a device has given or taken, where it tells.
use Rattle.std.specs.Prelude.{◌≡◌, ◌<◌, ◌++◌, ℕ, List, Option, length, take}
use Rattle.std.specs.Option.{option_map}

-- what is to come, with these before it
abbrev pub prepend : {X : Type 0} → List X → Option (List X) → Option (List X)
prepend xs rest = option_map (λ ys. xs ++ ys) rest

-- what has gone out, and then these
abbrev pub append : {X : Type 0} → Option (List X) → List X → Option (List X)
append before ys = option_map (λ xs. xs ++ ys) before

-- of these bytes a beginning has gone out, and not all
abbrev pub WritesPart : Option (List ℕ) → List ℕ → Option (List ℕ) → Type 0
WritesPart before bytes after =
    (n : ℕ) × (n < length bytes) × (after ≡ append before (take n bytes))
