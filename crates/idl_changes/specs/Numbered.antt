-- The numbers of enumerators, from 1 on.
use Rattle.std.specs.Prelude.{◌≡◌, ℕ, ◌+◌, List, position}
use Rattle.std.specs.Map.{lookup}
use Rattle.std.specs.Option.{option_map}
use Rattle.std.specs.Str.{bytes_eq}

-- the number of each of these names
abbrev pub AreNumbered : List (List ℕ) → List (List ℕ × ℕ) → Type 0
AreNumbered names numbers = (name : List ℕ)
    → lookup (bytes_eq name) numbers ≡ option_map (λ n. n + 1) (position (bytes_eq name) names)
