-- Stretches of facts at whose end as many scopes are open, or files entered, as at their beginning.
use Rattle.std.specs.Prelude.{◌≡◌, ℕ, Bool, true, false, List, [], ◌∷◌, Option, Some, None, zero, suc}
use Rattle.idl_env.specs.Facts.{UnitFacts}
use Rattle.idl_env.specs.declared.additions.addition.Step.{Step}
use Rattle.idl_env.specs.declared.additions.addition.Step.TheVariants.{Opens, OpensNameless, Closes, Enters, Leaves}

abbrev pub opens : Step → Bool
opens (Opens path kind) = true
opens (OpensNameless kind) = true
opens other = false

abbrev pub closes : Step → Bool
closes Closes = true
closes other = false

abbrev pub enters : Step → Bool
enters Enters = true
enters other = false

abbrev pub leaves : Step → Bool
leaves Leaves = true
leaves other = false

-- how deep it is behind a step, and nothing where that ends more than was begun
abbrev pub depth_behind : Bool → Bool → ℕ → Option ℕ
depth_behind true ends n = Some (suc n)
depth_behind false true zero = None
depth_behind false true (suc n) = Some n
depth_behind false false n = Some n

-- how deep it is behind facts
abbrev pub depth : (Step → Bool) → (Step → Bool) → ℕ → List UnitFacts → Option ℕ
depth begins ends n [] = Some n
depth begins ends n (f ∷ facts) =
    elim (depth_behind (begins f.step) (ends f.step) n)
    [ None ↦ None | Some m ↦ depth begins ends m facts ]

-- what they begin they end, and nothing else
abbrev pub IsBalanced : (Step → Bool) → (Step → Bool) → List UnitFacts → Type 0
IsBalanced begins ends facts = depth begins ends zero facts ≡ Some zero
