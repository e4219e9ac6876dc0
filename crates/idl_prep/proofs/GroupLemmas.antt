-- The innermost of open groups, which stands first among them.
use Rattle.std.proofs.Common.{◌≡◌, true, List, [], ◌∷◌, None, Some, refl, ap}
use Rattle.std.specs.Prelude.{slice_get}
use Rattle.std.proofs.lemmas.Option.{same_Some}
use Rattle.idl_prep.specs.Pass.{innermost, is_walked}
use Rattle.idl_prep.specs.declared.walk.groups.Group.{Group}

pub innermost-first : (gs : List Group) → slice_get gs 0 ≡ innermost gs
innermost-first [] = refl
innermost-first (g ∷ gs) = refl

-- a line is walked where there is none, or where it is active
pub walked-none : (gs : List Group) → None ≡ slice_get gs 0 → true ≡ is_walked gs
walked-none [] h = refl
walked-none (g ∷ gs) h = cc

pub walked-some : (gs : List Group) (g : Group) → Some g ≡ slice_get gs 0 → g.is_active ≡ is_walked gs
walked-some [] g h = cc
walked-some (x ∷ gs) g h = ap (λ (y : Group). y.is_active) (same_Some g x h)
