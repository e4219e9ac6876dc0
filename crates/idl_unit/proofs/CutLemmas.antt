-- Cuts, place by place.
use Rattle.std.proofs.Common.{◌≡◌, ◌≢◌, ◌∙◌, Bool, true, false, cond, List, [], ◌∷◌, ◌++◌, refl, ap}
use Rattle.idl_unit.specs.Cut.{parts, parts_after}

-- the parts of a list before which `front` stands, which ends at no place before this one
abbrev pub pending : {X : Type 0} → (List X → List X → Bool) → List X → List X → List (List X)
pending ends [] rest = parts ends rest
pending ends (x ∷ front) rest = cond (ends (x ∷ front) rest) ((x ∷ front) ∷ parts ends rest) (parts_after ends (x ∷ front) rest)

-- one item more
pub parts_after-more : {X : Type 0} (ends : List X → List X → Bool) (front : List X) (x : X) (rest : List X)
    → parts_after ends front (x ∷ rest) ≡ pending ends (front ++ x ∷ []) rest
unfolding parts_after
parts_after-more ends [] x rest = refl
parts_after-more ends (y ∷ front) x rest = refl

pub pending-open : {X : Type 0} (ends : List X → List X → Bool) (front rest : List X) → ends front rest ≡ false → pending ends front rest ≡ parts_after ends front rest
pending-open ends [] rest goes = refl
pending-open ends (y ∷ front) rest goes = ap (λ b. cond b ((y ∷ front) ∷ parts ends rest) (parts_after ends (y ∷ front) rest)) goes

-- where a part doesn't end, it goes on with one item more
pub pending-step : {X : Type 0} (ends : List X → List X → Bool) (front : List X) (x : X) (rest : List X) → ends front (x ∷ rest) ≡ false
    → pending ends front (x ∷ rest) ≡ pending ends (front ++ x ∷ []) rest
pending-step ends front x rest goes = pending-open ends front (x ∷ rest) goes ∙ parts_after-more ends front x rest

-- so does an empty one
pub pending-first : {X : Type 0} (ends : List X → List X → Bool) (x : X) (rest : List X) → pending ends [] (x ∷ rest) ≡ pending ends (x ∷ []) rest
pending-first ends x rest = parts_after-more ends [] x rest

-- where it ends, it is a part
pub pending-end : {X : Type 0} (ends : List X → List X → Bool) (front rest : List X) → front ≢ [] → ends front rest ≡ true
    → pending ends front rest ≡ front ∷ parts ends rest
pending-end ends [] rest some end = absurd (some refl)
pending-end ends (y ∷ front) rest some end = ap (λ b. cond b ((y ∷ front) ∷ parts ends rest) (parts_after ends (y ∷ front) rest)) end
