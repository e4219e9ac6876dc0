-- How many entities are declared and bases named.
use Rattle.std.proofs.Common.{◌≡◌, ℕ, zero, suc, ◌+◌, ◌≤◌, List, [], ◌∷◌, ◌++◌, Some, length, take, arith, ap, ◌∙◌, length-append, append-nil, refl}
use Rattle.std.specs.Prelude.{slice_get}
use Rattle.idl_env.specs.Facts.{UnitFacts}
use Rattle.idl_env.specs.Turns.{bases_among, bases_in, bases_named, declared_among, declared_named, turns_for}
use Rattle.idl_env.specs.declared.additions.addition.Addition.{Addition}
use Rattle.idl_env.specs.declared.additions.addition.Addition.TheVariants.{Declares, Uses, UsesFurther, Appears, Identifies, TypePrefixes}

-- an addition declares one entity at most
pub declared-few : (additions : List Addition) → length (declared_among additions) ≤ length additions
declared-few [] = omega arith
declared-few (Declares e ∷ additions) = let l = declared-few additions in omega (arith, l)
declared-few (Uses n path body ∷ additions) = let l = declared-few additions in omega (arith, l)
declared-few (UsesFurther n path further ∷ additions) = let l = declared-few additions in omega (arith, l)
declared-few (Appears path prefix ∷ additions) = let l = declared-few additions in omega (arith, l)
declared-few (Identifies path identity ∷ additions) = let l = declared-few additions in omega (arith, l)
declared-few (TypePrefixes path text ∷ additions) = let l = declared-few additions in omega (arith, l)

plus_zero : (n : ℕ) → n ≡ 0 + n
plus_zero n = omega arith

-- what facts and more facts declare
pub declared-more : (facts : List UnitFacts) (f : UnitFacts) → length (declared_named (facts ++ f ∷ [])) ≡ length (declared_named facts) + length (declared_among f.additions)
declared-more [] f = ap length (append-nil (declared_among f.additions)) ∙ plus_zero (length (declared_among f.additions))
declared-more (g ∷ facts) f =
    let l = length-append (declared_among g.additions) (declared_named (facts ++ f ∷ [])) in
    let r = length-append (declared_among g.additions) (declared_named facts) in
    let rest = declared-more facts f in
    omega (arith, l, r, rest)

-- the bases that facts and more facts name
pub bases-more : (facts : List UnitFacts) (f : UnitFacts) → length (bases_named (facts ++ f ∷ [])) ≡ length (bases_named facts) + length (bases_among f.additions)
bases-more [] f = ap length (append-nil (bases_among f.additions)) ∙ plus_zero (length (bases_among f.additions))
bases-more (g ∷ facts) f =
    let l = length-append (bases_among g.additions) (bases_named (facts ++ f ∷ [])) in
    let r = length-append (bases_among g.additions) (bases_named facts) in
    let rest = bases-more facts f in
    omega (arith, l, r, rest)

-- a count of facts, and of what they declare and name, goes on
pub counted-more : (facts : List UnitFacts) (f : UnitFacts) (count : ℕ) → length facts + turns_for facts ≤ count
    → length (facts ++ f ∷ []) + turns_for (facts ++ f ∷ []) ≤ count + length f.additions + length (bases_among f.additions) + 1
counted-more facts f count h =
    let l = length-append facts (f ∷ []) in
    let b = bases-more facts f in
    let d = declared-more facts f in
    let few = declared-few f.additions in
    omega (arith, h, l, b, d, few)

pub counted-after : (count more : ℕ) (facts : List UnitFacts) (f : UnitFacts) (after : List UnitFacts) → length facts + turns_for facts ≤ count
    → more ≡ count + length f.additions + length (bases_among f.additions) + 1 → after ≡ facts ++ f ∷ [] → length after + turns_for after ≤ more
counted-after count more facts f after h is comes = rw (comes, is) (counted-more facts f count h)

-- the bases that additions name up to a place and from there on
pub bases-at : (additions : List Addition) (index : ℕ) (a : Addition) → slice_get additions index ≡ Some a
    → length (bases_among (take (suc index) additions)) ≡ length (bases_among (take index additions)) + length (bases_in a)
bases-at [] index a is = cc
bases-at (b ∷ additions) zero a is =
    let same : b ≡ a = cc in
    ap length (append-nil (bases_in b)) ∙ ap (λ c. length (bases_in c)) same ∙ plus_zero (length (bases_in a))
bases-at (b ∷ additions) (suc index) a is =
    let l = length-append (bases_in b) (bases_among (take (suc index) additions)) in
    let r = length-append (bases_in b) (bases_among (take index additions)) in
    let rest = bases-at additions index a is in
    let all : length (bases_among (take (suc (suc index)) (b ∷ additions))) ≡ length (bases_in b ++ bases_among (take (suc index) additions)) = refl in
    let before : length (bases_among (take (suc index) (b ∷ additions))) ≡ length (bases_in b ++ bases_among (take index additions)) = refl in
    omega (arith, l, r, rest, all, before)
