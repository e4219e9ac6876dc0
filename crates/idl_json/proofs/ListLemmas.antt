-- Lists and their values, one after another.
use Rattle.std.proofs.Common.{◌≡◌, ◌∙◌, ◌+◌, ◌<◌, ◌++◌, ◌∷◌, [], ℕ, List, ap, get_or, length, map, refl, reverse, subst, sym, take}
use Rattle.std.specs.List.{AllZip}
use Rattle.std.proofs.lemmas.Grind.{reverse_onto}
use Rattle.std.proofs.lemmas.List.{map-append, take_more}

pub map-reverse : {X Y : Type 0} (f : X → Y) (xs : List X) → map f (reverse xs) ≡ reverse (map f xs)
map-reverse f [] = refl
map-reverse f (x ∷ xs) =
    ap (map f) (reverse_onto xs x []) ∙ map-append f (reverse xs) (x ∷ [])
    ∙ ap (λ ys. ys ++ f x ∷ []) (map-reverse f xs) ∙ sym (reverse_onto (map f xs) (f x) [])

zip-push : {Y Z : Type 0} (R : Y → Z → Type 0) (ys : List Y) (zs : List Z) (y : Y) (z : Z) → AllZip R ys zs → R y z → AllZip R (ys ++ y ∷ []) (zs ++ z ∷ [])
zip-push R [] [] y z are next = (next, tt)
zip-push R [] (b ∷ zs) y z are next = absurd are
zip-push R (a ∷ ys) [] y z are next = absurd are
zip-push R (a ∷ ys) (b ∷ zs) y z are next = (are.0, zip-push R ys zs y z are.1 next)

-- one pair more
pub zip-next : {X Y Z : Type 0} (R : Y → Z → Type 0) (f : X → Y) (xs : List X) (i : ℕ) (x : X) (zs : List Z) (z : Z) → i < length xs → x ≡ get_or xs i x
    → AllZip R (map f (take i xs)) zs → R (f x) z → AllZip R (map f (take (i + 1) xs)) (zs ++ z ∷ [])
zip-next R f xs i x zs z within is are next =
    let one = ap (map f) (take_more xs i x within ∙ ap (λ y. take i xs ++ y ∷ []) (sym is)) ∙ map-append f (take i xs) (x ∷ []) in
    subst (λ ys. AllZip R ys (zs ++ z ∷ [])) (sym one) (zip-push R (map f (take i xs)) zs (f x) z are next)
