-- What holds of the first elements of a list.
use Rattle.std.proofs.Common.{◌≡◌, ◌+◌, ◌<◌, ℕ, All, List, get_or, length, subst, sym, take}
use Rattle.std.proofs.lemmas.List.{take_more}
use Rattle.std.proofs.lemmas.List.Elements.{All-push}

-- what holds of the first elements and of the next one
pub All-take_more : {X : Type 0} (P : X → Type 0) (xs : List X) (i : ℕ) (x : X) → i < length xs → x ≡ get_or xs i x → All P (take i xs) → P x
    → All P (take (i + 1) xs)
All-take_more {X} P xs i x within is all holds =
    subst (λ (ys : List X). All P ys) (sym (take_more xs i x within)) (All-push P (take i xs) (get_or xs i x) all (subst P is holds))
