-- What is made in one way is of one content, and what is made in two ways is not one.
use Rattle.std.proofs.Common.{◌≡◌, List, ◌∷◌, None, Some}

pub some_same : {A : Type 0} {x y : A} → Some x ≡ Some y → x ≡ y
some_same h = cc

pub none_some : {A : Type 0} {x : A} → None ≡ Some x → ⊥
none_some h = cc

pub some_none : {A : Type 0} {x : A} → Some x ≡ None → ⊥
some_none h = cc

pub head_same : {A : Type 0} {x y : A} {xs ys : List A} → x ∷ xs ≡ y ∷ ys → x ≡ y
head_same h = cc

pub tail_same : {A : Type 0} {x y : A} {xs ys : List A} → x ∷ xs ≡ y ∷ ys → xs ≡ ys
tail_same h = cc
