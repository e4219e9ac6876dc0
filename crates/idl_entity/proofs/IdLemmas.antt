-- Paths as they are told in a scope, from the innermost name on.
use Rattle.std.proofs.Common.{◌≡◌, ℕ, zero, suc, ◌-◌, Bool, true, false, List, [], ◌∷◌, ◌++◌, length, take, drop, cond, refl, sym, ap, ◌∙◌, arith}
use Rattle.std.proofs.Math.Seq.{drop-length}
use Rattle.std.proofs.lemmas.Bool.{cond-true, cond-false}
use Rattle.std.proofs.lemmas.List.{append-nil, length-drop, take-append-drop}
use Rattle.idl_entity.specs.Identity.{is_within, relative, slashed}
use Rattle.idl_entity.specs.Path.{path_eq, same_path, scope_of}

none-case : (none : List (List ℕ)) (b : Bool) (i : ℕ) → none ≡ [] → cond b (take i none) none ≡ none
none-case none true zero h = sym h
none-case none true (suc i) h = ap (λ l. take (suc i) l) h ∙ sym h
none-case none false i h = refl

-- all names are within the global scope
pub within_global : (a p : List (List ℕ)) → p ≡ [] → is_within a p ≡ true
within_global a p h =
    let all : length a - length p ≡ length a = omega (arith, ap length h) in
    (λ i. path_eq (drop (all i) a) (h i)) ∙ ap (λ l. path_eq l []) (drop-length a)

-- names are within a scope that they are of, and else where those around are, if there are any
pub within_here : (a p : List (List ℕ)) → path_eq a p ≡ true → is_within a p ≡ true
within_here a p h =
    let none : length a - length p ≡ 0 = omega (arith, ap length (same_path a p h)) in
    ap (λ i. path_eq (drop i a) p) none ∙ h

pub within_none : (p : List (List ℕ)) → is_within [] p ≡ path_eq [] p
within_none p =
    let none : 0 - length p ≡ 0 = omega arith in
    ap (λ i. path_eq (drop i []) p) none

-- of no names nothing is told
pub slashed_none : (p : List (List ℕ)) → slashed (relative [] p) ≡ []
slashed_none p = ap slashed (none-case [] (is_within [] p) (0 - length p) refl)

-- where the scope is that around a name, it is told alone
pub slashed_ends : (n : List ℕ) (a p : List (List ℕ)) → path_eq a p ≡ true → slashed (relative (n ∷ a) p) ≡ n
slashed_ends n a p h =
    let len : length a ≡ length p = ap length (same_path a p h) in
    let none : length a - length p ≡ 0 = omega (arith, len) in
    let one : suc (length a) - length p ≡ 1 = omega (arith, len) in
    let within : is_within a p ≡ true = ap (λ i. path_eq (drop i a) p) none ∙ h in
    ap slashed (cond-true (is_within a p) (take (suc (length a) - length p) (n ∷ a)) (n ∷ a) within ∙ ap (λ i. take i (n ∷ a)) one)

last-case : (n : List ℕ) (p : List (List ℕ)) (b : Bool) → path_eq [] p ≡ b → cond b (take (1 - length p) (n ∷ [])) (n ∷ []) ≡ n ∷ []
last-case n [] true h = refl
last-case n (m ∷ p) true h = cc
last-case n p false h = refl

-- and so is a name of the global scope
pub slashed_last : (n : List ℕ) (p : List (List ℕ)) → slashed (relative (n ∷ []) p) ≡ n
slashed_last n p =
    let none : 0 - length p ≡ 0 = omega arith in
    let same : is_within [] p ≡ path_eq [] p = ap (λ i. path_eq (drop i []) p) none in
    ap slashed (ap (λ b. cond b (take (1 - length p) (n ∷ [])) (n ∷ [])) same ∙ last-case n p (path_eq [] p) refl)

beyond : (m : List ℕ) (t p : List (List ℕ)) → path_eq (m ∷ t) p ≡ false → is_within t p ≡ false → (i : ℕ) → suc (length t) - length p ≡ i → is_within (m ∷ t) p ≡ false
beyond m t p h w zero e = ap (λ i. path_eq (drop i (m ∷ t)) p) e ∙ h
beyond m t p h w (suc i) e =
    let one : length t - length p ≡ i = omega (arith, e) in
    ap (λ i. path_eq (drop i (m ∷ t)) p) e ∙ sym (ap (λ i. path_eq (drop i t) p) one) ∙ w

pub within_further : (n : List ℕ) (a p : List (List ℕ)) → path_eq (n ∷ a) p ≡ false → is_within (n ∷ a) p ≡ is_within a p
within_further n a p h = by (is_within a p) refl
  where
    by : (b : Bool) → is_within a p ≡ b → is_within (n ∷ a) p ≡ b
    by true w =
        let len : length a - (length a - length p) ≡ length p = sym (length-drop (length a - length p) a) ∙ ap length (same_path (drop (length a - length p) a) p w) in
        let one : suc (length a) - length p ≡ suc (length a - length p) = omega (arith, len) in
        ap (λ i. path_eq (drop i (n ∷ a)) p) one ∙ w
    by false w = beyond n a p h w (suc (length a) - length p) refl

further : (n m : List ℕ) (t p : List (List ℕ)) → path_eq (m ∷ t) p ≡ false → (b : Bool) → is_within t p ≡ b → slashed (relative (n ∷ m ∷ t) p) ≡ slashed (relative (m ∷ t) p) ++ 47 ∷ n
further n m t p h true w =
    let len : length t - (length t - length p) ≡ length p = sym (length-drop (length t - length p) t) ∙ ap length (same_path (drop (length t - length p) t) p w) in
    let one : suc (length t) - length p ≡ suc (length t - length p) = omega (arith, len) in
    let two : suc (suc (length t)) - length p ≡ suc (suc (length t - length p)) = omega (arith, len) in
    let within : is_within (m ∷ t) p ≡ true = ap (λ i. path_eq (drop i (m ∷ t)) p) one ∙ w in
    let inner : relative (m ∷ t) p ≡ m ∷ take (length t - length p) t = cond-true (is_within t p) (take (suc (length t) - length p) (m ∷ t)) (m ∷ t) w ∙ ap (λ i. take i (m ∷ t)) one in
    let outer : relative (n ∷ m ∷ t) p ≡ n ∷ m ∷ take (length t - length p) t = cond-true (is_within (m ∷ t) p) (take (suc (suc (length t)) - length p) (n ∷ m ∷ t)) (n ∷ m ∷ t) within ∙ ap (λ i. take i (n ∷ m ∷ t)) two in
    ap slashed outer ∙ sym (ap (λ told. slashed told ++ 47 ∷ n) inner)
further n m t p h false w =
    let within : is_within (m ∷ t) p ≡ false = beyond m t p h w (suc (length t) - length p) refl in
    let inner : relative (m ∷ t) p ≡ m ∷ t = cond-false (is_within t p) (take (suc (length t) - length p) (m ∷ t)) (m ∷ t) w in
    let outer : relative (n ∷ m ∷ t) p ≡ n ∷ m ∷ t = cond-false (is_within (m ∷ t) p) (take (suc (suc (length t)) - length p) (n ∷ m ∷ t)) (n ∷ m ∷ t) within in
    ap slashed outer ∙ sym (ap (λ told. slashed told ++ 47 ∷ n) inner)

-- else the scope around is told before it
pub slashed_further : (n : List ℕ) (a p : List (List ℕ)) → (a ≡ [] → ⊥) → path_eq a p ≡ false → slashed (relative (n ∷ a) p) ≡ slashed (relative a p) ++ 47 ∷ n
slashed_further n [] p some h = absurd (some refl)
slashed_further n (m ∷ t) p some h = further n m t p h (is_within t p) refl

-- what is told of a path in a scope begins with its name
pub relative-name : (n : List ℕ) (t p : List (List ℕ)) → is_within t p ≡ true → relative (n ∷ t) p ≡ n ∷ take (length t - length p) t
relative-name n t p h =
    let tail : drop (length t - length p) t ≡ p = same_path (drop (length t - length p) t) p h in
    let len : length t - (length t - length p) ≡ length p = sym (length-drop (length t - length p) t) ∙ ap length tail in
    let one : suc (length t) - length p ≡ suc (length t - length p) = omega (arith, len) in
    cond-true (is_within t p) (take (suc (length t) - length p) (n ∷ t)) (n ∷ t) h ∙ ap (λ i. take i (n ∷ t)) one

-- a path in a scope is what is told of it there, and the path of the scope
pub relative-inside : (path p : List (List ℕ)) → is_within (scope_of path) p ≡ true → relative path p ++ p ≡ path
relative-inside [] p h =
    let none : 0 - length p ≡ 0 = omega arith in
    let same : path_eq [] p ≡ true = sym (ap (λ i. path_eq (drop i []) p) none) ∙ h in
    ap (λ l. l ++ p) (none-case [] (is_within [] p) (0 - length p) refl) ∙ sym (same_path [] p same)
relative-inside (n ∷ t) p h =
    let tail : drop (length t - length p) t ≡ p = same_path (drop (length t - length p) t) p h in
    ap (λ l. l ++ p) (relative-name n t p h) ∙ sym (ap (λ l. n ∷ (take (length t - length p) t ++ l)) tail) ∙ ap (λ l. n ∷ l) (take-append-drop (length t - length p) t)

-- and one elsewhere is told whole
pub relative-elsewhere : (path p : List (List ℕ)) → is_within (scope_of path) p ≡ false → relative path p ≡ path
relative-elsewhere path p h = cond-false (is_within (scope_of path) p) (take (length path - length p) path) path h

-- of the global scope no name is left out
pub relative-global : (path : List (List ℕ)) → relative path [] ≡ path
relative-global path = sym (append-nil (relative path [])) ∙ relative-inside path [] (within_global (scope_of path) [] refl)
