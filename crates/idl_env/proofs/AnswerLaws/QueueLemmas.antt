-- Queues of paths.
use Rattle.std.proofs.Common.{◌≡◌, ◌<◌, ℕ, zero, suc, Bool, true, false, cond, List, [], ◌∷◌, ◌++◌, get_or, is_some, length, refl, sym, ap, ◌∙◌, arith}
use Rattle.std.proofs.lemmas.Bool.{or_right}
use Rattle.std.specs.Prelude.{◌||◌}
use Rattle.std.specs.List.{list_any}
use Rattle.std.specs.Cmp.Lexicographic.{bytes_decides, pointwise_decides}
use Rattle.std.specs.Map.{keys_of, lookup}
use Rattle.std.proofs.lemmas.List.Folds.{list_any-append}
use Rattle.std.proofs.lemmas.Map.Made.{is_some-lookup}
use Rattle.idl_env.specs.Facts.{joined}
use Rattle.idl_entity.specs.Path.{path_eq, same_path}

-- a path is in a queue where it is among its paths
pub contains-list_any : (queue : List (List (List ℕ) × Unit {0})) (p : List (List ℕ)) → is_some (lookup (path_eq p) queue) ≡ list_any (path_eq p) (keys_of queue)
contains-list_any queue p = is_some-lookup (path_eq p) queue

-- the paths of a queue behind which one more is put
pub keys_of-push : (queue : List (List (List ℕ) × Unit {0})) (p : List (List ℕ)) (u : Unit {0}) → keys_of (queue ++ (p, u) ∷ []) ≡ keys_of queue ++ p ∷ []
keys_of-push [] p u = refl
keys_of-push (e ∷ queue) p u = ap (λ ps. e.0 ∷ ps) (keys_of-push queue p u)

-- a path that is there is not put in again
pub joined-there : (found : List (List (List ℕ))) (p : List (List ℕ)) (paths : List (List (List ℕ))) → list_any (path_eq p) found ≡ true → joined found (p ∷ paths) ≡ joined found paths
joined-there found p paths h = ap (λ b. joined (cond b found (found ++ p ∷ [])) paths) h

-- and another is put last
pub joined-new : (found : List (List (List ℕ))) (p : List (List ℕ)) (paths : List (List (List ℕ))) → list_any (path_eq p) found ≡ false → joined found (p ∷ paths) ≡ joined (found ++ p ∷ []) paths
joined-new found p paths h = ap (λ b. joined (cond b found (found ++ p ∷ [])) paths) h

or_none : (a : Bool) → (a || false) ≡ a
or_none true = refl
or_none false = refl

pub or_one : (a b c : Bool) → ((a || (b || false)) || c) ≡ (a || (b || c))
or_one true b c = refl
or_one false true c = refl
or_one false false c = refl

module _ (p x : List (List ℕ)) (found : List (List (List ℕ))) (rest : Bool) where
  -- one that is there, put last once more, would bring no path
  one_there : (b : Bool) → path_eq p x ≡ b → list_any (path_eq x) found ≡ true → (list_any (path_eq p) found || rest) ≡ (list_any (path_eq p) found || (b || rest))
  one_there true one there =
      let known : list_any (path_eq p) found ≡ true = ap (λ q. list_any (path_eq q) found) (same_path p x one) ∙ there in
      ap (λ a. a || rest) known ∙ sym (ap (λ a. a || true) known)
  one_there false other there = refl

  -- one put last brings itself
  one_last : (list_any (path_eq p) (found ++ x ∷ []) || rest) ≡ (list_any (path_eq p) found || (path_eq p x || rest))
  one_last = ap (λ a. a || rest) (list_any-append (path_eq p) found (x ∷ [])) ∙ or_one (list_any (path_eq p) found) (path_eq p x) rest

joined-step : (p x : List (List ℕ)) (found paths : List (List (List ℕ))) → ((most : List (List (List ℕ))) → list_any (path_eq p) (joined most paths) ≡ (list_any (path_eq p) most || list_any (path_eq p) paths)) → (b : Bool) → list_any (path_eq x) found ≡ b → list_any (path_eq p) (joined found (x ∷ paths)) ≡ (list_any (path_eq p) found || (path_eq p x || list_any (path_eq p) paths))
joined-step p x found paths ih true h =
    ap (list_any (path_eq p)) (joined-there found x paths h) ∙ ih found ∙ one_there p x found (list_any (path_eq p) paths) (path_eq p x) refl h
joined-step p x found paths ih false h =
    ap (list_any (path_eq p)) (joined-new found x paths h) ∙ ih (found ++ x ∷ []) ∙ one_last p x found (list_any (path_eq p) paths)

-- the paths that are there once others are put behind
pub list_any-joined : (p : List (List ℕ)) (found paths : List (List (List ℕ))) → list_any (path_eq p) (joined found paths) ≡ (list_any (path_eq p) found || list_any (path_eq p) paths)
list_any-joined p found [] = sym (or_none (list_any (path_eq p) found))
list_any-joined p found (x ∷ paths) = joined-step p x found paths (λ most. list_any-joined p most paths) (list_any (path_eq x) found) refl

-- the same path put last in two lists that have the same paths leaves them so
pub same_one_more : (p x : List (List ℕ)) (xs ys : List (List (List ℕ))) → list_any (path_eq p) xs ≡ list_any (path_eq p) ys → list_any (path_eq p) (xs ++ x ∷ []) ≡ list_any (path_eq p) (ys ++ x ∷ [])
same_one_more p x xs ys h =
    list_any-append (path_eq p) xs (x ∷ []) ∙ ap (λ a. a || (path_eq p x || false)) h ∙ sym (list_any-append (path_eq p) ys (x ∷ []))

-- a path at a place of a list is among its paths
pub item_among : (paths : List (List (List ℕ))) (i : ℕ) (x : List (List ℕ)) → i < length paths → x ≡ get_or paths i x → list_any (path_eq x) paths ≡ true
item_among [] i x h e = absurd (let none : ⊥ = omega (h, arith) in none)
item_among (y ∷ paths) zero x h e = ap (λ b. b || list_any (path_eq x) paths) ((pointwise_decides bytes_decides x y).1 e)
item_among (y ∷ paths) (suc i) x h e =
    let less : i < length paths = omega (h, arith) in
    ap (λ b. path_eq x y || b) (item_among paths i x less e) ∙ or_right (path_eq x y) true refl

-- a path that is asked for is none that isn't
pub asked_differs : (asked : List (List (List ℕ))) (p x : List (List ℕ)) → list_any (path_eq p) asked ≡ true → list_any (path_eq x) asked ≡ false → path_eq p x ≡ false
asked_differs asked p x h g = by_test (path_eq p x) refl where
  by_test : (b : Bool) → path_eq p x ≡ b → b ≡ false
  by_test true one = sym h ∙ ap (λ q. list_any (path_eq q) asked) (same_path p x one) ∙ g
  by_test false other = refl
