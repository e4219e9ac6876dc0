-- The digests of keys, and keys that are apart by them.
use Rattle.std.proofs.Common.{ℕ, zero, suc, ◌<◌, List, [], ◌∷◌, ◌++◌, length, get_or, map, refl, arith}
use Rattle.std.specs.Prelude.{Contains}
use Rattle.std.proofs.lemmas.List.Elements.{All-append, All-contains, All-map, All-weaker, Contains-append_left, Contains-append_right}
use Rattle.idl_env.specs.Facts.{key_of}
use Rattle.idl_env.specs.Outside.{AreApart}
use Rattle.idl_env.specs.declared.additions.addition.Addition.{Addition}
use Rattle.idl_env.specs.declared.keys.key.Key.{Key}
use Rattle.idl_env.specs.keys.Key.{key_digest}
use Rattle.idl_root.specs.Changed.{ShareNone}
use Rattle.idl_root.specs.Followed.{AreNoted}

-- keys whose digests are among numbers are apart from keys whose digests are among others
pub apart-noted : (digests changed : List ℕ) (asks keys : List Key) → AreNoted digests asks → AreNoted changed keys → ShareNone digests changed → AreApart asks keys
apart-noted digests changed asks keys a b none k i j =
    none (key_digest k) (All-contains (λ q. Contains digests (key_digest q)) asks k a i) (All-contains (λ q. Contains changed (key_digest q)) keys k b j)

pub noted-wider : (digests more : List ℕ) (keys : List Key) → AreNoted digests keys → AreNoted (digests ++ more) keys
noted-wider digests more keys h =
    All-weaker (λ q. Contains digests (key_digest q)) (λ q. Contains (digests ++ more) (key_digest q)) (λ q c. Contains-append_left digests more (key_digest q) c) keys h

pub at-map : {A B : Type 0} (f : A → B) (xs : List A) (k : ℕ) (d : A) → k < length xs → Contains (map f xs) (f (get_or xs k d))
at-map f [] k d lt = absurd (omega arith)
at-map f (x ∷ xs) zero d lt = (zero, omega arith, refl)
at-map f (x ∷ xs) (suc k) d lt = let r = at-map f xs k d (omega arith) in (suc r.0, omega (arith, r.1), r.2)

abbrev pub own : List Addition → List ℕ
own additions = map (λ a. key_digest (key_of a)) additions

noted-own : (digests : List ℕ) (additions : List Addition) → AreNoted (digests ++ own additions) (map key_of additions)
noted-own digests additions =
    All-map (λ q. Contains (digests ++ own additions) (key_digest q)) key_of additions
    (λ k d lt. Contains-append_right digests (own additions) (key_digest (key_of (get_or additions k d))) (at-map (λ a. key_digest (key_of a)) additions k d lt))

-- with the keys of more additions
pub noted-more : (changed : List ℕ) (keys : List Key) (additions : List Addition) → AreNoted changed keys → AreNoted (changed ++ own additions) (keys ++ map key_of additions)
noted-more changed keys additions h =
    All-append (λ q. Contains (changed ++ own additions) (key_digest q)) keys (map key_of additions) (noted-wider changed (own additions) keys h) (noted-own changed additions)

-- with more keys
pub noted-with : (changed : List ℕ) (keys more : List Key) → AreNoted changed keys → AreNoted (changed ++ map key_digest more) (keys ++ more)
noted-with changed keys more h =
    All-append (λ q. Contains (changed ++ map key_digest more) (key_digest q)) keys more (noted-wider changed (map key_digest more) keys h)
    (λ k d lt. Contains-append_right changed (map key_digest more) (key_digest (get_or more k d)) (at-map key_digest more k d lt))
