-- The directory of a file: what stands before the last `/` of its name makes one.
use Rattle.std.proofs.Common.{◌≡◌, ◌<◌, ◌≤◌, ◌++◌, ◌∷◌, ◌∙◌, [], ℕ, Bool, true, false, ◌&&◌, ◌||◌, cond, List, Option, None, Some, IsTrue, eqb, leb, length, refl, subst, ap, arith, eq-eqb, length-append}
use Rattle.std.specs.List.{All, list_all}
use Rattle.std.specs.Str.{bytes_eq}
use Rattle.std.proofs.lemmas.List.Elements.{All-head, All-tail}
use Rattle.std.proofs.lemmas.Bool.Decides.{nat_tests}
use Rattle.idl_source.specs.names.Name.{climbs, is_name, is_path, is_plain, is_up, is_visible, segments}
use Rattle.idl_source.specs.names.Directory.{before_last, directory_of, is_directory, up_to}
use Rattle.idl_source.proofs.PathLemmas.{segments-last}

pub first : (a b : Bool) → IsTrue (a && b) → IsTrue a
first true b h = refl
first false b h = h

pub second : (a b : Bool) → IsTrue (a && b) → IsTrue b
second true b h = h
second false b h = cc h

both : (a b : Bool) → IsTrue a → IsTrue b → IsTrue (a && b)
both true b p q = q
both false b p q = p

either : (a b : Bool) → IsTrue a → IsTrue (a || b)
either true b h = refl
either false b h = cc h

-- no such byte, and none before another
abbrev one_more : ℕ → ℕ → Option (List ℕ) → Option (List ℕ)
one_more byte b before = elim before [ Some bytes ↦ Some (b ∷ bytes) | None ↦ cond (eqb b byte) (Some []) None ]

pub before_last-none : (byte : ℕ) (bytes : List ℕ) → All (λ b. eqb b byte ≡ false) bytes → before_last byte bytes ≡ None
before_last-none byte [] none = refl
before_last-none byte (b ∷ bytes) none =
    ap (one_more byte b) (before_last-none byte bytes (All-tail (λ b. eqb b byte ≡ false) b bytes none))
    ∙ ap (λ t. cond t (Some []) None) (All-head (λ b. eqb b byte ≡ false) b bytes none)

pub before_last-append : (byte : ℕ) (before last : List ℕ) → All (λ b. eqb b byte ≡ false) last → before_last byte (before ++ byte ∷ last) ≡ Some before
before_last-append byte [] last none = ap (one_more byte byte) (before_last-none byte last none) ∙ ap (λ t. cond t (Some []) None) (eq-eqb byte byte refl)
before_last-append byte (b ∷ before) last none = ap (one_more byte b) (before_last-append byte before last none)

-- the directories of a bare name, of one below the root, and of others
pub directory_of-bare : (name : List ℕ) → All (λ b. eqb b 47 ≡ false) name → directory_of name ≡ 46 ∷ []
unfolding directory_of
directory_of-bare name none = ap up_to (before_last-none 47 name none)

pub directory_of-append : (name before last : List ℕ) → name ≡ before ++ 47 ∷ last → All (λ b. eqb b 47 ≡ false) last → directory_of name ≡ up_to (Some before)
unfolding directory_of
directory_of-append name before last is none = ap (λ (n : List ℕ). up_to (before_last 47 n)) is ∙ ap up_to (before_last-append 47 before last none)

pub up_to-none : (before : List ℕ) → length before ≡ 0 → up_to (Some before) ≡ 47 ∷ []
up_to-none [] none = refl
up_to-none (b ∷ before) none = absurd (omega arith)

pub up_to-some : (before : List ℕ) → 0 < length before → up_to (Some before) ≡ before
up_to-some [] some = absurd (omega arith)
up_to-some (b ∷ before) some = refl

list_all-front : {X : Type 0} (test : X → Bool) (xs ys : List X) → IsTrue (list_all test (xs ++ ys)) → IsTrue (list_all test xs)
list_all-front test [] ys h = refl
list_all-front test (x ∷ xs) ys h = both (test x) (list_all test xs) (first (test x) (list_all test (xs ++ ys)) h) (list_all-front test xs ys (second (test x) (list_all test (xs ++ ys)) h))

-- what stands before the last segment is a run of `..`, or goes on to plain segments
climbs-front : (parts : List (List ℕ)) (last : List ℕ) → IsTrue (climbs (parts ++ (last ∷ []))) → IsTrue (climbs parts || list_all is_up parts)
climbs-front [] last h = refl
climbs-front (part ∷ parts) last h =
    elim (is_up part) as (λ u. IsTrue (cond u (climbs (parts ++ (last ∷ []))) (list_all is_plain (part ∷ parts ++ (last ∷ [])))) → IsTrue (cond u (climbs parts) (list_all is_plain (part ∷ parts)) || (u && list_all is_up parts))) [
      | true ↦ λ g. climbs-front parts last g
      | false ↦ λ g. either _ _ (list_all-front is_plain (part ∷ parts) (last ∷ []) g)
    ] h

is_path-front : (b : ℕ) (bytes last : List ℕ) → All (λ b. eqb b 47 ≡ false) last → IsTrue (is_path (b ∷ bytes ++ 47 ∷ last)) → IsTrue (is_path (b ∷ bytes) || list_all is_up (segments (b ∷ bytes)))
is_path-front b bytes last none h =
    elim (eqb b 47) as (λ t. IsTrue (cond t (list_all is_plain (segments (bytes ++ 47 ∷ last))) (climbs (segments (b ∷ bytes ++ 47 ∷ last)))) → IsTrue (cond t (list_all is_plain (segments bytes)) (climbs (segments (b ∷ bytes))) || list_all is_up (segments (b ∷ bytes)))) [
      | true ↦ λ g. either _ _ (list_all-front is_plain (segments bytes) (last ∷ []) (rw (segments-last bytes last none) at g))
      | false ↦ λ g. climbs-front (segments (b ∷ bytes)) last (rw (segments-last (b ∷ bytes) last none) at g)
    ] h

later : (a b : Bool) → IsTrue b → IsTrue (a || b)
later true b h = refl
later false b h = h

-- a path within the limits is a directory
directory_from : (some size visible path dot root up : Bool) → IsTrue some → IsTrue size → IsTrue visible → IsTrue (path || up) → IsTrue ((some && (size && (visible && path))) || (dot || (root || (size && up))))
directory_from some size visible path dot root up a b c h =
    rw (a, b, c) (elim path as (λ p. IsTrue (p || up) → IsTrue (p || (dot || (root || up)))) [ true ↦ λ g. refl | false ↦ λ g. later dot (root || up) (later root up g) ] h)

at_least : (n : ℕ) → 0 < n → IsTrue (leb 1 n)
at_least n some = grind (arith, nat_tests)

at_most : (n m : ℕ) → n ≤ m → IsTrue (leb m 255) → IsTrue (leb n 255)
at_most n m le within = grind (arith, nat_tests)

-- what stands before the last `/` of a name, if anything does, is a directory
pub is_directory-front : (name before last : List ℕ) → name ≡ before ++ 47 ∷ last → 0 < length before → All (λ b. eqb b 47 ≡ false) last → IsTrue (is_name name) → IsTrue (is_directory before)
is_directory-front name [] last is some none allowed = absurd (omega arith)
is_directory-front name (b ∷ before) last is some none allowed =
    let bytes = b ∷ before in
    let whole = bytes ++ 47 ∷ last in
    let shorter : length bytes ≤ length whole = omega (arith, length-append bytes (47 ∷ last)) in
    let named : IsTrue (is_name whole) = subst (λ (n : List ℕ). IsTrue (is_name n)) is allowed in
    let limits : IsTrue (leb (length whole) 255 && (list_all is_visible whole && is_path whole)) = second _ _ named in
    let within : IsTrue (leb (length whole) 255) = first _ _ limits in
    let rest : IsTrue (list_all is_visible whole && is_path whole) = second _ _ limits in
    directory_from (leb 1 (length bytes)) (leb (length bytes) 255) (list_all is_visible bytes) (is_path bytes) (bytes_eq bytes (46 ∷ [])) (bytes_eq bytes (47 ∷ [])) (list_all is_up (segments bytes))
    (at_least (length bytes) some) (at_most (length bytes) (length whole) shorter within) (list_all-front is_visible bytes (47 ∷ last) (first _ _ rest)) (is_path-front b before last none (second _ _ rest))
