-- Additions that are looked through one by one.
use Rattle.std.proofs.Common.{◌≡◌, ◌<◌, ℕ, zero, suc, Bool, true, false, cond, List, [], ◌∷◌, ◌++◌, length, Some, None, is_some, refl, sym, ap, ◌∙◌, arith, ◌||◌, nat_eq, nat_lt, true≢false}
use Rattle.std.specs.Map.{lookup}
use Rattle.std.specs.Prelude.{get_or, slice_get, slice_set}
use Rattle.std.proofs.lemmas.List.Quantifiers.{position-Some}
use Rattle.idl_map.specs.Table.{insert_entry}
use Rattle.idl_map.proofs.TableLemmas.{cond-apart, cond-twice}
use Rattle.std.specs.List.{find, list_any, position, position_or_len}
use Rattle.std.specs.Option.{option_or}
use Rattle.std.proofs.lemmas.Bool.{eqb-false, ltb-false}
use Rattle.std.proofs.lemmas.List.Folds.{find_at}
use Rattle.std.proofs.lemmas.Option.{same_Some, slice_get_past}
use Rattle.idl_env.specs.Facts.{addition_at, key_of, with_addition}
use Rattle.idl_env.specs.keys.Key.{key_digest, key_eq}
use Rattle.idl_env.specs.SameKey.{same_key}
use Rattle.idl_env.specs.declared.additions.addition.Addition.{Addition}
use Rattle.idl_env.specs.declared.keys.key.Key.{Key}

-- keys with different digests are not one
pub digests_tell : (k q : Key) → nat_eq (key_digest q) (key_digest k) ≡ false → key_eq k q ≡ false
digests_tell k q h = by (key_eq k q) refl
  where
    by : (b : Bool) → key_eq k q ≡ b → b ≡ false
    by true t = absurd (eqb-false (key_digest q) (key_digest k) h (ap key_digest (sym (same_key k q t))))
    by false t = refl

-- where no addition has the digest of a key, none is at that
pub unlike : (additions : List Addition) (k : Key) → list_any (λ a. nat_eq (key_digest (key_of a)) (key_digest k)) additions ≡ false → addition_at additions k ≡ None
unlike [] k h = refl
unlike (a ∷ additions) k h = by (nat_eq (key_digest (key_of a)) (key_digest k)) refl (unlike additions k) h
  where
    by : (b : Bool) → nat_eq (key_digest (key_of a)) (key_digest k) ≡ b → (list_any (λ a. nat_eq (key_digest (key_of a)) (key_digest k)) additions ≡ false → addition_at additions k ≡ None)
        → (b || list_any (λ a. nat_eq (key_digest (key_of a)) (key_digest k)) additions) ≡ false → addition_at (a ∷ additions) k ≡ None
    by true t rest more = cc
    by false t rest more = ap (λ b. cond b (Some a) (addition_at additions k)) (digests_tell k (key_of a) t) ∙ rest more

module _ (k : Key) where
  addition_at-find : (additions : List Addition) → addition_at additions k ≡ find (λ a. key_eq k (key_of a)) additions
  addition_at-find [] = refl
  addition_at-find (a ∷ additions) = ap (λ o. cond (key_eq k (key_of a)) (Some a) o) (addition_at-find additions)

  -- the addition at the place that is found
  pub present : (additions : List Addition) (i : ℕ) → position (λ a. key_eq k (key_of a)) additions ≡ Some i → addition_at additions k ≡ slice_get additions i
  present additions i h = addition_at-find additions ∙ find_at (λ a. key_eq k (key_of a)) additions ∙ by (nat_lt n (length additions)) refl h
    where
      n : ℕ
      n = position_or_len (λ a. key_eq k (key_of a)) additions

      by : (b : Bool) → nat_lt n (length additions) ≡ b → cond b (Some n) None ≡ Some i → slice_get additions n ≡ slice_get additions i
      by true t some = ap (slice_get additions) (same_Some n i some)
      by false t some = cc

  -- and none where none is found
  pub absent : (additions : List Addition) → position (λ a. key_eq k (key_of a)) additions ≡ None → addition_at additions k ≡ None
  absent additions h = addition_at-find additions ∙ find_at (λ a. key_eq k (key_of a)) additions ∙ by (nat_lt n (length additions)) refl h
    where
      n : ℕ
      n = position_or_len (λ a. key_eq k (key_of a)) additions

      by : (b : Bool) → nat_lt n (length additions) ≡ b → cond b (Some n) None ≡ None → slice_get additions n ≡ None
      by true t none = cc
      by false t none = slice_get_past additions n (ltb-false n (length additions) t)

  -- what is at a key among additions, and behind them
  pub addition_at-append : (additions more : List Addition) → addition_at (additions ++ more) k ≡ option_or (addition_at additions k) (addition_at more k)
  addition_at-append [] more = refl
  addition_at-append (a ∷ additions) more = by (key_eq k (key_of a)) (addition_at-append additions more)
    where
      by : (b : Bool) → addition_at (additions ++ more) k ≡ option_or (addition_at additions k) (addition_at more k)
          → cond b (Some a) (addition_at (additions ++ more) k) ≡ option_or (cond b (Some a) (addition_at additions k)) (addition_at more k)
      by true rest = refl
      by false rest = rest

-- what is at a key with one more
pub addition_at-with_addition : (additions : List Addition) (a : Addition) (k : Key) → addition_at (with_addition additions a) k ≡ cond (key_eq k (key_of a)) (Some a) (addition_at additions k)
addition_at-with_addition [] a k = refl
addition_at-with_addition (b ∷ additions) a k = by (key_eq (key_of a) (key_of b)) refl (addition_at-with_addition additions a k)
  where
    by : (t : Bool) → key_eq (key_of a) (key_of b) ≡ t → addition_at (with_addition additions a) k ≡ cond (key_eq k (key_of a)) (Some a) (addition_at additions k)
        → addition_at (cond t (a ∷ additions) (b ∷ with_addition additions a)) k ≡ cond (key_eq k (key_of a)) (Some a) (addition_at (b ∷ additions) k)
    by true t rest =
        cond-twice a (key_eq k (key_of a)) b (addition_at additions k)
        ∙ ap (λ own. cond (key_eq k (key_of a)) (Some a) (cond (key_eq k own) (Some b) (addition_at additions k))) (same_key (key_of a) (key_of b) t)
    by false t rest =
        ap (cond (key_eq k (key_of b)) (Some b)) rest
        ∙ cond-apart a (key_eq k (key_of b)) (key_eq k (key_of a)) b (addition_at additions k)
        (λ here there. true≢false (sym here ∙ ap (λ q. key_eq q (key_of b)) (same_key k (key_of a) there) ∙ t))

-- one more goes behind those of which none is at its key
pub with_addition-behind : (additions more : List Addition) (a : Addition) → addition_at additions (key_of a) ≡ None → with_addition (additions ++ more) a ≡ additions ++ with_addition more a
with_addition-behind [] more a h = refl
with_addition-behind (b ∷ additions) more a h = by (key_eq (key_of a) (key_of b)) (with_addition-behind additions more a) h
  where
    by : (t : Bool) → (addition_at additions (key_of a) ≡ None → with_addition (additions ++ more) a ≡ additions ++ with_addition more a) → cond t (Some b) (addition_at additions (key_of a)) ≡ None
        → cond t (a ∷ (additions ++ more)) (b ∷ with_addition (additions ++ more) a) ≡ b ∷ (additions ++ with_addition more a)
    by true rest none = cc
    by false rest none = ap (λ l. b ∷ l) (rest none)

-- as the last, where none is behind them
pub with_addition-last : (additions more : List Addition) (a : Addition) → more ≡ [] → addition_at additions (key_of a) ≡ None → (additions ++ a ∷ []) ++ more ≡ with_addition (additions ++ more) a
with_addition-last [] more a none h = ap (λ m. a ∷ m) none ∙ ap (λ m. with_addition m a) (sym none)
with_addition-last (b ∷ additions) more a none h = by (key_eq (key_of a) (key_of b)) (with_addition-last additions more a none) h
  where
    by : (t : Bool) → (addition_at additions (key_of a) ≡ None → (additions ++ a ∷ []) ++ more ≡ with_addition (additions ++ more) a) → cond t (Some b) (addition_at additions (key_of a)) ≡ None
        → b ∷ ((additions ++ a ∷ []) ++ more) ≡ cond t (a ∷ (additions ++ more)) (b ∷ with_addition (additions ++ more) a)
    by true rest none = cc
    by false rest none = ap (λ l. b ∷ l) (rest none)

in_place : (additions more : List Addition) (a : Addition) (i : ℕ) → i < length additions → key_eq (key_of a) (key_of (get_or additions i a)) ≡ true
    → ((j : ℕ) → j < i → key_eq (key_of a) (key_of (get_or additions j a)) ≡ false) → with_addition (additions ++ more) a ≡ slice_set additions i a ++ more
in_place [] more a i within here before = absurd (omega (arith, within))
in_place (b ∷ additions) more a zero within here before = ap (λ t. cond t (a ∷ (additions ++ more)) (b ∷ with_addition (additions ++ more) a)) here
in_place (b ∷ additions) more a (suc i) within here before =
    ap (λ t. cond t (a ∷ (additions ++ more)) (b ∷ with_addition (additions ++ more) a)) (before zero (omega arith))
    ∙ ap (λ l. b ∷ l) (in_place additions more a i (omega (arith, within)) here (λ j h. before (suc j) (omega (arith, h))))

-- in the place of the one at its key
pub with_addition-at : (additions more : List Addition) (a : Addition) (i : ℕ) → position (λ b. key_eq (key_of a) (key_of b)) additions ≡ Some i → with_addition (additions ++ more) a ≡ slice_set additions i a ++ more
with_addition-at additions more a i h =
    let facts = position-Some (λ b. key_eq (key_of a) (key_of b)) additions i a h in
    in_place additions more a i facts.0 facts.1 facts.2

-- how many entries there are with one more
pub length-insert_entry : (entries : List (Key × Addition)) (k : Key) (a : Addition) → length (insert_entry key_eq entries k a) ≡ cond (is_some (lookup (key_eq k) entries)) (length entries) (suc (length entries))
length-insert_entry [] k a = refl
length-insert_entry (e ∷ entries) k a = by (key_eq k e.0) (length-insert_entry entries k a)
  where
    one : (s : Bool) → suc (cond s (length entries) (suc (length entries))) ≡ cond s (suc (length entries)) (suc (suc (length entries)))
    one true = refl
    one false = refl

    by : (t : Bool) → length (insert_entry key_eq entries k a) ≡ cond (is_some (lookup (key_eq k) entries)) (length entries) (suc (length entries))
        → length (cond t ((e.0, a) ∷ entries) (e ∷ insert_entry key_eq entries k a)) ≡ cond (is_some (cond t (Some e.1) (lookup (key_eq k) entries))) (suc (length entries)) (suc (suc (length entries)))
    by true rest = refl
    by false rest = ap suc rest ∙ one (is_some (lookup (key_eq k) entries))
