-- How it is found out which items of two lists belong together.
use Rattle.std.proofs.Common.{◌≡◌, ◌∙◌, ◌+◌, ◌<◌, ◌≤◌, ◌&&◌, ◌∷◌, [], ℕ, suc, Bool, List, None, Option, Some, ap, ap₂, arith, cond, drop, false, find, get_or, if◌then◌else◌, length, map, nat_eq, nat_lt, not, position, refl, sym, true}
use Rattle.std.specs.Cmp.{nat_eq_equiv}
use Rattle.std.specs.Cmp.Lexicographic.{bytes_decides, pointwise}
use Rattle.std.specs.List.{list_any, position_or_len, range_with_len, slice_get}
use Rattle.std.specs.Option.{is_some, option_and_then, option_eq, option_or}
use Rattle.std.specs.Str.{bytes_eq}
use Rattle.std.proofs.lemmas.Bool.Decides.{nat_tests}
use Rattle.std.proofs.lemmas.List.{drop_all, drop_more}
use Rattle.std.proofs.lemmas.List.Folds.{find_at}
use Rattle.std.proofs.lemmas.Option.{none-some, slice_get-get_or, slice_get_past}
use Rattle.idl_base.specs.Exact.{same_list, same_number}
use Rattle.idl_changes.specs.Keys.{numbered_eq, same_numbered}
use Rattle.idl_changes.specs.Matched.{matched, matches, renamed}
use Rattle.idl_changes.specs.declared.keys.NumberedText.{NumberedText}
use Rattle.idl_changes.proofs.HasLemmas.{same-tests}
use Rattle.idl_changes.proofs.NothingLemmas.{own-matches}
use Rattle.idl_changes.proofs.TableLemmas.{any-position}

-- ---- lists that have the same names at the same places

pub same-names : (old new : List (List ℕ)) → pointwise bytes_eq old new ≡ true → matches old new ≡ map (λ (k : ℕ). Some k) (range_with_len 0 (length old))
same-names old new is =
    let same : old ≡ new = same_list bytes_eq (λ a b. (bytes_decides a b).0) old new is in
    ap (matches old) (sym same) ∙ own-matches old

apart-before : (m n : ℕ) → nat_eq (suc m) (suc n) ≡ false → nat_eq m n ≡ false
apart-before m n is = grind (arith, nat_tests, is)

pub unlike-lengths : {X : Type 0} (eq : X → X → Bool) (xs ys : List X) → nat_eq (length xs) (length ys) ≡ false → pointwise eq xs ys ≡ false
unlike-lengths eq [] [] is = cc
unlike-lengths eq [] (y ∷ ys) is = refl
unlike-lengths eq (x ∷ xs) [] is = refl
unlike-lengths eq (x ∷ xs) (y ∷ ys) is = by (eq x y) (unlike-lengths eq xs ys (apart-before (length xs) (length ys) is))
  where
    by : (b : Bool) → pointwise eq xs ys ≡ false → (b && pointwise eq xs ys) ≡ false
    by true h = h
    by false h = refl

-- those that are left, and the next
pub names-next : {X : Type 0} (name : X → List ℕ) (xs ys : List X) (i : ℕ) (x y : X) → i < length xs → i < length ys → x ≡ get_or xs i x → y ≡ get_or ys i y
    → pointwise bytes_eq (map name (drop i xs)) (map name (drop i ys)) ≡ (bytes_eq (name x) (name y) && pointwise bytes_eq (map name (drop (i + 1) xs)) (map name (drop (i + 1) ys)))
names-next {X} name xs ys i x y in_xs in_ys is_x is_y =
    ap₂ (λ (us vs : List X). pointwise bytes_eq (map name us) (map name vs))
    (drop_more xs i x in_xs ∙ ap (λ (z : X). z ∷ drop (i + 1) xs) (sym is_x))
    (drop_more ys i y in_ys ∙ ap (λ (z : X). z ∷ drop (i + 1) ys) (sym is_y))

pub items-next : {X : Type 0} (eq : X → X → Bool) (xs ys : List X) (i : ℕ) (x y : X) → i < length xs → i < length ys → x ≡ get_or xs i x → y ≡ get_or ys i y
    → pointwise eq (drop i xs) (drop i ys) ≡ (eq x y && pointwise eq (drop (i + 1) xs) (drop (i + 1) ys))
items-next {X} eq xs ys i x y in_xs in_ys is_x is_y =
    ap₂ (λ (us vs : List X). pointwise eq us vs)
    (drop_more xs i x in_xs ∙ ap (λ (z : X). z ∷ drop (i + 1) xs) (sym is_x))
    (drop_more ys i y in_ys ∙ ap (λ (z : X). z ∷ drop (i + 1) ys) (sym is_y))

pub items-left : {X : Type 0} (eq : X → X → Bool) (xs ys : List X) (i : ℕ) → length xs ≤ i → length ys ≤ i → pointwise eq (drop i xs) (drop i ys) ≡ true
items-left {X} eq xs ys i past_xs past_ys = ap₂ (λ (us vs : List X). pointwise eq us vs) (drop_all i xs past_xs) (drop_all i ys past_ys)

pub not-false : (b : Bool) → not b ≡ false → b ≡ true
not-false true h = refl
not-false false h = cc

-- ---- the item to which one belongs

module _ (old new : List (List ℕ)) (i : ℕ) where
  pub matched-here : (name : List ℕ) → option_eq bytes_eq (slice_get new i) (Some name) ≡ true → matched old new i name ≡ Some i
  unfolding matched
  matched-here name is = ap (λ (b : Bool). if b then Some i else option_or (position (bytes_eq name) new) (renamed old new i)) is

  pub matched-else : (name : List ℕ) → option_eq bytes_eq (slice_get new i) (Some name) ≡ false → matched old new i name ≡ option_or (position (bytes_eq name) new) (renamed old new i)
  unfolding matched
  matched-else name is = ap (λ (b : Bool). if b then Some i else option_or (position (bytes_eq name) new) (renamed old new i)) is

  pub renamed-there : (other : List ℕ) → slice_get new i ≡ Some other
      → renamed old new i ≡ (if nat_eq (length old) (length new) && not (is_some (position (bytes_eq other) old)) then Some i else None)
  renamed-there other is =
      ap (λ (o : Option (List ℕ)). if nat_eq (length old) (length new) && not (list_any (λ (name : List ℕ). option_eq bytes_eq o (Some name)) old) then Some i else None) is
      ∙ ap (λ (b : Bool). if nat_eq (length old) (length new) && not b then Some i else None) (any-position (bytes_eq other) old)

  pub renamed-past : slice_get new i ≡ None → i < length old → renamed old new i ≡ None
  renamed-past past within = by (nat_eq (length old) (length new)) refl
    where
      by : (b : Bool) → nat_eq (length old) (length new) ≡ b
          → (if b && not (list_any (λ (name : List ℕ). option_eq bytes_eq (slice_get new i) (Some name)) old) then Some i else None) ≡ None
      by false is = refl
      by true is =
          let same = same_number (length old) (length new) is in
          let there : i < length new = omega (arith, within, same) in
          absurd (none-some (get_or new i []) (sym past ∙ slice_get-get_or new i [] there))

-- ---- texts with numbers

own-numbered : (key : NumberedText) → numbered_eq key key ≡ true
own-numbered key = ap₂ (λ (a b : Bool). a && b) ((bytes_decides key.text key.text).1 refl) (nat_eq_equiv.refl key.number)

pub turned-numbered : (key other : NumberedText) → numbered_eq key other ≡ numbered_eq other key
turned-numbered key other =
    same-tests (numbered_eq key other) (numbered_eq other key)
    (λ is. ap (λ (k : NumberedText). numbered_eq k key) (sym (same_numbered key other is)) ∙ own-numbered key)
    (λ is. ap (λ (k : NumberedText). numbered_eq k other) (sym (same_numbered other key is)) ∙ own-numbered other)

-- what is found, by its place
pub find-position : {X : Type 0} (test : X → Bool) (xs : List X) → find test xs ≡ option_and_then (slice_get xs) (position test xs)
find-position {X} test xs = find_at test xs ∙ by (nat_lt (position_or_len test xs) (length xs)) refl
  where
    by : (b : Bool) → nat_lt (position_or_len test xs) (length xs) ≡ b
        → slice_get xs (position_or_len test xs) ≡ option_and_then (slice_get xs) (cond b (Some (position_or_len test xs)) None)
    by true e = refl
    by false e =
        let past : length xs ≤ position_or_len test xs = grind (arith, nat_tests, e) in
        slice_get_past xs (position_or_len test xs) past
