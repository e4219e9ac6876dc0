-- Names in paths, byte by byte, and entries that are lent.
use Rattle.std.proofs.Common.{Bor, MatchOption, ◌≡◌, ◌∙◌, ◌+◌, ◌<◌, ◌≤◌, ◌++◌, ◌∷◌, [], ℕ, Bool, List, None, Option, Some, ap, arith, drop, false, get_or, if◌then◌else◌, length, length-drop, map, nat_eq, refl, sym, take, true}
use Rattle.std.specs.List.{HoldsAt, slice_get, slice_range}
use Rattle.std.specs.Option.{is_some, option_copied}
use Rattle.std.proofs.lemmas.List.{drop-append-le, drop_all, get_or-map, length-map, length-take-le, map_more, take_all, take_more, take_rest}
use Rattle.std.proofs.lemmas.Option.{slice_get-get_or, slice_get_past, slice_get_read}
use Rattle.std.proofs.lemmas.List.Sums.{fold_push}
use Rattle.idl_changes.specs.Listing.{name_of}
use Rattle.idl_repo.specs.declared.details.row_tree.RowTree.{RowTree}

-- a path with one byte more
pub name_of-more : (path : List ℕ) (byte : ℕ) → name_of (path ++ byte ∷ []) ≡ (if nat_eq byte 58 then [] else name_of path ++ byte ∷ [])
unfolding name_of
name_of-more path byte = fold_push (λ (name : List ℕ) (b : ℕ). if nat_eq b 58 then [] else name ++ b ∷ []) [] path byte

-- entries that are lent, with the next
pub take-next : (lent : List (Bor RowTree)) (i : ℕ) (next : Bor RowTree) → i < length lent → next ≡ get_or lent i next
    → map (λ (t : Bor RowTree). t.now) (take (i + 1) lent) ≡ map (λ (t : Bor RowTree). t.now) (take i lent) ++ next.now ∷ []
take-next lent i next within is =
    map_more (λ (t : Bor RowTree). t.now) lent i next within
    ∙ ap (λ (t : Bor RowTree). map (λ (u : Bor RowTree). u.now) (take i lent) ++ t.now ∷ []) (sym is)

-- an entry that is lent at a place
pub lent-within : (lent : List (Bor RowTree)) (i : ℕ) → i < length lent → i < length (map (λ (t : Bor RowTree). t.now) lent)
lent-within lent i within = let same = length-map lent (λ (t : Bor RowTree). t.now) in omega (arith, within, same)

pub lent-past : (lent : List (Bor RowTree)) (i : ℕ) → length lent ≤ i → length (map (λ (t : Bor RowTree). t.now) lent) ≤ i
lent-past lent i past = let same = length-map lent (λ (t : Bor RowTree). t.now) in omega (arith, past, same)

pub lent-read : (lent : List (Bor RowTree)) (i : ℕ) (t : Bor RowTree) → i < length lent → t ≡ get_or lent i t → t.now ≡ get_or (map (λ (u : Bor RowTree). u.now) lent) i t.now
lent-read lent i t within is = ap (λ (u : Bor RowTree). u.now) is ∙ sym (get_or-map (λ (u : Bor RowTree). u.now) lent i t t.now within)

pub lent-at : (lent : List (Bor RowTree)) (L : List RowTree) → map (λ (t : Bor RowTree). t.now) lent ≡ L → (i : ℕ) (t : Bor RowTree) → i < length lent → t ≡ get_or lent i t → slice_get L i ≡ Some t.now
lent-at lent L same i t within is =
    ap (λ (l : List RowTree). slice_get l i) (sym same)
    ∙ slice_get-get_or (map (λ (u : Bor RowTree). u.now) lent) i t.now (lent-within lent i within)
    ∙ ap Some (sym (lent-read lent i t within is))

-- where the name begins in a path, with one byte more
pub name-next : (path : List ℕ) (i start new byte : ℕ) → i < length path → byte ≡ get_or path i 0 → start ≤ i → drop start (take i path) ≡ name_of (take i path)
    → new ≡ (if nat_eq byte 58 then i + 1 else start) → (new ≤ i + 1) × (drop new (take (i + 1) path) ≡ name_of (take (i + 1) path))
name-next path i start new byte within is low so_far next = by (nat_eq byte 58) refl next
  where
    more : take (i + 1) path ≡ take i path ++ byte ∷ []
    more = take_more path i 0 within ∙ ap (λ (b : ℕ). take i path ++ b ∷ []) (sym is)

    name : (b : Bool) → nat_eq byte 58 ≡ b → name_of (take (i + 1) path) ≡ (if b then [] else name_of (take i path) ++ byte ∷ [])
    name b e = ap name_of more ∙ name_of-more (take i path) byte ∙ ap (λ (c : Bool). if c then [] else name_of (take i path) ++ byte ∷ []) e

    by : (b : Bool) → nat_eq byte 58 ≡ b → new ≡ (if b then i + 1 else start) → (new ≤ i + 1) × (drop new (take (i + 1) path) ≡ name_of (take (i + 1) path))
    by true e h =
        let few = length-take-le (i + 1) path in (
          omega (arith, h),
          drop_all new (take (i + 1) path) (omega (arith, h, few)) ∙ sym (name true e),
        )
    by false e h =
        let count = length-take-le i path in (
          omega (arith, h, low),
          ap (λ (k : ℕ). drop k (take (i + 1) path)) h
              ∙ ap (drop start) more
              ∙ drop-append-le start (take i path) (byte ∷ []) (omega (arith, low, within, count))
              ∙ ap (λ (bs : List ℕ). bs ++ byte ∷ []) so_far
              ∙ sym (name false e),
        )

pub name-end : (path : List ℕ) (i start : ℕ) → length path ≤ i → start ≤ length path → drop start (take i path) ≡ name_of (take i path)
    → (slice_range path start (length path) ≡ name_of path) × (start + length (name_of path) ≡ length path)
name-end path i start past within so_far =
    let all = take_all i path past in
    let name : drop start path ≡ name_of path = ap (drop start) (sym all) ∙ so_far ∙ ap name_of all in
    let left = length-drop start path in (
      take_rest path start ∙ name,
      omega (arith, within, left, ap length name),
    )

-- whether something is found that is lent
pub some-lent : {X : Type 0} (o : Option (Bor X)) → is_some (option_copied o) ≡ is_some o
some-lent None = refl
some-lent (Some x) = refl

-- what `get` finds
pub got-item : {X : Type 0} (xs : List X) (i : ℕ) (found : Option (Bor X)) → MatchOption found (length xs ≤ i) (λ x. (i < length xs) × HoldsAt (λ y. x.now ≡ y) xs i)
    → option_copied found ≡ slice_get xs i
got-item xs i None past = sym (slice_get_past xs i past)
got-item xs i (Some x) at = sym (slice_get_read xs (length xs) i x.now refl at.0 (at.1 x.now))
