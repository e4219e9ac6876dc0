-- Which items of two lists with names belong together.
use Rattle.std.specs.Prelude.{ℕ, ◌+◌, Bool, true, List, [], ◌∷◌, ◌&&◌, Option, None, Some, length, map, nat_eq, nat_lt, not, position, slice_get, if◌then◌else◌}
use Rattle.std.specs.List.{enumerate_from, list_any}
use Rattle.std.specs.Option.{option_eq, option_or}
use Rattle.std.specs.Str.{bytes_eq}

-- an item that is renamed in place: both lists are as long, and the name that stands there now is
-- none of the old ones
abbrev pub renamed : (old new : List (List ℕ)) → ℕ → Option ℕ
renamed old new i =
    if nat_eq (length old) (length new)
    && not (list_any (λ name. option_eq bytes_eq (slice_get new i) (Some name)) old)
    then Some i
    else None

-- the item to which one with a name belongs: the one at its place, if that has the name, or else
-- the first of the name, or else the one at its place where it is renamed
unfoldable pub matched : (old new : List (List ℕ)) → ℕ → List ℕ → Option ℕ
matched old new i name =
    if option_eq bytes_eq (slice_get new i) (Some name)
    then Some i
    else option_or (position (bytes_eq name) new) (renamed old new i)

-- those to which all of them belong, in order
unfoldable pub matches : (old new : List (List ℕ)) → List (Option ℕ)
matches old new = map (λ p. matched old new p.0 p.1) (enumerate_from 0 old)

-- whether one of the old items belongs to the new one at a place
unfoldable pub is_matched : List (Option ℕ) → ℕ → Bool
is_matched found k = list_any (λ place. option_eq nat_eq place (Some k)) found

-- whether those that belong to one stand in the same order: each behind this many, and behind those
-- before it
abbrev pub in_order_from : ℕ → List (Option ℕ) → Bool
in_order_from n [] = true
in_order_from n (None ∷ found) = in_order_from n found
in_order_from n (Some k ∷ found) = not (nat_lt k n) && in_order_from (k + 1) found

unfoldable pub in_order : List (Option ℕ) → Bool
in_order found = in_order_from 0 found
