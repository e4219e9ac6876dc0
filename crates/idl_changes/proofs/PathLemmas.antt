-- How it is found out which entries belong together.
use Rattle.std.proofs.Common.{◌≡◌, ◌∙◌, ◌&&◌, ℕ, Bool, List, None, Option, Some, ap, ap₂, false, filter, if◌then◌else◌, is_none, length, nat_eq, sym, take, true, refl}
use Rattle.std.specs.List.{slice_get}
use Rattle.std.specs.Option.{option_and_then, option_eq, option_map, option_map_or, option_or}
use Rattle.idl_changes.specs.Listing.{by_id, has_id, is_called, place_of, places_where}
use Rattle.idl_changes.specs.Partners.{by_path, is_left, is_of_kind, joined}
use Rattle.idl_changes.specs.Tables.{each}
use Rattle.idl_changes.proofs.JoinedLemmas.{uncalled-joined}
use Rattle.idl_changes.proofs.TableLemmas.{slice_get-each}
use Rattle.idl_repo.specs.declared.details.row_tree.RowTree.{RowTree}

module _ (old new : List RowTree) (i : ℕ) where
  -- what is found by paths of the entry at a place
  abbrev pub by_path_at : Option ℕ
  by_path_at = option_and_then (λ (e : RowTree). if is_called e then None else by_path old new i e) (slice_get old i)

  pub path-called : (e : RowTree) → slice_get old i ≡ Some e → is_called e ≡ true → by_path_at ≡ None
  path-called e at called =
      ap (option_and_then (λ (f : RowTree). if is_called f then None else by_path old new i f)) at
      ∙ ap (λ (b : Bool). if b then None else by_path old new i e) called

  pub path-own : (e : RowTree) → slice_get old i ≡ Some e → is_called e ≡ false → by_path_at ≡ by_path old new i e
  path-own e at own =
      ap (option_and_then (λ (f : RowTree). if is_called f then None else by_path old new i f)) at
      ∙ ap (λ (b : Bool). if b then None else by_path old new i e) own

  pub path-none : (e : RowTree) → place_of new e.path ≡ None → by_path old new i e ≡ None
  unfolding by_path
  path-none e none =
      ap (option_and_then (λ (k : ℕ). if (option_eq nat_eq (place_of old e.path) (Some i) && is_of_kind new k e) && is_left new old k then Some k else None)) none

  left-there : (k : ℕ) (back : List (Option ℕ)) → back ≡ each (by_id new old) new → option_map_or (λ (found : Option ℕ). is_none found) (slice_get back k) false ≡ is_left new old k
  left-there k back are =
      ap (λ (bs : List (Option ℕ)). option_map_or (λ (found : Option ℕ). is_none found) (slice_get bs k) false) are
      ∙ ap (λ (o : Option (Option ℕ)). option_map_or (λ (found : Option ℕ). is_none found) o false) (slice_get-each (by_id new old) new k)
      ∙ by (slice_get new k)
    where
      by : (entry : Option RowTree)
          → option_map_or (λ (found : Option ℕ). is_none found) (option_map (by_id new old k) entry) false ≡ option_map_or (λ (f : RowTree). is_none (by_id new old k f)) entry false
      by None = refl
      by (Some f) = refl

  pub path-tested : (e : RowTree) (k : ℕ) (back : List (Option ℕ)) → back ≡ each (by_id new old) new → place_of new e.path ≡ Some k → (b : Bool)
      → b ≡ ((option_eq nat_eq (place_of old e.path) (Some i) && is_of_kind new k e) && option_map_or (λ (found : Option ℕ). is_none found) (slice_get back k) false)
      → by_path old new i e ≡ (if b then Some k else None)
  unfolding by_path
  path-tested e k back are there b is =
      ap (option_and_then (λ (n : ℕ). if (option_eq nat_eq (place_of old e.path) (Some i) && is_of_kind new n e) && is_left new old n then Some n else None)) there
      ∙ ap (λ (c : Bool). if (option_eq nat_eq (place_of old e.path) (Some i) && is_of_kind new k e) && c then Some k else None) (sym (left-there k back are))
      ∙ ap (λ (c : Bool). if c then Some k else None) (sym is)

  -- the entry at a place belongs to what is found by ids, or else by paths
  joined-called : (e : RowTree) → slice_get old i ≡ Some e → is_called e ≡ true → joined old new i ≡ None
  unfolding joined
  joined-called e at called =
      ap (option_and_then (λ (f : RowTree). if is_called f then None else option_or (by_id old new i f) (by_path old new i f))) at
      ∙ ap (λ (b : Bool). if b then None else option_or (by_id old new i e) (by_path old new i e)) called

  called-by_id : (e : RowTree) → is_called e ≡ true → by_id old new i e ≡ None
  unfolding by_id
  called-by_id e called = ap (λ (b : Bool). if b then None else slice_get (places_where (has_id e.id) new) (length (filter (has_id e.id) (take i old)))) called

  pub joined-by : (e : RowTree) (found : Option ℕ) → slice_get old i ≡ Some e → found ≡ by_id old new i e → option_or found by_path_at ≡ joined old new i
  joined-by e found at is = by (is_called e) refl
    where
      by : (b : Bool) → is_called e ≡ b → option_or found by_path_at ≡ joined old new i
      by true called =
          ap₂ (λ (a b : Option ℕ). option_or a b) (is ∙ called-by_id e called) (path-called e at called) ∙ sym (joined-called e at called)
      by false own = ap₂ (λ (a b : Option ℕ). option_or a b) is (path-own e at own) ∙ sym (uncalled-joined old new i e at own)
