-- Where an entry belongs to another one, that belongs to it.
use Rattle.std.proofs.Common.{◌≡◌, ◌∙◌, ◌+◌, ◌&&◌, ℕ, Bool, List, None, Option, Some, ap, ap₂, arith, false, filter, if◌then◌else◌, is_none, length, nat_eq, not, refl, subst, sym, take, true}
use Rattle.std.specs.Cmp.{nat_eq_equiv}
use Rattle.std.specs.Cmp.Lexicographic.{bytes_decides}
use Rattle.std.specs.List.{slice_get}
use Rattle.std.specs.Option.{option_and_then, option_eq, option_map_or, option_or}
use Rattle.std.specs.Str.{bytes_eq}
use Rattle.std.proofs.lemmas.Option.{same_Some}
use Rattle.idl_base.specs.Exact.{both, same_number, same_option}
use Rattle.idl_changes.specs.Listing.{by_id, has_id, is_called, place_of, places_where}
use Rattle.idl_changes.specs.Partners.{by_path, is_left, is_of_kind, joined}
use Rattle.idl_changes.proofs.EntryLemmas.{not-true, own-place, place-found}
use Rattle.idl_changes.proofs.HasLemmas.{passing-place}
use Rattle.idl_entity.specs.Kind.{kind_eq, kind_number, same_kind}
use Rattle.idl_repo.specs.declared.details.row_tree.RowTree.{RowTree}

-- one listing beside another, with an entry of the first at its place
module _ (old new : List RowTree) (i : ℕ) (e : RowTree) (at : slice_get old i ≡ Some e) (other : is_called e ≡ false) where
  pub uncalled-joined : joined old new i ≡ option_or (by_id old new i e) (by_path old new i e)
  unfolding joined
  uncalled-joined =
      ap (option_and_then (λ (f : RowTree). if is_called f then None else option_or (by_id old new i f) (by_path old new i f))) at
      ∙ ap (λ (b : Bool). if b then None else option_or (by_id old new i e) (by_path old new i e)) other

  pub uncalled-by_id : by_id old new i e ≡ slice_get (places_where (has_id e.id) new) (length (filter (has_id e.id) (take i old)))
  unfolding by_id
  uncalled-by_id = ap (λ (b : Bool). if b then None else slice_get (places_where (has_id e.id) new) (length (filter (has_id e.id) (take i old)))) other

-- what is joined isn't called, nor is what it is joined with
pub joined-from : (old new : List RowTree) (i k : ℕ) → joined old new i ≡ Some k → (e : RowTree) × (slice_get old i ≡ Some e) × (is_called e ≡ false)
unfolding joined
joined-from old new i k is = by (slice_get old i) refl is
  where
    test : (e : RowTree) (b : Bool) → is_called e ≡ b → slice_get old i ≡ Some e
        → (if b then None else option_or (by_id old new i e) (by_path old new i e)) ≡ Some k → (f : RowTree) × (slice_get old i ≡ Some f) × (is_called f ≡ false)
    test e true c at h = cc
    test e false c at h = (e, at, c)

    by : (entry : Option RowTree) → slice_get old i ≡ entry
        → option_and_then (λ (f : RowTree). if is_called f then None else option_or (by_id old new i f) (by_path old new i f)) entry ≡ Some k
        → (f : RowTree) × (slice_get old i ≡ Some f) × (is_called f ≡ false)
    by None at h = cc
    by (Some e) at h = test e (is_called e) refl at h

-- by ids
pub by_id-back : (old new : List RowTree) (i k : ℕ) (e : RowTree) → slice_get old i ≡ Some e → is_called e ≡ false → by_id old new i e ≡ Some k
    → (f : RowTree) × (slice_get new k ≡ Some f) × (is_called f ≡ false) × (f.id ≡ e.id) × (by_id new old k f ≡ Some i)
by_id-back old new i k e at other is =
    let found = passing-place (has_id e.id) 0 new (length (filter (has_id e.id) (take i old))) k (sym (uncalled-by_id old new i e at other) ∙ is) in
    let f = found.1 in
    let place : k ≡ found.0 = omega (arith, found.2) in
    let parts = both (not (is_called f)) (bytes_eq e.id f.id) found.4 in
    let uncalled = not-true (is_called f) parts.0 in
    let id : e.id ≡ f.id = (bytes_decides e.id f.id).0 parts.1 in
    let there : slice_get new k ≡ Some f = ap (slice_get new) place ∙ found.3 in
    let own : has_id e.id e ≡ true = ap₂ (λ (a b : Bool). not a && b) other ((bytes_decides e.id e.id).1 refl) in
    let from-zero : 0 + i ≡ i = omega arith in
    let count : length (filter (has_id f.id) (take k new)) ≡ length (filter (has_id e.id) (take i old)) =
    ap₂ (λ (d : List ℕ) (j : ℕ). length (filter (has_id d) (take j new))) (sym id) place ∙ sym found.5
    in
    let back : by_id new old k f ≡ Some i =
    uncalled-by_id new old k f there uncalled
    ∙ ap₂ (λ (d : List ℕ) (m : ℕ). slice_get (places_where (has_id d) old) m) (sym id) count
    ∙ own-place (has_id e.id) 0 i old e at own ∙ ap Some from-zero
    in
    (f, there, uncalled, sym id, back)

-- by paths
kind-back : (e f : RowTree) → kind_eq e.kind f.kind ≡ true → kind_eq f.kind e.kind ≡ true
kind-back e f is = ap₂ (λ (a b : ℕ). nat_eq a b) (sym (ap kind_number (same_kind e.kind f.kind is))) (ap kind_number (same_kind e.kind f.kind is)) ∙ is

-- what the parts of the rule by paths say
pub by_path-says : (old new : List RowTree) (i k : ℕ) (e : RowTree) → by_path old new i e ≡ Some k
    → (place_of new e.path ≡ Some k) × (place_of old e.path ≡ Some i) × (is_of_kind new k e ≡ true) × (is_left new old k ≡ true)
unfolding by_path
by_path-says old new i k e is = by (place_of new e.path) refl is
  where
    test : (n : ℕ) (b : Bool) → ((option_eq nat_eq (place_of old e.path) (Some i) && is_of_kind new n e) && is_left new old n) ≡ b → place_of new e.path ≡ Some n
        → (if b then Some n else None) ≡ Some k
        → (place_of new e.path ≡ Some k) × (place_of old e.path ≡ Some i) × (is_of_kind new k e ≡ true) × (is_left new old k ≡ true)
    test n false c at h = cc
    test n true c at h =
        let same = same_Some n k h in
        let outer = both (option_eq nat_eq (place_of old e.path) (Some i) && is_of_kind new n e) (is_left new old n) c in
        let inner = both (option_eq nat_eq (place_of old e.path) (Some i)) (is_of_kind new n e) outer.0 in
        (at ∙ ap Some same, same_option nat_eq same_number (place_of old e.path) (Some i) inner.0, subst (λ (m : ℕ). is_of_kind new m e ≡ true) same inner.1, subst (λ (m : ℕ). is_left new old m ≡ true) same outer.1)

    by : (place : Option ℕ) → place_of new e.path ≡ place
        → option_and_then (λ (n : ℕ). if (option_eq nat_eq (place_of old e.path) (Some i) && is_of_kind new n e) && is_left new old n then Some n else None) place ≡ Some k
        → (place_of new e.path ≡ Some k) × (place_of old e.path ≡ Some i) × (is_of_kind new k e ≡ true) × (is_left new old k ≡ true)
    by None at h = cc
    by (Some n) at h = test n ((option_eq nat_eq (place_of old e.path) (Some i) && is_of_kind new n e) && is_left new old n) refl at h

by_path-is : (old new : List RowTree) (i k : ℕ) (e : RowTree)
    → place_of new e.path ≡ Some k → place_of old e.path ≡ Some i → is_of_kind new k e ≡ true → is_left new old k ≡ true → by_path old new i e ≡ Some k
unfolding by_path
by_path-is old new i k e there here kind left =
    let first : option_eq nat_eq (place_of old e.path) (Some i) ≡ true = ap (λ (o : Option ℕ). option_eq nat_eq o (Some i)) here ∙ nat_eq_equiv.refl i in
    ap (option_and_then (λ (n : ℕ). if (option_eq nat_eq (place_of old e.path) (Some i) && is_of_kind new n e) && is_left new old n then Some n else None)) there
    ∙ ap (λ (b : Bool). if b then Some k else None) (ap₂ (λ (a b : Bool). a && b) (ap₂ (λ (a b : Bool). a && b) first kind) left)

none-of : (o : Option ℕ) → is_none o ≡ true → o ≡ None
none-of None is = refl
none-of (Some n) is = cc

pub by_path-back : (old new : List RowTree) (i k : ℕ) (e : RowTree) → slice_get old i ≡ Some e → is_called e ≡ false → by_id old new i e ≡ None → by_path old new i e ≡ Some k
    → (f : RowTree) × (slice_get new k ≡ Some f) × (is_called f ≡ false) × (by_id new old k f ≡ None) × (by_path new old k f ≡ Some i)
by_path-back old new i k e at other none is =
    let says = by_path-says old new i k e is in
    let found = place-found new e.path k says.0 in
    let f = found.0 in
    let there = found.1 in
    let path : e.path ≡ f.path = found.3 in
    let kind : kind_eq e.kind f.kind ≡ true = sym (ap (λ (o : Option RowTree). option_map_or (λ (g : RowTree). kind_eq e.kind g.kind) o false) there) ∙ says.2 in
    let lone : by_id new old k f ≡ None = none-of (by_id new old k f) (sym (ap (λ (o : Option RowTree). option_map_or (λ (g : RowTree). is_none (by_id new old k g)) o false) there) ∙ says.3) in
    let kind-of : is_of_kind old i f ≡ true = ap (λ (o : Option RowTree). option_map_or (λ (g : RowTree). kind_eq f.kind g.kind) o false) at ∙ kind-back e f kind in
    let left : is_left old new i ≡ true =
    ap (λ (o : Option RowTree). option_map_or (λ (g : RowTree). is_none (by_id old new i g)) o false) at ∙ ap is_none none
    in
    let back = by_path-is new old k i f (ap (place_of old) (sym path) ∙ says.1) (ap (place_of new) (sym path) ∙ says.0) kind-of left in
    (f, there, found.2, lone, back)

pub joined-back : (old new : List RowTree) (i k : ℕ) → joined old new i ≡ Some k
    → (f : RowTree) × (slice_get new k ≡ Some f) × (is_called f ≡ false) × (joined new old k ≡ Some i)
joined-back old new i k is =
    let own = joined-from old new i k is in
    by own.0 own.1 own.2 (by_id old new i own.0) refl (sym (uncalled-joined old new i own.0 own.1 own.2) ∙ is)
  where
    by : (e : RowTree) → slice_get old i ≡ Some e → is_called e ≡ false → (found : Option ℕ) → by_id old new i e ≡ found
        → option_or (by_id old new i e) (by_path old new i e) ≡ Some k
        → (f : RowTree) × (slice_get new k ≡ Some f) × (is_called f ≡ false) × (joined new old k ≡ Some i)
    by e at other None none h =
        let path : by_path old new i e ≡ Some k = sym (ap (λ (o : Option ℕ). option_or o (by_path old new i e)) none) ∙ h in
        let back = by_path-back old new i k e at other none path in
        (back.0, back.1, back.2, uncalled-joined new old k back.0 back.1 back.2 ∙ ap₂ (λ (a b : Option ℕ). option_or a b) back.3 back.4)
    by e at other (Some m) some h =
        let same : m ≡ k = same_Some m k (sym (ap (λ (o : Option ℕ). option_or o (by_path old new i e)) some) ∙ h) in
        let back = by_id-back old new i k e at other (some ∙ ap Some same) in
        (back.0, back.1, back.2, uncalled-joined new old k back.0 back.1 back.2 ∙ ap (λ (o : Option ℕ). option_or o (by_path new old k back.0)) back.4)
