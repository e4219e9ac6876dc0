-- Units with their names, where what they declare ends, and their names behind one another.
use Rattle.std.proofs.Common.{◌≡◌, ◌∙◌, ◌+◌, ◌≤◌, ℕ, zero, suc, Bool, true, false, List, [], ◌∷◌, ◌++◌, Option, None, Some, append_assoc, append-nil, drop, filter, flat_map, length, map, reverse, slice_get, refl, sym, ap, if◌then◌else◌}
use Rattle.std.specs.Map.{lookup}
use Rattle.std.specs.Option.{option_map, unwrap_or}
use Rattle.std.proofs.lemmas.List.{at_drop_all, length-map, map-append, reverse-append}
use Rattle.std.proofs.lemmas.List.Elements.{filter-append}
use Rattle.std.proofs.lemmas.Option.{same_Some, slice_get-map}
use Rattle.idl_entity.specs.Path.{path_eq, same_path}
use Rattle.idl_env.proofs.AnswerLaws.PlaceLemmas.{drop-at1}
use Rattle.idl_env.specs.Facts.{UnitFacts}
use Rattle.idl_env.specs.declared.additions.addition.Step.{Step}
use Rattle.idl_event.specs.declared.told.event.Event.{Event}
use Rattle.idl_root_blocks.specs.idl_check.walk.Verdict.{added}
use Rattle.idl_root.specs.Named.{AreNumbersIn, NamedUnit, closes, closings_from, closings_in, end_before, ends_of, named_after, named_at, opens}
use Rattle.idl_root.specs.NamePlaces.{AreNamesOf, AreNumbered, declared_in, declared_names, declared_until, is_at, numbers_at, used_in, used_names}
use Rattle.idl_root.specs.declared.compiling.places.PlacedName.{PlacedName}
use Rattle.idl_root.specs.declared.compiling.places.DeclaredPlace.{DeclaredPlace}
use Rattle.idl_root.specs.declared.compiling.places.RootNames.{RootNames}
use Rattle.idl_unit.specs.TokenRules.{first}
use Rattle.idl_unit.specs.declared.unit.Unit.{Unit as RootUnit}

-- units so far with one more, over facts with what that adds
pub named-more : (facts own after : List UnitFacts) (old new : List NamedUnit) (u : RootUnit) (units : List RootUnit)
    → own ≡ added facts u → after ≡ facts ++ own → new ≡ old ++ named_at facts u
    → new ++ named_after after units ≡ old ++ named_after facts (u ∷ units)
unfolding named_after
named-more facts own after old new u units is adds names =
    ap (λ l. l ++ named_after after units) names
    ∙ append_assoc old (named_at facts u) (named_after after units)
    ∙ ap (λ fs. old ++ (named_at facts u ++ named_after fs units)) (adds ∙ ap (λ a. facts ++ a) is)

pub named-end : (facts : List UnitFacts) (old : List NamedUnit) → old ++ named_after facts [] ≡ old
unfolding named_after
named-end facts old = append-nil old

-- ---- where what they declare ends

-- what is told of numbers is told of what they are of
module _ {X : Type 0} (all : List X) (step : Step) (i : ℕ) (x : X) (here : slice_get all i ≡ Some x) where
  end-numbered : (numbers : List ℕ) (items : List X) → AreNumbersIn all numbers items → slice_get all (end_before step i numbers) ≡ Some (end_before step x items)
  end-numbered numbers items are = by (opens step) numbers items are
    where
      by : (b : Bool) (numbers : List ℕ) (items : List X) → AreNumbersIn all numbers items
          → slice_get all (if b then unwrap_or (first numbers) i else i) ≡ Some (if b then unwrap_or (first items) x else x)
      by false numbers items are = here
      by true [] [] are = here
      by true [] (y ∷ items) are = absurd cc
      by true (n ∷ numbers) [] are = absurd cc
      by true (n ∷ numbers) (y ∷ items) are = let first_is : slice_get all n ≡ Some y = cc in first_is

  closings-numbered : (numbers : List ℕ) (items : List X) → AreNumbersIn all numbers items → AreNumbersIn all (closings_from step i numbers) (closings_from step x items)
  closings-numbered numbers items are = by (opens step) (closes step) numbers items are
    where
      by : (b c : Bool) (numbers : List ℕ) (items : List X) → AreNumbersIn all numbers items
          → AreNumbersIn all (if b then drop 1 numbers else if c then i ∷ numbers else numbers) (if b then drop 1 items else if c then x ∷ items else items)
      by true c [] [] are = refl
      by true c [] (y ∷ items) are = absurd cc
      by true c (n ∷ numbers) [] are = absurd cc
      by true c (n ∷ numbers) (y ∷ items) are = let rest : map (slice_get all) numbers ≡ map Some items = cc in rest
      by false true numbers items are = ap (λ o. o ∷ map (slice_get all) numbers) here ∙ ap (λ os. Some x ∷ os) are
      by false false numbers items are = are

-- one unit more, from the last on
module _ (all : List NamedUnit) (i : ℕ) (n : NamedUnit) (here : slice_get all i ≡ Some n) (closings : List ℕ) (closed : AreNumbersIn all closings (closings_in (drop (i + 1) all))) where
  pub closings-back : (new : List ℕ) → new ≡ closings_from n.step i closings → AreNumbersIn all new (closings_in (drop i all))
  closings-back new is =
      ap (map (slice_get all)) is
      ∙ closings-numbered all n.step i n here closings (closings_in (drop (i + 1) all)) closed
      ∙ ap (λ units. map Some (closings_in units)) (sym (drop-at1 all i n here))

  pub ends-back : (ends new : List ℕ) (e : ℕ) → AreNumbersIn all (reverse ends) (ends_of (drop (i + 1) all)) → e ≡ end_before n.step i closings → new ≡ ends ++ e ∷ []
      → AreNumbersIn all (reverse new) (ends_of (drop i all))
  ends-back ends new e are is more =
      ap (λ l. map (slice_get all) (reverse l)) more
      ∙ ap (map (slice_get all)) (reverse-append ends (e ∷ []))
      ∙ ap (λ k. slice_get all k ∷ map (slice_get all) (reverse ends)) is
      ∙ ap (λ o. o ∷ map (slice_get all) (reverse ends)) (end-numbered all n.step i n here closings (closings_in (drop (i + 1) all)) closed)
      ∙ ap (λ os. Some (end_before n.step n (closings_in (drop (i + 1) all))) ∷ os) are
      ∙ ap (λ units. map Some (ends_of units)) (sym (drop-at1 all i n here))

-- the names of units from one of these on
pub until-more : (events : List Event) (units ends : List NamedUnit) (i : ℕ) (n e : NamedUnit) (there next : List PlacedName)
    → slice_get units i ≡ Some n → slice_get ends i ≡ Some e → next ≡ there ++ declared_in events n e
    → next ++ declared_until events (drop (i + 1) units) (drop (i + 1) ends) ≡ there ++ declared_until events (drop i units) (drop i ends)
until-more events units ends i n e there next unit end is =
    let us = drop (i + 1) units in
    let es = drop (i + 1) ends in
    ap (λ l. l ++ declared_until events us es) is
    ∙ append_assoc there (declared_in events n e) (declared_until events us es)
    ∙ ap (λ l. there ++ declared_until events l (e ∷ es)) (sym (drop-at1 units i n unit))
    ∙ ap (λ l. there ++ declared_until events (drop i units) l) (sym (drop-at1 ends i e end))

-- what comes of the items from one of these on
pub items-more : {A B : Type 0} (f : A → List B) (items : List A) (i : ℕ) (x : A) (there next : List B)
    → slice_get items i ≡ Some x → next ≡ there ++ f x → next ++ flat_map f (drop (i + 1) items) ≡ there ++ flat_map f (drop i items)
items-more f items i x there next here is =
    ap (λ l. l ++ flat_map f (drop (i + 1) items)) is
    ∙ append_assoc there (f x) (flat_map f (drop (i + 1) items))
    ∙ ap (λ l. there ++ flat_map f l) (sym (drop-at1 items i x here))

-- ---- the numbers of names at their paths

-- what stands in a list stands in a longer one
get-grown : {A : Type 0} (xs more : List A) (i : ℕ) (x : A) → slice_get xs i ≡ Some x → slice_get (xs ++ more) i ≡ Some x
get-grown [] more i x is = absurd cc
get-grown (y ∷ xs) more zero x is = is
get-grown (y ∷ xs) more (suc i) x is = get-grown xs more i x is

all-grown : {A : Type 0} (xs more : List A) (is : List ℕ) (ys : List A) → map (slice_get xs) is ≡ map Some ys → map (slice_get (xs ++ more)) is ≡ map Some ys
all-grown xs more [] [] h = refl
all-grown xs more [] (y ∷ ys) h = absurd cc
all-grown xs more (i ∷ is) [] h = absurd cc
all-grown xs more (i ∷ is) (y ∷ ys) h =
    let first : slice_get xs i ≡ Some y = cc in
    let rest : map (slice_get xs) is ≡ map Some ys = cc in
    ap (λ o. o ∷ map (slice_get (xs ++ more)) is) (get-grown xs more i y first) ∙ ap (λ os. Some y ∷ os) (all-grown xs more is ys rest)

get-last : {A : Type 0} (xs : List A) (x : A) → slice_get (xs ++ x ∷ []) (length xs) ≡ Some x
get-last [] x = refl
get-last (y ∷ xs) x = get-last xs x

-- one name more has its number at its path
module _ (names : List PlacedName) (name : PlacedName) (old new : List (List (List ℕ) × List ℕ))
    (each : (k : List (List ℕ)) → lookup (path_eq k) new ≡ (if path_eq k name.path then Some (numbers_at old name.path ++ length names ∷ []) else lookup (path_eq k) old))
    (are : AreNumbered names old) where
  at-by : (k : List (List ℕ)) (one : Bool) → path_eq k name.path ≡ one → map (slice_get (names ++ name ∷ [])) (numbers_at new k) ≡ map Some (filter (is_at k) (names ++ name ∷ []))
  at-by k true is =
      let path : k ≡ name.path = same_path k name.path is in
      let found : numbers_at new k ≡ numbers_at old k ++ length names ∷ [] =
      ap (λ o. unwrap_or o []) (each k ∙ ap (λ (b : Bool). if b then Some (numbers_at old name.path ++ length names ∷ []) else lookup (path_eq k) old) is)
      ∙ ap (λ p. numbers_at old p ++ length names ∷ []) (sym path) in
      let own : filter (is_at k) (name ∷ []) ≡ name ∷ [] = ap (λ (b : Bool). if b then name ∷ [] else []) is in
      ap (map (slice_get (names ++ name ∷ []))) found
      ∙ map-append (slice_get (names ++ name ∷ [])) (numbers_at old k) (length names ∷ [])
      ∙ ap (λ l. l ++ slice_get (names ++ name ∷ []) (length names) ∷ []) (all-grown names (name ∷ []) (numbers_at old k) (filter (is_at k) names) (are k))
      ∙ ap (λ o. map Some (filter (is_at k) names) ++ o ∷ []) (get-last names name)
      ∙ sym (map-append Some (filter (is_at k) names) (name ∷ []))
      ∙ ap (map Some) (ap (λ l. filter (is_at k) names ++ l) (sym own) ∙ sym (filter-append (is_at k) names (name ∷ [])))
  at-by k false is =
      let found : numbers_at new k ≡ numbers_at old k =
      ap (λ o. unwrap_or o []) (each k ∙ ap (λ (b : Bool). if b then Some (numbers_at old name.path ++ length names ∷ []) else lookup (path_eq k) old) is) in
      let own : filter (is_at k) (name ∷ []) ≡ [] = ap (λ (b : Bool). if b then name ∷ [] else []) is in
      ap (map (slice_get (names ++ name ∷ []))) found
      ∙ all-grown names (name ∷ []) (numbers_at old k) (filter (is_at k) names) (are k)
      ∙ ap (map Some) (sym (append-nil (filter (is_at k) names)) ∙ ap (λ l. filter (is_at k) names ++ l) (sym own) ∙ sym (filter-append (is_at k) names (name ∷ [])))

  pub numbered-more : AreNumbered (names ++ name ∷ []) new
  numbered-more k = at-by k (path_eq k name.path) refl

-- the same, by a copy of its path
pub numbered-with : (names : List PlacedName) (name : PlacedName) (old new : List (List (List ℕ) × List ℕ)) (key : List (List ℕ)) (value : List ℕ)
    → key ≡ name.path → value ≡ numbers_at old name.path ++ length names ∷ []
    → ((k : List (List ℕ)) → lookup (path_eq k) new ≡ (if path_eq k key then Some value else lookup (path_eq k) old)) → AreNumbered names old
    → AreNumbered (names ++ name ∷ []) new
numbered-with names name old new key value same is each are =
    numbered-more names name old new
    (λ k. each k ∙ ap (λ p. if path_eq k p then Some value else lookup (path_eq k) old) same ∙ ap (λ v. if path_eq k name.path then Some v else lookup (path_eq k) old) is)
    are

-- one place more of those at a path
get-some : {A : Type 0} (ys : List A) (i : ℕ) (y : A) → slice_get (map Some ys) i ≡ Some (Some y) → slice_get ys i ≡ Some y
get-some [] i y h = absurd cc
get-some (x ∷ ys) zero y h = same_Some (Some x) (Some y) h
get-some (x ∷ ys) (suc i) y h = get-some ys i y h

pub get-mapped : {A B : Type 0} (f : A → B) (xs : List A) (i : ℕ) (x : A) → slice_get xs i ≡ Some x → slice_get (map f xs) i ≡ Some (f x)
get-mapped f [] i x h = absurd cc
get-mapped f (y ∷ xs) zero x h = ap (option_map f) h
get-mapped f (y ∷ xs) (suc i) x h = get-mapped f xs i x h

pub place-more : (names own : List PlacedName) (numbers : List ℕ) (i number : ℕ) (name : PlacedName) (there next : List DeclaredPlace)
    → map (slice_get names) numbers ≡ map Some own → slice_get numbers i ≡ Some number → slice_get names number ≡ Some name → next ≡ there ++ name.place ∷ []
    → next ++ map (λ n. n.place) (drop (i + 1) own) ≡ there ++ map (λ n. n.place) (drop i own)
place-more names own numbers i number name there next are here found is =
    let own_is : slice_get own i ≡ Some name =
    get-some own i name (sym (ap (λ l. slice_get l i) are) ∙ get-mapped (slice_get names) numbers i number here ∙ ap Some found) in
    ap (λ l. l ++ map (λ n. n.place) (drop (i + 1) own)) is
    ∙ append_assoc there (name.place ∷ []) (map (λ n. n.place) (drop (i + 1) own))
    ∙ ap (λ l. there ++ map (λ n. n.place) l) (sym (drop-at1 own i name own_is))

-- the item that one of some numbers is of
pub item-at : {X : Type 0} (all items : List X) (numbers : List ℕ) (i number : ℕ) → AreNumbersIn all numbers items → slice_get numbers i ≡ Some number
    → (x : X) × ((slice_get all number ≡ Some x) × (slice_get items i ≡ Some x))
item-at {X = X} all items numbers i number are here =
    by (slice_get items i) refl (sym (get-mapped (slice_get all) numbers i number here) ∙ ap (λ l. slice_get l i) are ∙ slice_get-map Some items i)
  where
    by : (found : Option X) → slice_get items i ≡ found → Some (slice_get all number) ≡ option_map Some found → (x : X) × ((slice_get all number ≡ Some x) × (slice_get items i ≡ Some x))
    by None is h = absurd cc
    by (Some x) is h = (x, (same_Some (slice_get all number) (Some x) h, is))

numbers-length : {X : Type 0} (all items : List X) (numbers : List ℕ) → AreNumbersIn all numbers items → length numbers ≡ length items
numbers-length all items numbers are = sym (length-map numbers (slice_get all)) ∙ ap length are ∙ length-map items Some

-- there are as many ends as units
ends-length : (units : List NamedUnit) → length (ends_of units) ≡ length units
ends-length [] = refl
ends-length (n ∷ units) = ap suc (ends-length units)

pub ends-count : (units : List NamedUnit) (numbers : List ℕ) → AreNumbersIn units numbers (ends_of units) → length numbers ≡ length units
ends-count units numbers are = numbers-length units (ends_of units) numbers are ∙ ends-length units

-- all names are those of units
pub names-done : (names : RootNames) (events : List Event) (units : List NamedUnit) (i : ℕ) → length units ≤ i
    → names.declared.items ++ declared_until events (drop i units) (drop i (ends_of units)) ≡ declared_until events units (ends_of units)
    → AreNumbered names.declared.items names.numbers
    → names.used.items ++ flat_map (used_in events) (drop i units) ≡ flat_map (used_in events) units
    → AreNamesOf names events units
unfolding declared_names used_names
names-done names events units i over declared numbers used = record {
  declared = sym (sym declared ∙ at_drop_all (λ us. names.declared.items ++ declared_until events us (drop i (ends_of units))) units i over ∙ append-nil names.declared.items);
  numbers = numbers;
  used = sym (sym used ∙ at_drop_all (λ us. names.used.items ++ flat_map (used_in events) us) units i over ∙ append-nil names.used.items);
}
