-- Entries by their places: what leads to one, and that each belongs to itself.
use Rattle.std.proofs.Common.{◌≡◌, ◌∙◌, ◌+◌, ◌++◌, ◌∷◌, ◌&&◌, [], ℕ, zero, suc, Bool, List, None, Option, Some, ap, ap₂, arith, cond, false, filter, flat_map, get_or, if◌then◌else◌, length, map, not, refl, sym, take, true}
use Rattle.std.specs.Cmp.Lexicographic.{bytes_decides}
use Rattle.std.specs.List.{enumerate_from, slice_get}
use Rattle.std.specs.Option.{option_and_then, option_map_or, option_or}
use Rattle.std.specs.Str.{bytes_eq}
use Rattle.std.proofs.lemmas.List.Quantifiers.{position-Some}
use Rattle.std.proofs.lemmas.Option.{same_Some, slice_get-get_or}
use Rattle.idl_base.specs.Exact.{both}
use Rattle.idl_changes.specs.Listing.{by_id, has_id, interface_at, is_called, is_called_kind, is_interface, place_of, places_where}
use Rattle.idl_changes.specs.Partners.{by_path, joined}
use Rattle.idl_entity.specs.Kind.{same_kind}
use Rattle.idl_entity.specs.declared.kind.Kind.TheVariants as kind
use Rattle.idl_repo.specs.declared.details.row_tree.RowTree.{RowTree}

pub not-true : (b : Bool) → not b ≡ true → b ≡ false
not-true false h = refl
not-true true h = cc

-- nothing is told of items, where nothing is of each at its place
pub none-told : {X Y : Type 0} (f : ℕ → X → List Y) (n : ℕ) (xs : List X) → ((i m : ℕ) (x : X) → m ≡ n + i → slice_get xs i ≡ Some x → f m x ≡ [])
    → flat_map (λ (p : ℕ × X). f p.0 p.1) (enumerate_from n xs) ≡ []
none-told f n [] each = refl
none-told {X} {Y} f n (x ∷ xs) each =
    let here : n ≡ n + 0 = omega arith in
    let rest : (i m : ℕ) (y : X) → m ≡ n + 1 + i → slice_get xs i ≡ Some y → f m y ≡ [] = λ i m y is at. (let next : m ≡ n + suc i = omega (arith, is) in each (suc i) m y next at) in
    ap₂ (λ (a b : List Y). a ++ b) (each 0 n x here refl) (none-told f (n + 1) xs rest)

-- ---- what leads to an entry

pub place-found : (L : List RowTree) (path : List ℕ) (i : ℕ) → place_of L path ≡ Some i
    → (e : RowTree) × (slice_get L i ≡ Some e) × (is_called e ≡ false) × (path ≡ e.path)
unfolding place_of
place-found [] path i is = cc
place-found (x ∷ xs) path i is =
    let at = position-Some (λ (e : RowTree). not (is_called e) && bytes_eq path e.path) (x ∷ xs) i x is in
    let e = get_or (x ∷ xs) i x in
    let parts = both (not (is_called e)) (bytes_eq path e.path) at.1 in
    (e, slice_get-get_or (x ∷ xs) i x at.0, not-true (is_called e) parts.0, (bytes_decides path e.path).0 parts.1)

pub interface-found : (L : List RowTree) (path : List ℕ) (i : ℕ) → interface_at L path ≡ Some i
    → (e : RowTree) × (slice_get L i ≡ Some e) × (is_interface e ≡ true)
unfolding interface_at
interface-found L path i is = by (place_of L path) is
  where
    test : (n : ℕ) (f : RowTree) (b : Bool) → is_interface f ≡ b → slice_get L n ≡ Some f → (if b then Some n else None) ≡ Some i
        → (e : RowTree) × (slice_get L i ≡ Some e) × (is_interface e ≡ true)
    test n f true e at h = (f, ap (slice_get L) (sym (same_Some n i h)) ∙ at, e)
    test n f false e at h = cc

    found : (n : ℕ) (entry : Option RowTree) → slice_get L n ≡ entry → (if option_map_or is_interface entry false then Some n else None) ≡ Some i
        → (e : RowTree) × (slice_get L i ≡ Some e) × (is_interface e ≡ true)
    found n None at h = cc
    found n (Some f) at h = test n f (is_interface f) refl at h

    by : (place : Option ℕ) → option_and_then (λ (n : ℕ). if option_map_or is_interface (slice_get L n) false then Some n else None) place ≡ Some i
        → (e : RowTree) × (slice_get L i ≡ Some e) × (is_interface e ≡ true)
    by None h = cc
    by (Some n) h = found n (slice_get L n) refl h

pub interface-uncalled : (e : RowTree) → is_interface e ≡ true → is_called e ≡ false
interface-uncalled e is = ap is_called_kind (same_kind e.kind kind.Interface is)

-- ---- each belongs to itself

-- the place of one that passes a test, among those that do
pub own-place : {X : Type 0} (test : X → Bool) (n i : ℕ) (xs : List X) (x : X) → slice_get xs i ≡ Some x → test x ≡ true
    → slice_get (map (λ (p : ℕ × X). p.0) (filter (λ (p : ℕ × X). test p.1) (enumerate_from n xs))) (length (filter test (take i xs))) ≡ Some (n + i)
own-place test n i [] x at is = cc
own-place {X} test n zero (y ∷ ys) x at is = by (test y) (ap test (same_Some y x at) ∙ is)
  where
    by : (b : Bool) → b ≡ true
        → slice_get (map (λ (p : ℕ × X). p.0) (cond b ((n, y) ∷ filter (λ (p : ℕ × X). test p.1) (enumerate_from (n + 1) ys)) (filter (λ (p : ℕ × X). test p.1) (enumerate_from (n + 1) ys)))) 0
        ≡ Some (n + 0)
    by true h = let e : n ≡ n + 0 = omega arith in ap Some e
    by false h = cc
own-place {X} test n (suc i) (y ∷ ys) x at is =
    let e : n + 1 + i ≡ n + suc i = omega arith in
    by (test y) (own-place test (n + 1) i ys x at is ∙ ap Some e)
  where
    by : (b : Bool)
        → slice_get (map (λ (p : ℕ × X). p.0) (filter (λ (p : ℕ × X). test p.1) (enumerate_from (n + 1) ys))) (length (filter test (take i ys))) ≡ Some (n + suc i)
        → slice_get (map (λ (p : ℕ × X). p.0) (cond b ((n, y) ∷ filter (λ (p : ℕ × X). test p.1) (enumerate_from (n + 1) ys)) (filter (λ (p : ℕ × X). test p.1) (enumerate_from (n + 1) ys))))
        (length (cond b (y ∷ filter test (take i ys)) (filter test (take i ys)))) ≡ Some (n + suc i)
    by true h = h
    by false h = h

pub own-by_id : (L : List RowTree) (i : ℕ) (e : RowTree) → slice_get L i ≡ Some e → is_called e ≡ false → by_id L L i e ≡ Some i
unfolding by_id
own-by_id L i e at other =
    let has : has_id e.id e ≡ true = ap₂ (λ (a b : Bool). not a && b) other ((bytes_decides e.id e.id).1 refl) in
    let there : 0 + i ≡ i = omega arith in
    ap (λ (b : Bool). if b then None else slice_get (places_where (has_id e.id) L) (length (filter (has_id e.id) (take i L)))) other
    ∙ own-place (has_id e.id) 0 i L e at has ∙ ap Some there

pub own-joined : (L : List RowTree) (i : ℕ) (e : RowTree) → slice_get L i ≡ Some e → is_called e ≡ false → joined L L i ≡ Some i
unfolding joined
own-joined L i e at other =
    ap (option_and_then (λ (f : RowTree). if is_called f then None else option_or (by_id L L i f) (by_path L L i f))) at
    ∙ ap (λ (b : Bool). if b then None else option_or (by_id L L i e) (by_path L L i e)) other
    ∙ ap (λ (o : Option ℕ). option_or o (by_path L L i e)) (own-by_id L i e at other)
