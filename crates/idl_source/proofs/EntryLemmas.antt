-- The entries of files: what a search among them answers, and what stands in them after an edit.
use Rattle.std.proofs.Common.{◌≡◌, ℕ, zero, suc, set, List, [], ◌∷◌, map, length, Result, Ok, Err, IfOk, IfErr, IsTrue, T, refl, sym, ap, subst, ◌∙◌}
use Rattle.std.specs.Global.{Global}
use Rattle.std.specs.List.{AllZip, insert, remove}
use Rattle.std.specs.List.Sorted.{IsSearchInRange, IsBinarySearchResult}
use Rattle.std.specs.Ordering.{nat_cmp}
use Rattle.std.specs.Cmp.Lexicographic.{slice_cmp, nat_list_cmp_total}
use Rattle.std.specs.FinMap.{slice_cmp-IsAntisymmetric, nat_cmp-IsAntisymmetric, is_sorted, put}
use Rattle.std.specs.declared.rc.Rc.{Rc}
use Rattle.idl_source.specs.declared.texts.entries.NamedFile.{NamedFile}
use Rattle.idl_source.specs.texts.Entries.{entry_of, entries_of, IsAt, IsGapFor}
use Rattle.std.proofs.lemmas.List.{map-set}
use Rattle.idl_source.proofs.Ordered.{comparisons_rise, put_found, put_gap}

pub holds : (b : _) → IsTrue b → T b
holds b h = subst T (sym h) tt

-- a binary search by name ends at the name, or at the gap for it
pub searched : (entries : List (Rc NamedFile Global)) (name : List ℕ) (r : Result ℕ ℕ) → IsTrue (is_sorted (slice_cmp nat_cmp) (entries_of entries))
    → IsSearchInRange r (length entries) → IsBinarySearchResult (λ entry. slice_cmp nat_cmp entry.value.name name) entries r
    → IfOk r (IsAt entries name) × IfErr r (IsGapFor entries name)
searched entries name (Ok i) sorted range equal =
    (record { in_range = range; has_name = λ d. slice_cmp-IsAntisymmetric nat_cmp-IsAntisymmetric _ _ (equal d) }, tt)
searched entries name (Err i) sorted range parted =
    let sides = parted (comparisons_rise (slice_cmp nat_cmp) nat_list_cmp_total (λ (e : Rc NamedFile Global). e.value.name) (λ (e : Rc NamedFile Global). e.value.file) entries name (holds _ sorted)) in
    (tt, record { in_range = range; lower_before = sides.0; higher_after = sides.1 })

-- clones of the pointers are the same entries
pub entries_of-clones : (entries clones : List (Rc NamedFile Global)) → AllZip (λ (e : Rc NamedFile Global) (f : Rc NamedFile Global). f.value ≡ e.value) entries clones → entries_of clones ≡ entries_of entries
entries_of-clones [] [] h = refl
entries_of-clones [] (f ∷ fs) h = absurd h
entries_of-clones (e ∷ es) [] h = absurd h
entries_of-clones (e ∷ es) (f ∷ fs) h =
    let here : entry_of f ≡ entry_of e = ap (λ (x : NamedFile). (x.name, x.file)) h.0 in
    λ i. here i ∷ entries_of-clones es fs h.1 i

-- an entry in place of that of its name
pub entries_of-set : (entries clones : List (Rc NamedFile Global)) (entry : Rc NamedFile Global) (i : ℕ) → entries_of clones ≡ entries_of entries → IsTrue (is_sorted (slice_cmp nat_cmp) (entries_of entries))
    → IsAt entries entry.value.name i → entries_of (set clones i entry) ≡ put (slice_cmp nat_cmp) entry.value.name entry.value.file (entries_of entries)
entries_of-set entries clones entry i same sorted at =
    map-set entry_of clones i entry
    ∙ ap (λ (es : List (List ℕ × List (List ℕ))). set es i (entry_of entry)) same
    ∙ sym (put_found (slice_cmp nat_cmp) nat_list_cmp_total (λ (e : Rc NamedFile Global). e.value.name) (λ (e : Rc NamedFile Global). e.value.file) entries entry.value.name entry.value.file i entry at.in_range (at.has_name entry) (holds _ sorted))

-- a function of each element passes an insert
pub map-insert : {X Y : Type 0} (f : X → Y) (xs : List X) (i : ℕ) (x : X) → map f (insert xs i x) ≡ insert (map f xs) i (f x)
map-insert f xs zero x = refl
map-insert f [] (suc i) x = refl
map-insert f (y ∷ ys) (suc i) x = ap (λ l. f y ∷ l) (map-insert f ys i x)

-- a new entry in the gap for its name
pub entries_of-insert : (entries clones : List (Rc NamedFile Global)) (entry : Rc NamedFile Global) (i : ℕ) → entries_of clones ≡ entries_of entries
    → IsGapFor entries entry.value.name i → entries_of (insert clones i entry) ≡ put (slice_cmp nat_cmp) entry.value.name entry.value.file (entries_of entries)
entries_of-insert entries clones entry i same gap =
    map-insert entry_of clones i entry
    ∙ ap (λ (es : List (List ℕ × List (List ℕ))). insert es i (entry_of entry)) same
    ∙ sym (put_gap (slice_cmp nat_cmp) nat_list_cmp_total (λ (e : Rc NamedFile Global). e.value.name) (λ (e : Rc NamedFile Global). e.value.file) entries entry.value.name entry.value.file i gap.in_range gap.lower_before gap.higher_after)

-- a function of each element passes a removal
pub map-remove : {X Y : Type 0} (f : X → Y) (xs : List X) (i : ℕ) → map f (remove xs i) ≡ remove (map f xs) i
map-remove f [] zero = refl
map-remove f [] (suc i) = refl
map-remove f (x ∷ xs) zero = refl
map-remove f (x ∷ xs) (suc i) = ap (λ l. f x ∷ l) (map-remove f xs i)

-- the entries without one
pub entries_of-remove : (entries clones : List (Rc NamedFile Global)) (i : ℕ) → entries_of clones ≡ entries_of entries → entries_of (remove clones i) ≡ remove (entries_of entries) i
entries_of-remove entries clones i same = map-remove entry_of clones i ∙ ap (λ (es : List (List ℕ × List (List ℕ))). remove es i) same
