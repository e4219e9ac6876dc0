-- The files as a finite map: what entries in the order of their names are a map of.
use Rattle.std.proofs.Common.{◌≡◌, ◌≤◌, ◌+◌, ◌-◌, ◌++◌, ◌||◌, ℕ, Bool, not, ltb, List, [], ◌∷◌, length, take, drop, true, IsTrue, Option, Some, None, is_none, Ok, Err, cond, get_or, T, false, refl, sym, ap, subst, ◌∙◌, arith, length-append, length-drop, length-take}
use Rattle.std.specs.Global.{Global}
use Rattle.std.specs.List.{list_any, remove}
use Rattle.idl_source.specs.Limits.{longest_line, most_lines}
use Rattle.std.specs.Cmp.{alike_right}
use Rattle.std.specs.Ordering.{eq_by_cmp, is_eq, nat_cmp, ordering_reverse}
use Rattle.std.specs.declared.cmp.Ordering.{Ordering}
use Rattle.std.specs.declared.cmp.Ordering.TheVariants.{Less, Equal, Greater}
use Rattle.std.specs.Cmp.Lexicographic.{slice_cmp, nat_list_cmp_total}
use Rattle.std.specs.FinMap as finite
use Rattle.std.specs.FinMap.{is_sorted, put}
use Rattle.std.specs.FinMap.Entries.{find, find-where_key, is_sorted-put, is_sorted-where_key, where_key}
use Rattle.std.specs.declared.rc.Rc.{Rc}
use Rattle.std.proofs.lemmas.List.{length-map}
use Rattle.idl_source.specs.declared.texts.entries.NamedFile.{NamedFile}
use Rattle.idl_source.specs.declared.refusal.Refusal.TheVariants.{BadName, NoSuchFile, OutsideFile, OverLimit}
use Rattle.idl_source.specs.texts.Entries.{entry_of, entries_of, IsAt, IsGapFor}
use Rattle.idl_source.specs.names.Name.{is_name}
use Rattle.idl_source.specs.texts.Texts.{Texts, after_put, after_remove, after_splice, after_splice_of, is_inside, is_over, is_splice_over, spliced}
use Rattle.idl_source.proofs.EntryLemmas.{holds}
use Rattle.idl_source.proofs.Ordered.{find_found, find_gap, where_key-found}

abbrev pub AreSorted : List (List ℕ × List (List ℕ)) → Type 0
AreSorted es = IsTrue (is_sorted (slice_cmp nat_cmp) es)

abbrev pub texts : List (List ℕ × List (List ℕ)) → Texts
texts es = finite.from_sorted es

-- there are as many files as entries
pub len-texts : (entries : List (Rc NamedFile Global)) → AreSorted (entries_of entries) → finite.len (texts (entries_of entries)) ≡ length entries
len-texts entries sorted =
    finite.len-entries (texts (entries_of entries))
    ∙ ap length (finite.entries-from_sorted (slice_cmp nat_cmp) (entries_of entries) (holds _ sorted))
    ∙ length-map entries entry_of

-- the entry at the place of a name has its file
pub get-texts-at : (entries : List (Rc NamedFile Global)) (name : List ℕ) (i : ℕ) (d : Rc NamedFile Global) → AreSorted (entries_of entries) → IsAt entries name i
    → finite.get (texts (entries_of entries)) name ≡ Some (get_or entries i d).value.file
get-texts-at entries name i d sorted at =
    finite.get-from_sorted (slice_cmp nat_cmp) (entries_of entries) name (holds _ sorted)
    ∙ find_found (slice_cmp nat_cmp) nat_list_cmp_total (λ (e : Rc NamedFile Global). e.value.name) (λ (e : Rc NamedFile Global). e.value.file) entries name i d at.in_range (at.has_name d) (holds _ sorted)

-- a name that has a gap has no file
pub get-texts-gap : (entries : List (Rc NamedFile Global)) (name : List ℕ) (i : ℕ) → AreSorted (entries_of entries) → IsGapFor entries name i
    → finite.get (texts (entries_of entries)) name ≡ None
get-texts-gap entries name i sorted gap =
    finite.get-from_sorted (slice_cmp nat_cmp) (entries_of entries) name (holds _ sorted)
    ∙ find_gap (slice_cmp nat_cmp) nat_list_cmp_total (λ (e : Rc NamedFile Global). e.value.name) (λ (e : Rc NamedFile Global). e.value.file) entries name i gap.lower_before gap.higher_after

-- to put an entry is to insert it
pub texts-put : (es : List (List ℕ × List (List ℕ))) (name : List ℕ) (lines : List (List ℕ)) → AreSorted es
    → ◌≡◌ {A = Texts} (finite.insert (texts es) name lines) (texts (put (slice_cmp nat_cmp) name lines es))
texts-put es name lines sorted =
    let R = slice_cmp nat_cmp in
    finite.same_entries_map _ _
    (finite.entries-insert nat_list_cmp_total (texts es) name lines
    ∙ ap (put R name lines) (finite.entries-from_sorted R es (holds _ sorted))
    ∙ sym (finite.entries-from_sorted R (put R name lines es) (is_sorted-put R nat_list_cmp_total name lines es (holds _ sorted))))

true_from : (b : _) → T b → IsTrue b
true_from true h = refl
true_from false h = absurd h

-- and the entries are in order again
pub AreSorted-put : (es : List (List ℕ × List (List ℕ))) (name : List ℕ) (lines : List (List ℕ)) → AreSorted es → AreSorted (put (slice_cmp nat_cmp) name lines es)
AreSorted-put es name lines sorted = true_from _ (is_sorted-put (slice_cmp nat_cmp) nat_list_cmp_total name lines es (holds _ sorted))

-- a put is accepted where the name is one and nothing goes past a limit
pub put-accepted : (files after : Texts) (name : List ℕ) (lines : List (List ℕ)) → is_name name ≡ true → is_over files name lines ≡ false
    → finite.insert files name lines ≡ after → after_put files name lines ≡ Ok after
put-accepted files after name lines allowed within is =
    ap (λ b. cond b (cond (is_over files name lines) (Err OverLimit) (Ok (finite.insert files name lines))) (Err BadName)) allowed
    ∙ ap (λ b. cond b (Err OverLimit) (Ok (finite.insert files name lines))) within
    ∙ ap Ok is

-- entries after a put are in order again, and a map with the new lines
pub put-entries : (es fs : List (List ℕ × List (List ℕ))) (name : List ℕ) (lines : List (List ℕ)) → AreSorted es → fs ≡ put (slice_cmp nat_cmp) name lines es
    → AreSorted fs × ◌≡◌ {A = Texts} (finite.insert (texts es) name lines) (texts fs)
put-entries es fs name lines sorted is =
    (subst AreSorted (sym is) (AreSorted-put es name lines sorted), texts-put es name lines sorted ∙ ap texts (sym is))

-- no entries are no files, and some are some
pub no-entries : (entries : List (Rc NamedFile Global)) → AreSorted (entries_of entries) → (length entries ≡ 0 → texts (entries_of entries) ≡ finite.empty) × (texts (entries_of entries) ≡ finite.empty → length entries ≡ 0)
no-entries entries sorted = (
  (λ none. finite.empty_of_len _ (len-texts entries sorted ∙ none)),
  (λ none. sym (len-texts entries sorted) ∙ ap finite.len none ∙ finite.len-empty (slice_cmp nat_cmp) (List (List ℕ))),
)

tie_turned : (r : Ordering) → is_eq (ordering_reverse r) ≡ is_eq r
tie_turned Less = refl
tie_turned Equal = refl
tie_turned Greater = refl

cond_not : {X : Type 0} (b : Bool) (x y : X) → cond (not b) x y ≡ cond b y x
cond_not true x y = refl
cond_not false x y = refl

-- the entries with other names are in order, and the map without this one
texts-where : (es : List (List ℕ × List (List ℕ))) (name : List ℕ) → AreSorted es
    → let left = where_key (slice_cmp nat_cmp) (λ x. not (eq_by_cmp (slice_cmp nat_cmp) name x)) es in AreSorted left × ◌≡◌ {A = Texts} (finite.remove (texts es) name) (texts left)
texts-where es name sorted =
    let R = slice_cmp nat_cmp in
    let o = nat_list_cmp_total in
    let others : List ℕ → Bool = λ x. not (eq_by_cmp R name x) in
    let still = is_sorted-where_key R others es (holds _ sorted) in
    let same : (q : List ℕ) → finite.get (finite.remove (texts es) name) q ≡ finite.get (texts (where_key R others es)) q = λ q.
    finite.get-remove o (texts es) name q
    ∙ ap (cond (eq_by_cmp R q name) None) (finite.get-from_sorted R es q (holds _ sorted))
    ∙ sym (cond_not (eq_by_cmp R q name) (find R q es) None)
    ∙ ap (λ b. cond (not b) (find R q es) None) (sym (ap is_eq (o.antisymm name q) ∙ tie_turned (R q name)))
    ∙ sym (find-where_key R others q (λ x t. ap (λ r. not (is_eq r)) (sym (alike_right o q x name t))) es)
    ∙ sym (finite.get-from_sorted R (where_key R others es) q still) in
    (true_from _ still, finite.same_map o (finite.slice_cmp-IsAntisymmetric finite.nat_cmp-IsAntisymmetric) _ _ same)

-- a name that has a place has a file
pub is_none-texts-at : (entries : List (Rc NamedFile Global)) (name : List ℕ) (i : ℕ) → AreSorted (entries_of entries) → IsAt entries name i → is_none (finite.get (texts (entries_of entries)) name) ≡ false
is_none-texts-at [] name i sorted at = absurd (omega (arith, at.in_range))
is_none-texts-at (e ∷ es) name i sorted at = ap is_none (get-texts-at (e ∷ es) name i e sorted at)

-- entries without the one at the place of a name
pub remove-entries : (entries : List (Rc NamedFile Global)) (fs : List (List ℕ × List (List ℕ))) (name : List ℕ) (i : ℕ) → AreSorted (entries_of entries) → IsAt entries name i → fs ≡ remove (entries_of entries) i
    → AreSorted fs × ◌≡◌ {A = Texts} (finite.remove (texts (entries_of entries)) name) (texts fs)
remove-entries [] fs name i sorted at is = absurd (omega (arith, at.in_range))
remove-entries (e ∷ es) fs name i sorted at is =
    let left = where_key-found (slice_cmp nat_cmp) nat_list_cmp_total (λ (e : Rc NamedFile Global). e.value.name) (λ (e : Rc NamedFile Global). e.value.file) (e ∷ es) name i e at.in_range (at.has_name e) (holds _ sorted) ∙ sym is in
    let sides = texts-where (entries_of (e ∷ es)) name sorted in
    (subst AreSorted left sides.0, sides.1 ∙ ap texts left)

-- a removal is accepted where there is such a file
pub remove-accepted : (files after : Texts) (name : List ℕ) → is_name name ≡ true → is_none (finite.get files name) ≡ false → finite.remove files name ≡ after → after_remove files name ≡ Ok after
remove-accepted files after name allowed there is =
    ap (λ b. cond b (cond (is_none (finite.get files name)) (Err NoSuchFile) (Ok (finite.remove files name))) (Err BadName)) allowed
    ∙ ap (λ b. cond b (Err NoSuchFile) (Ok (finite.remove files name))) there
    ∙ ap Ok is

pub remove-refused : (files : Texts) (name : List ℕ) → is_name name ≡ true → finite.get files name ≡ None → after_remove files name ≡ Err NoSuchFile
remove-refused files name allowed absent =
    ap (λ b. cond b (cond (is_none (finite.get files name)) (Err NoSuchFile) (Ok (finite.remove files name))) (Err BadName)) allowed
    ∙ ap (λ (o : Option (List (List ℕ))). cond (is_none o) (Err NoSuchFile) (Ok (finite.remove files name))) absent

-- a splice of a file that is there
pub splice-there : (files : Texts) (name : List ℕ) (old : List (List ℕ)) (from del : ℕ) (lines : List (List ℕ)) → is_name name ≡ true → finite.get files name ≡ Some old
    → after_splice files name from del lines ≡ after_splice_of files name (Some old) from del lines
splice-there files name old from del lines allowed there =
    ap (λ b. cond b (after_splice_of files name (finite.get files name) from del lines) (Err BadName)) allowed
    ∙ ap (λ (o : Option (List (List ℕ))). after_splice_of files name o from del lines) there

-- it is refused where it is over a limit, and else accepted
pub splice-over : (files : Texts) (name : List ℕ) (old : List (List ℕ)) (from del : ℕ) (lines : List (List ℕ)) → is_inside old from del ≡ true → is_splice_over old from del lines ≡ true
    → after_splice_of files name (Some old) from del lines ≡ Err OverLimit
splice-over files name old from del lines inside over =
    ap (λ b. cond b (cond (is_splice_over old from del lines) (Err OverLimit) (Ok (finite.insert files name (spliced old from del lines)))) (Err OutsideFile)) inside
    ∙ ap (λ b. cond b (Err OverLimit) (Ok (finite.insert files name (spliced old from del lines)))) over

pub splice-accepted : (files after : Texts) (name : List ℕ) (old : List (List ℕ)) (from del : ℕ) (lines : List (List ℕ)) → is_inside old from del ≡ true → is_splice_over old from del lines ≡ false
    → finite.insert files name (spliced old from del lines) ≡ after → after_splice_of files name (Some old) from del lines ≡ Ok after
splice-accepted files after name old from del lines inside within is =
    ap (λ b. cond b (cond (is_splice_over old from del lines) (Err OverLimit) (Ok (finite.insert files name (spliced old from del lines)))) (Err OutsideFile)) inside
    ∙ ap (λ b. cond b (Err OverLimit) (Ok (finite.insert files name (spliced old from del lines)))) within
    ∙ ap Ok is

-- how many lines there are then
length-spliced : (old : List (List ℕ)) (from del : ℕ) (lines : List (List ℕ)) → 1 ≤ from → from - 1 + del ≤ length old → length (spliced old from del lines) ≡ length old - del + length lines
length-spliced old from del lines first inside =
    omega (arith, length-append (take (from - 1) old) (lines ++ drop (from - 1 + del) old), length-append lines (drop (from - 1 + del) old), length-take (from - 1) old, length-drop (from - 1 + del) old)

-- the test of a splice, as it is made on numbers
pub is_splice_over-length : (old : List (List ℕ)) (from del : ℕ) (lines : List (List ℕ)) → 1 ≤ from → from - 1 + del ≤ length old
    → (ltb most_lines (length old - del + length lines) || list_any (λ line. ltb longest_line (length line)) lines) ≡ is_splice_over old from del lines
is_splice_over-length old from del lines first inside =
    ap (λ n. ltb most_lines n || list_any (λ line. ltb longest_line (length line)) lines) (sym (length-spliced old from del lines first inside))
