-- Edits keep a project well-formed: names, words and directories are such, and macros and roots stand once.
use Rattle.std.proofs.Common.{◌≡◌, ℕ, Bool, true, false, cond, not, ◌&&◌, ◌||◌, List, [], ◌∷◌, ◌++◌, All, IsTrue, Option, None, Some, is_none, is_some, Ok, Err, length, leb, ltb, refl, sym, ap, subst, ◌∙◌}
use Rattle.std.proofs.lemmas.Bool.{false≢true}
use Rattle.std.proofs.lemmas.List.Elements.{All-cons, All-nil, All-push}
use Rattle.std.proofs.lemmas.Map.Keys.{IsDistinct-cons, IsDistinct-head, IsDistinct-push, IsDistinct-tail}
use Rattle.std.proofs.lemmas.Map.Text.{is_eq-slice_cmp}
use Rattle.std.proofs.lemmas.Map.Views.{All-remove_key}
use Rattle.std.specs.Cmp.Lexicographic.{bytes_decides, nat_list_cmp_total, nat_list_eq_equiv, slice_cmp}
use Rattle.std.specs.FinMap as finite
use Rattle.std.specs.FinMap.{get-empty, get-insert, get-remove}
use Rattle.std.specs.List.{AllByRecursion, IsDistinct, list_all, list_any}
use Rattle.std.specs.Map.{keys_of, remove_entry}
use Rattle.std.specs.Ordering.{eq_by_cmp, nat_cmp}
use Rattle.std.specs.Set.{remove_key}
use Rattle.std.specs.Str.{bytes_eq}
use Rattle.indexmap.specs.IndexMap.{insert_entry}
use Rattle.idl_macro.specs.Words.{is_macro_word}
use Rattle.idl_source.specs.names.Directory.{is_directory}
use Rattle.idl_source.specs.names.Name.{is_name}
use Rattle.idl_source.specs.texts.Texts.{Texts, after_put, after_remove, after_splice, after_splice_of, is_inside, is_over, is_splice_over, spliced}
use Rattle.idl_source.specs.declared.refusal.Refusal.TheVariants.{BadName, NoSuchFile, OutsideFile, OverLimit, BadMacro, NoSuchRoot, RootThere}
use Rattle.idl_inputs.specs.Edits.{Edit, Put, Splice, Remove, Define, Undef, Search, AddRoot, DropRoot, after, is_macro_over, macros_with, macros_without, roots_with, roots_without, search_list}
use Rattle.idl_inputs.specs.Project.{Macros, Project, is_defined, is_root, no_project, with_files, with_macros, with_roots, with_search}
use Rattle.idl_inputs.specs.WellFormed.{IsWellFormed}
use Rattle.idl_inputs.specs.WithinLimits.{IsWithinLimits}
use Rattle.idl_inputs.proofs.LimitLemmas.{accepted, after-within, none-within}

-- each file has a name
abbrev AreNamed : Texts → Type 0
AreNamed files = (name : List ℕ) → IsTrue (is_some (finite.get files name)) → IsTrue (is_name name)

-- with a file
named-insert : (files : Texts) (name : List ℕ) (lines : List (List ℕ)) → AreNamed files → IsTrue (is_name name) → AreNamed (finite.insert files name lines)
named-insert files name lines are allowed other there =
    by (eq_by_cmp (slice_cmp nat_cmp) other name) refl (subst (λ (o : Option (List (List ℕ))). IsTrue (is_some o)) (get-insert nat_list_cmp_total files name lines other) there)
  where
    by : (same : Bool) → eq_by_cmp (slice_cmp nat_cmp) other name ≡ same → IsTrue (is_some (cond same (Some lines) (finite.get files other))) → IsTrue (is_name other)
    by true same held = subst (λ (n : List ℕ). IsTrue (is_name n)) (sym ((bytes_decides other name).0 (sym (is_eq-slice_cmp other name) ∙ same))) allowed
    by false same held = are other held

-- without a file
named-remove : (files : Texts) (name : List ℕ) → AreNamed files → AreNamed (finite.remove files name)
named-remove files name are other there =
    by (eq_by_cmp (slice_cmp nat_cmp) other name) (subst (λ (o : Option (List (List ℕ))). IsTrue (is_some o)) (get-remove nat_list_cmp_total files name other) there)
  where
    by : (same : Bool) → IsTrue (is_some (cond same None (finite.get files other))) → IsTrue (is_name other)
    by true held = absurd (cc)
    by false held = are other held

put_named : (files new : Texts) (name : List ℕ) (lines : List (List ℕ)) → AreNamed files → after_put files name lines ≡ Ok new → AreNamed new
put_named files new name lines are e = by (is_name name) (is_over files name lines) refl e
  where
    by : (a b : Bool) → is_name name ≡ a → cond a (cond b (Err OverLimit) (Ok (finite.insert files name lines))) (Err BadName) ≡ Ok new → AreNamed new
    by true false allowed e =
        let is : finite.insert files name lines ≡ new = cc in
        subst (λ (t : Texts). AreNamed t) is (named-insert files name lines are allowed)
    by true true allowed e = absurd (cc)
    by false b allowed e = absurd (cc)

splice_named : (files new : Texts) (name : List ℕ) (from del : ℕ) (lines : List (List ℕ)) → AreNamed files → after_splice files name from del lines ≡ Ok new → AreNamed new
splice_named files new name from del lines are e = by (is_name name) refl e
  where
    there : (old : List (List ℕ)) (a b : Bool) → is_name name ≡ true
        → cond a (cond b (Err OverLimit) (Ok (finite.insert files name (spliced old from del lines)))) (Err OutsideFile) ≡ Ok new → AreNamed new
    there old true false allowed e =
        let is : finite.insert files name (spliced old from del lines) ≡ new = cc in
        subst (λ (t : Texts). AreNamed t) is (named-insert files name (spliced old from del lines) are allowed)
    there old true true allowed e = absurd (cc)
    there old false b allowed e = absurd (cc)

    of : (o : Option (List (List ℕ))) → is_name name ≡ true → after_splice_of files name o from del lines ≡ Ok new → AreNamed new
    of None allowed e = absurd (cc)
    of (Some old) allowed e = there old (is_inside old from del) (is_splice_over old from del lines) allowed e

    by : (a : Bool) → is_name name ≡ a → cond a (after_splice_of files name (finite.get files name) from del lines) (Err BadName) ≡ Ok new → AreNamed new
    by true allowed e = of (finite.get files name) allowed e
    by false allowed e = absurd (cc)

remove_named : (files new : Texts) (name : List ℕ) → AreNamed files → after_remove files name ≡ Ok new → AreNamed new
remove_named files new name are e = by (is_name name) (is_none (finite.get files name)) e
  where
    by : (a b : Bool) → cond a (cond b (Err NoSuchFile) (Ok (finite.remove files name))) (Err BadName) ≡ Ok new → AreNamed new
    by true false e = let is : finite.remove files name ≡ new = cc in subst (λ (t : Texts). AreNamed t) is (named-remove files name are)
    by true true e = absurd (cc)
    by false b e = absurd (cc)

-- what passes a test, each once
abbrev AreOnce : (List ℕ → Bool) → List (List ℕ) → Type 0
AreOnce passes keys = All (λ k. IsTrue (passes k)) keys × IsDistinct bytes_eq keys

-- with one that isn't there
once-push : (passes : List ℕ → Bool) (keys : List (List ℕ)) (key : List ℕ) → AreOnce passes keys → IsTrue (passes key) → list_any (bytes_eq key) keys ≡ false
    → AreOnce passes (keys ++ key ∷ [])
once-push passes keys key are allowed new =
    (All-push (λ k. IsTrue (passes k)) keys key are.0 allowed, IsDistinct-push nat_list_eq_equiv keys key are.1 new)

-- what holds of all holds of those that stay
all-remove : (P : List ℕ → Type 0) (test : List ℕ → Bool) (keys : List (List ℕ)) → AllByRecursion P keys → AllByRecursion P (remove_key test keys)
all-remove P test [] are = are
all-remove P test (k ∷ ks) are = by (test k) (all-remove P test ks are.1)
  where
    by : (b : Bool) → AllByRecursion P (remove_key test ks) → AllByRecursion P (cond b ks (k ∷ remove_key test ks))
    by true rest = are.1
    by false rest = (are.0, rest)

distinct-remove : (test : List ℕ → Bool) (keys : List (List ℕ)) → IsDistinct bytes_eq keys → IsDistinct bytes_eq (remove_key test keys)
distinct-remove test [] are = are
distinct-remove test (k ∷ ks) are = by (test k) (distinct-remove test ks (IsDistinct-tail bytes_eq k ks are))
  where
    by : (b : Bool) → IsDistinct bytes_eq (remove_key test ks) → IsDistinct bytes_eq (cond b ks (k ∷ remove_key test ks))
    by true rest = IsDistinct-tail bytes_eq k ks are
    by false rest = IsDistinct-cons bytes_eq k (remove_key test ks) (all-remove (λ y. bytes_eq k y ≡ false) test ks (IsDistinct-head bytes_eq k ks are)) rest

-- without one of them
once-remove : (passes test : List ℕ → Bool) (keys : List (List ℕ)) → AreOnce passes keys → AreOnce passes (remove_key test keys)
once-remove passes test keys are = (All-remove_key test (λ k. IsTrue (passes k)) keys are.0, distinct-remove test keys are.1)

-- a macro that is there keeps its place, and a new one goes last
keys-insert : (macros : Macros) (word body : List ℕ)
    → keys_of (insert_entry bytes_eq macros word body) ≡ cond (is_defined macros word) (keys_of macros) (keys_of macros ++ word ∷ [])
keys-insert [] word body = refl
keys-insert (e ∷ es) word body = by (bytes_eq word e.0) (is_defined es word) (keys-insert es word body)
  where
    by : (same there : Bool) → keys_of (insert_entry bytes_eq es word body) ≡ cond there (keys_of es) (keys_of es ++ word ∷ [])
        → keys_of (cond same ((e.0, body) ∷ es) (e ∷ insert_entry bytes_eq es word body))
        ≡ cond (same || there) (e.0 ∷ keys_of es) (e.0 ∷ keys_of es ++ word ∷ [])
    by true there rest = refl
    by false true rest = ap (λ ks. e.0 ∷ ks) rest
    by false false rest = ap (λ ks. e.0 ∷ ks) rest

keys-remove : (test : List ℕ → Bool) (macros : Macros) → keys_of (remove_entry test macros) ≡ remove_key test (keys_of macros)
keys-remove test [] = refl
keys-remove test (e ∷ es) = by (test e.0) (keys-remove test es)
  where
    by : (b : Bool) → keys_of (remove_entry test es) ≡ remove_key test (keys_of es)
        → keys_of (cond b es (e ∷ remove_entry test es)) ≡ cond b (keys_of es) (e.0 ∷ remove_key test (keys_of es))
    by true rest = refl
    by false rest = ap (λ ks. e.0 ∷ ks) rest

define_once : (macros new : Macros) (word body : List ℕ) → AreOnce is_macro_word (keys_of macros) → macros_with macros word body ≡ Ok new → AreOnce is_macro_word (keys_of new)
define_once macros new word body are e = by (is_macro_over macros word body) (is_macro_word word) refl e
  where
    put : (there : Bool) → is_defined macros word ≡ there → IsTrue (is_macro_word word) → AreOnce is_macro_word (cond there (keys_of macros) (keys_of macros ++ word ∷ []))
    put true there allowed = are
    put false there allowed = once-push is_macro_word (keys_of macros) word are allowed there

    by : (a b : Bool) → is_macro_word word ≡ b → cond a (Err OverLimit) (cond b (Ok (insert_entry bytes_eq macros word body)) (Err BadMacro)) ≡ Ok new
        → AreOnce is_macro_word (keys_of new)
    by true b allowed e = absurd (cc)
    by false false allowed e = absurd (cc)
    by false true allowed e =
        let is : insert_entry bytes_eq macros word body ≡ new = cc in
        subst (λ (m : Macros). AreOnce is_macro_word (keys_of m)) is
        (subst (AreOnce is_macro_word) (sym (keys-insert macros word body)) (put (is_defined macros word) refl allowed))

undef_once : (macros new : Macros) (word : List ℕ) → AreOnce is_macro_word (keys_of macros) → macros_without macros word ≡ Ok new → AreOnce is_macro_word (keys_of new)
undef_once macros new word are e = by (is_macro_word word) e
  where
    by : (a : Bool) → cond a (Ok (remove_entry (bytes_eq word) macros)) (Err BadMacro) ≡ Ok new → AreOnce is_macro_word (keys_of new)
    by false e = absurd (cc)
    by true e =
        let is : remove_entry (bytes_eq word) macros ≡ new = cc in
        subst (λ (m : Macros). AreOnce is_macro_word (keys_of m)) is
        (subst (AreOnce is_macro_word) (sym (keys-remove (bytes_eq word) macros)) (once-remove is_macro_word (bytes_eq word) (keys_of macros) are))

-- all that a test takes
all_pass : (passes : List ℕ → Bool) (keys : List (List ℕ)) → list_all passes keys ≡ true → All (λ k. IsTrue (passes k)) keys
all_pass passes [] e = All-nil (λ k. IsTrue (passes k))
all_pass passes (k ∷ ks) e = by (passes k) refl (λ rest. all_pass passes ks rest) e
  where
    by : (b : Bool) → passes k ≡ b → (list_all passes ks ≡ true → All (λ k. IsTrue (passes k)) ks) → (b && list_all passes ks) ≡ true → All (λ k. IsTrue (passes k)) (k ∷ ks)
    by true is later rest = All-cons (λ k. IsTrue (passes k)) k ks is (later rest)
    by false is later rest = absurd (cc)

search_directories : (directories new : List (List ℕ)) → search_list directories ≡ Ok new → All (λ d. IsTrue (is_directory d)) new
search_directories directories new e = by (list_all is_directory directories) (ltb 256 (length directories)) refl e
  where
    by : (a b : Bool) → list_all is_directory directories ≡ a → cond a (cond b (Err OverLimit) (Ok directories)) (Err BadName) ≡ Ok new → All (λ d. IsTrue (is_directory d)) new
    by false b are e = absurd (cc)
    by true true are e = absurd (cc)
    by true false are e =
        let is : directories ≡ new = cc in
        subst (λ (ds : List (List ℕ)). All (λ d. IsTrue (is_directory d)) ds) is (all_pass is_directory directories are)

add_root_once : (project : Project) (new : List (List ℕ)) (name : List ℕ) → AreOnce is_name project.roots → roots_with project name ≡ Ok new → AreOnce is_name new
add_root_once project new name are e = by (is_name name) (is_root project name) (leb 256 (length project.roots)) refl refl e
  where
    by : (a b d : Bool) → is_name name ≡ a → is_root project name ≡ b
        → cond (not a) (Err BadName) (cond b (Err RootThere) (cond d (Err OverLimit) (Ok (project.roots ++ name ∷ [])))) ≡ Ok new → AreOnce is_name new
    by false b d allowed there e = absurd (cc)
    by true true d allowed there e = absurd (cc)
    by true false true allowed there e = absurd (cc)
    by true false false allowed there e =
        let is : project.roots ++ name ∷ [] ≡ new = cc in
        subst (AreOnce is_name) is (once-push is_name project.roots name are allowed there)

drop_root_once : (project : Project) (new : List (List ℕ)) (name : List ℕ) → AreOnce is_name project.roots → roots_without project name ≡ Ok new → AreOnce is_name new
drop_root_once project new name are e = by (not (is_name name)) (is_root project name) e
  where
    by : (a b : Bool) → cond a (Err BadName) (cond b (Ok (remove_key (bytes_eq name) project.roots)) (Err NoSuchRoot)) ≡ Ok new → AreOnce is_name new
    by true b e = absurd (cc)
    by false false e = absurd (cc)
    by false true e =
        let is : remove_key (bytes_eq name) project.roots ≡ new = cc in
        subst (AreOnce is_name) is (once-remove is_name (bytes_eq name) project.roots are)

-- with another part, and the others as they were
files_formed : (project new : Project) (files : Texts) → IsWellFormed project → IsWithinLimits new → AreNamed files → with_files project files ≡ new → IsWellFormed new
files_formed project new files is within are made =
    let limits : IsWithinLimits (with_files project files) = subst (λ (p : Project). IsWithinLimits p) (sym made) within in
    subst (λ (p : Project). IsWellFormed p) made
    (record { within = limits; files = are; words = is.words; words_once = is.words_once; directories = is.directories; roots = is.roots; roots_once = is.roots_once })

macros_formed : (project new : Project) (macros : Macros) → IsWellFormed project → IsWithinLimits new → AreOnce is_macro_word (keys_of macros)
    → with_macros project macros ≡ new → IsWellFormed new
macros_formed project new macros is within are made =
    let limits : IsWithinLimits (with_macros project macros) = subst (λ (p : Project). IsWithinLimits p) (sym made) within in
    subst (λ (p : Project). IsWellFormed p) made
    (record { within = limits; files = is.files; words = are.0; words_once = are.1; directories = is.directories; roots = is.roots; roots_once = is.roots_once })

search_formed : (project new : Project) (directories : List (List ℕ)) → IsWellFormed project → IsWithinLimits new → All (λ d. IsTrue (is_directory d)) directories
    → with_search project directories ≡ new → IsWellFormed new
search_formed project new directories is within are made =
    let limits : IsWithinLimits (with_search project directories) = subst (λ (p : Project). IsWithinLimits p) (sym made) within in
    subst (λ (p : Project). IsWellFormed p) made
    (record { within = limits; files = is.files; words = is.words; words_once = is.words_once; directories = are; roots = is.roots; roots_once = is.roots_once })

roots_formed : (project new : Project) (roots : List (List ℕ)) → IsWellFormed project → IsWithinLimits new → AreOnce is_name roots
    → with_roots project roots ≡ new → IsWellFormed new
roots_formed project new roots is within are made =
    let limits : IsWithinLimits (with_roots project roots) = subst (λ (p : Project). IsWithinLimits p) (sym made) within in
    subst (λ (p : Project). IsWellFormed p) made
    (record { within = limits; files = is.files; words = is.words; words_once = is.words_once; directories = is.directories; roots = are.0; roots_once = are.1 })

-- an empty project is well-formed
pub none-formed : IsWellFormed no_project
unfolding IsDistinct
none-formed = record {
  within = none-within;
  files = λ name there. absurd (none name there);
  words = All-nil (λ w. IsTrue (is_macro_word w));
  words_once = distinct;
  directories = All-nil (λ d. IsTrue (is_directory d));
  roots = All-nil (λ n. IsTrue (is_name n));
  roots_once = distinct;
}
  where
    none : (name : List ℕ) → IsTrue (is_some (finite.get no_project.inputs.files name)) → ⊥
    none name there =
        let nothing : is_some (finite.get no_project.inputs.files name) ≡ false = ap is_some (get-empty (slice_cmp nat_cmp) name) in
        false≢true (sym nothing ∙ there)

    distinct : IsDistinct {K = List ℕ} bytes_eq []
    distinct = tt

-- and so is one after an edit
pub after-formed : (project new : Project) (edit : Edit) → IsWellFormed project → after project edit ≡ Ok new → IsWellFormed new
after-formed project new (Put name lines) is e =
    let part = accepted (with_files project) (after_put project.inputs.files name lines) new e in
    files_formed project new part.0 is (after-within project new (Put name lines) is.within e) (put_named project.inputs.files part.0 name lines is.files part.1) part.2
after-formed project new (Splice name from del lines) is e =
    let part = accepted (with_files project) (after_splice project.inputs.files name from del lines) new e in
    files_formed project new part.0 is (after-within project new (Splice name from del lines) is.within e) (splice_named project.inputs.files part.0 name from del lines is.files part.1) part.2
after-formed project new (Remove name) is e =
    let part = accepted (with_files project) (after_remove project.inputs.files name) new e in
    files_formed project new part.0 is (after-within project new (Remove name) is.within e) (remove_named project.inputs.files part.0 name is.files part.1) part.2
after-formed project new (Define word body) is e =
    let part = accepted (with_macros project) (macros_with project.inputs.macros word body) new e in
    macros_formed project new part.0 is (after-within project new (Define word body) is.within e) (define_once project.inputs.macros part.0 word body (is.words, is.words_once) part.1) part.2
after-formed project new (Undef word) is e =
    let part = accepted (with_macros project) (macros_without project.inputs.macros word) new e in
    macros_formed project new part.0 is (after-within project new (Undef word) is.within e) (undef_once project.inputs.macros part.0 word (is.words, is.words_once) part.1) part.2
after-formed project new (Search directories) is e =
    let part = accepted (with_search project) (search_list directories) new e in
    search_formed project new part.0 is (after-within project new (Search directories) is.within e) (search_directories directories part.0 part.1) part.2
after-formed project new (AddRoot name) is e =
    let part = accepted (with_roots project) (roots_with project name) new e in
    roots_formed project new part.0 is (after-within project new (AddRoot name) is.within e) (add_root_once project part.0 name (is.roots, is.roots_once) part.1) part.2
after-formed project new (DropRoot name) is e =
    let part = accepted (with_roots project) (roots_without project name) new e in
    roots_formed project new part.0 is (after-within project new (DropRoot name) is.within e) (drop_root_once project part.0 name (is.roots, is.roots_once) part.1) part.2
