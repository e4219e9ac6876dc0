-- Edits keep a project within the limits.
use Rattle.std.proofs.Common.{◌≡◌, ◌<◌, ◌≤◌, ◌+◌, ◌-◌, ◌&&◌, ◌||◌, ℕ, Bool, true, false, cond, not, leb, ltb, List, [], ◌∷◌, ◌++◌, All, Option, None, Some, IfSome, is_none, is_some, Result, Ok, Err, length, take, drop, refl, sym, subst, arith, length-append}
use Rattle.std.proofs.lemmas.Bool.Decides.{nat_tests}
use Rattle.std.proofs.lemmas.List.Elements.{All-append, All-cons, All-take, All-drop, All-nil, All-head, All-tail}
use Rattle.std.specs.Cmp.Lexicographic.{nat_list_cmp_total, slice_cmp}
use Rattle.std.specs.FinMap as finite
use Rattle.std.specs.FinMap.{get-empty, get-insert, get-remove, len-empty, len-insert, len-remove}
use Rattle.std.specs.List.{list_all, list_any}
use Rattle.std.specs.Map.{remove_entry}
use Rattle.std.specs.Ordering.{eq_by_cmp, nat_cmp}
use Rattle.std.specs.Set.{remove_key}
use Rattle.std.specs.Str.{bytes_eq}
use Rattle.std.proofs.lemmas.Map.Made.{length-remove_key}
use Rattle.indexmap.specs.IndexMap.{insert_entry}
use Rattle.idl_source.specs.names.Directory.{is_directory}
use Rattle.idl_source.specs.names.Name.{is_name}
use Rattle.idl_source.specs.texts.Texts.{Texts, after_put, after_splice, after_splice_of, after_remove, is_over, is_inside, is_splice_over, spliced}
use Rattle.idl_source.specs.declared.refusal.Refusal.{Refusal}
use Rattle.idl_source.specs.declared.refusal.Refusal.TheVariants.{BadName, NoSuchFile, OutsideFile, OverLimit, BadMacro, NoSuchRoot, RootThere}
use Rattle.idl_inputs.specs.Edits.{Edit, Put, Splice, Remove, Define, Undef, Search, AddRoot, DropRoot, after, is_macro_over, macros_with, macros_without, result_map, roots_with, roots_without, search_list}
use Rattle.idl_inputs.specs.Project.{Macros, Project, is_defined, is_root, no_project, with_files, with_macros, with_search, with_roots}
use Rattle.idl_inputs.specs.WithinLimits.{IsAllowedFile, IsWithinLimits}
use Rattle.idl_macro.specs.Words.{is_macro_word}

-- what was made of an accepted part
pub accepted : {X : Type 0} (f : X → Project) (r : Result X Refusal) (new : Project) → result_map f r ≡ Ok new → (x : X) × (r ≡ Ok x) × (f x ≡ new)
accepted f (Ok x) new e = (x, refl, cc)
accepted f (Err refusal) new e = absurd (cc)

-- neither test passed
neither : (a b : Bool) → (a || b) ≡ false → (a ≡ false) × (b ≡ false)
neither true b e = absurd (cc)
neither false b e = (refl, e)

-- no line is too long
none_long : (lines : List (List ℕ)) → list_any (λ line. ltb 4096 (length line)) lines ≡ false → All (λ line. length line ≤ 4096) lines
none_long [] e = All-nil (λ (line : List ℕ). length line ≤ 4096)
none_long (line ∷ lines) e =
    let both = neither (ltb 4096 (length line)) (list_any (λ (l : List ℕ). ltb 4096 (length l)) lines) e in
    All-cons (λ (l : List ℕ). length l ≤ 4096) line lines (short line both.0) (none_long lines both.1)
  where
    short : (line : List ℕ) → ltb 4096 (length line) ≡ false → length line ≤ 4096
    short line within = grind (arith, nat_tests)

-- files within the limits
record AreAllowed (files : Texts) : Type 0 where
  many : finite.len files ≤ 4096
  each : (name : List ℕ) → IfSome (finite.get files name) IsAllowedFile

-- with a file that is allowed
inserted : (files : Texts) (name : List ℕ) (lines : List (List ℕ)) → AreAllowed files → IsAllowedFile lines
    → (leb 4096 (finite.len files) && is_none (finite.get files name)) ≡ false → AreAllowed (finite.insert files name lines)
inserted files name lines are allowed room = record {
  many = subst (λ (n : ℕ). n ≤ 4096) (sym (len-insert nat_list_cmp_total files name lines)) (within (finite.get files name) (finite.len files) are.many room);
  each = λ other. subst (λ (o : Option (List (List ℕ))). IfSome o IsAllowedFile) (sym (get-insert nat_list_cmp_total files name lines other))
      (found (eq_by_cmp (slice_cmp nat_cmp) other name) (finite.get files other) (are.each other));
}
  where
    within : (held : Option (List (List ℕ))) (n : ℕ) → n ≤ 4096 → (leb 4096 n && is_none held) ≡ false → cond (is_some held) n (n + 1) ≤ 4096
    within (Some old) n most free = most
    within None n most free = grind (arith, nat_tests)

    found : (same : Bool) (held : Option (List (List ℕ))) → IfSome held IsAllowedFile → IfSome (cond same (Some lines) held) IsAllowedFile
    found true held is = allowed
    found false held is = is

-- without a file
removed : (files : Texts) (name : List ℕ) → AreAllowed files → AreAllowed (finite.remove files name)
removed files name are = record {
  many = subst (λ (n : ℕ). n ≤ 4096) (sym (len-remove nat_list_cmp_total files name)) (fewer (is_some (finite.get files name)) (finite.len files) are.many);
  each = λ other. subst (λ (o : Option (List (List ℕ))). IfSome o IsAllowedFile) (sym (get-remove nat_list_cmp_total files name other))
      (found (eq_by_cmp (slice_cmp nat_cmp) other name) (finite.get files other) (are.each other));
}
  where
    fewer : (there : Bool) (n : ℕ) → n ≤ 4096 → cond there (n - 1) n ≤ 4096
    fewer true n most = omega arith
    fewer false n most = most

    found : (same : Bool) (held : Option (List (List ℕ))) → IfSome held IsAllowedFile → IfSome (cond same None held) IsAllowedFile
    found true held is = tt
    found false held is = is

-- after a put
put_allowed : (files new : Texts) (name : List ℕ) (lines : List (List ℕ)) → AreAllowed files → after_put files name lines ≡ Ok new → AreAllowed new
put_allowed files new name lines are e = by (is_name name) (is_over files name lines) refl e
  where
    by : (a b : Bool) → is_over files name lines ≡ b → cond a (cond b (Err OverLimit) (Ok (finite.insert files name lines))) (Err BadName) ≡ Ok new → AreAllowed new
    by true false within e =
        let first = neither (ltb 200000 (length lines)) _ within in
        let second = neither (list_any (λ (line : List ℕ). ltb 4096 (length line)) lines) _ first.1 in
        let short : length lines ≤ 200000 = grind (arith, nat_tests, first.0) in
        let is : finite.insert files name lines ≡ new = cc in
        subst (λ (t : Texts). AreAllowed t) is (inserted files name lines are (record { many = short; long = none_long lines second.0 }) second.1)
    by true true within e = absurd (cc)
    by false b within e = absurd (cc)

-- a file whose lines are in part its old ones
spliced_allowed : (old : List (List ℕ)) (from del : ℕ) (lines : List (List ℕ)) → IsAllowedFile old → is_splice_over old from del lines ≡ false
    → IsAllowedFile (spliced old from del lines)
spliced_allowed old from del lines is within =
    let P : List ℕ → Type 0 = λ line. length line ≤ 4096 in
    let both = neither (ltb 200000 (length (spliced old from del lines))) _ within in
    let short : length (spliced old from del lines) ≤ 200000 = grind (arith, nat_tests, both.0) in
    record {
      many = short;
      long = All-append P (take (from - 1) old) (lines ++ drop (from - 1 + del) old) (All-take P (from - 1) old is.long)
          (All-append P lines (drop (from - 1 + del) old) (none_long lines both.1) (All-drop P (from - 1 + del) old is.long));
    }

-- after a splice
splice_allowed : (files new : Texts) (name : List ℕ) (from del : ℕ) (lines : List (List ℕ)) → AreAllowed files → after_splice files name from del lines ≡ Ok new → AreAllowed new
splice_allowed files new name from del lines are e = named (is_name name) e
  where
    there : (old : List (List ℕ)) → finite.get files name ≡ Some old → (a b : Bool) → is_splice_over old from del lines ≡ b
        → cond a (cond b (Err OverLimit) (Ok (finite.insert files name (spliced old from del lines)))) (Err OutsideFile) ≡ Ok new → AreAllowed new
    there old held true false within e =
        let allowed : IsAllowedFile old = subst (λ (o : Option (List (List ℕ))). IfSome o IsAllowedFile) held (are.each name) in
        let room : (leb 4096 (finite.len files) && is_none (finite.get files name)) ≡ false = no_room (finite.get files name) old (leb 4096 (finite.len files)) held in
        let is : finite.insert files name (spliced old from del lines) ≡ new = cc in
        subst (λ (t : Texts). AreAllowed t) is (inserted files name (spliced old from del lines) are (spliced_allowed old from del lines allowed within) room)
      where
        no_room : (o : Option (List (List ℕ))) (l : List (List ℕ)) (b : Bool) → o ≡ Some l → (b && is_none o) ≡ false
        no_room None l b e = absurd (cc)
        no_room (Some m) l true e = refl
        no_room (Some m) l false e = refl
    there old held true true within e = absurd (cc)
    there old held false b within e = absurd (cc)

    of : (o : Option (List (List ℕ))) → finite.get files name ≡ o → after_splice_of files name o from del lines ≡ Ok new → AreAllowed new
    of None held e = absurd (cc)
    of (Some old) held e = there old held (is_inside old from del) (is_splice_over old from del lines) refl e

    named : (a : Bool) → cond a (after_splice_of files name (finite.get files name) from del lines) (Err BadName) ≡ Ok new → AreAllowed new
    named true e = of (finite.get files name) refl e
    named false e = absurd (cc)

-- after a removal
remove_allowed : (files new : Texts) (name : List ℕ) → AreAllowed files → after_remove files name ≡ Ok new → AreAllowed new
remove_allowed files new name are e = by (is_name name) (is_none (finite.get files name)) e
  where
    by : (a b : Bool) → cond a (cond b (Err NoSuchFile) (Ok (finite.remove files name))) (Err BadName) ≡ Ok new → AreAllowed new
    by true false e = let is : finite.remove files name ≡ new = cc in subst (λ (t : Texts). AreAllowed t) is (removed files name are)
    by true true e = absurd (cc)
    by false b e = absurd (cc)

-- the body of a macro is short enough
abbrev Short : List ℕ × List ℕ → Type 0
Short macro = length macro.1 ≤ 4096

-- a macro that is there takes another body, and another one is one more
length-insert_entry : (macros : Macros) (word body : List ℕ) → length (insert_entry bytes_eq macros word body) ≡ cond (is_defined macros word) (length macros) (length macros + 1)
length-insert_entry [] word body = refl
length-insert_entry (e ∷ es) word body = by (bytes_eq word e.0) (is_defined es word) (length-insert_entry es word body)
  where
    by : (same there : Bool) → length (insert_entry bytes_eq es word body) ≡ cond there (length es) (length es + 1)
        → length (cond same ((e.0, body) ∷ es) (e ∷ insert_entry bytes_eq es word body)) ≡ cond (same || there) (length (e ∷ es)) (length (e ∷ es) + 1)
    by true there rest = refl
    by false true rest = omega (arith, rest)
    by false false rest = omega (arith, rest)

All-insert_entry : (macros : Macros) (word body : List ℕ) → length body ≤ 4096 → All Short macros → All Short (insert_entry bytes_eq macros word body)
All-insert_entry [] word body short all = All-cons Short (word, body) [] short (All-nil Short)
All-insert_entry (e ∷ es) word body short all = by (bytes_eq word e.0) (All-insert_entry es word body short (All-tail Short e es all))
  where
    by : (same : Bool) → All Short (insert_entry bytes_eq es word body) → All Short (cond same ((e.0, body) ∷ es) (e ∷ insert_entry bytes_eq es word body))
    by true rest = All-cons Short (e.0, body) es short (All-tail Short e es all)
    by false rest = All-cons Short e (insert_entry bytes_eq es word body) (All-head Short e es all) rest

length-remove_entry : (test : List ℕ → Bool) (macros : Macros) → length (remove_entry test macros) ≤ length macros
length-remove_entry test [] = omega arith
length-remove_entry test (e ∷ es) = by (test e.0) (length-remove_entry test es)
  where
    by : (b : Bool) → length (remove_entry test es) ≤ length es → length (cond b es (e ∷ remove_entry test es)) ≤ length (e ∷ es)
    by true rest = omega arith
    by false rest = omega (arith, rest)

All-remove_entry : (test : List ℕ → Bool) (macros : Macros) → All Short macros → All Short (remove_entry test macros)
All-remove_entry test [] all = all
All-remove_entry test (e ∷ es) all = by (test e.0) (All-remove_entry test es (All-tail Short e es all))
  where
    by : (b : Bool) → All Short (remove_entry test es) → All Short (cond b es (e ∷ remove_entry test es))
    by true rest = All-tail Short e es all
    by false rest = All-cons Short e (remove_entry test es) (All-head Short e es all) rest

-- macros within the limits
record AreFew (macros : Macros) : Type 0 where
  many : length macros ≤ 4096
  long : All Short macros

define_few : (macros new : Macros) (word body : List ℕ) → AreFew macros → macros_with macros word body ≡ Ok new → AreFew new
define_few macros new word body are e = by (is_macro_over macros word body) (is_macro_word word) refl e
  where
    few : (there : Bool) (n : ℕ) → n ≤ 4096 → (leb 4096 n && not there) ≡ false → cond there n (n + 1) ≤ 4096
    few true n most room = most
    few false n most room = grind (arith, nat_tests)

    by : (a b : Bool) → is_macro_over macros word body ≡ a → cond a (Err OverLimit) (cond b (Ok (insert_entry bytes_eq macros word body)) (Err BadMacro)) ≡ Ok new → AreFew new
    by true b within e = absurd (cc)
    by false false within e = absurd (cc)
    by false true within e =
        let both = neither (ltb 4096 (length body)) _ within in
        let short : length body ≤ 4096 = grind (arith, nat_tests, both.0) in
        let is : insert_entry bytes_eq macros word body ≡ new = cc in
        subst (λ (m : Macros). AreFew m) is (record {
          many = subst (λ (n : ℕ). n ≤ 4096) (sym (length-insert_entry macros word body)) (few (is_defined macros word) (length macros) are.many both.1);
          long = All-insert_entry macros word body short are.long;
        })

undef_few : (macros new : Macros) (word : List ℕ) → AreFew macros → macros_without macros word ≡ Ok new → AreFew new
undef_few macros new word are e = by (is_macro_word word) e
  where
    by : (a : Bool) → cond a (Ok (remove_entry (bytes_eq word) macros)) (Err BadMacro) ≡ Ok new → AreFew new
    by false e = absurd (cc)
    by true e =
        let is : remove_entry (bytes_eq word) macros ≡ new = cc in
        let fewer : length (remove_entry (bytes_eq word) macros) ≤ length macros = length-remove_entry (bytes_eq word) macros in
        subst (λ (m : Macros). AreFew m) is (record { many = omega (arith, fewer, are.many); long = All-remove_entry (bytes_eq word) macros are.long })

search_few : (directories new : List (List ℕ)) → search_list directories ≡ Ok new → length new ≤ 256
search_few directories new e = by (list_all is_directory directories) (ltb 256 (length directories)) refl e
  where
    by : (a b : Bool) → ltb 256 (length directories) ≡ b → cond a (cond b (Err OverLimit) (Ok directories)) (Err BadName) ≡ Ok new → length new ≤ 256
    by false b within e = absurd (cc)
    by true true within e = absurd (cc)
    by true false within e =
        let is : directories ≡ new = cc in
        let few : length directories ≤ 256 = grind (arith, nat_tests, within) in
        subst (λ (ds : List (List ℕ)). length ds ≤ 256) is few

add_root_few : (project : Project) (new : List (List ℕ)) (name : List ℕ) → roots_with project name ≡ Ok new → length new ≤ 256
add_root_few project new name e = by (not (is_name name)) (is_root project name) (leb 256 (length project.roots)) refl e
  where
    by : (a b d : Bool) → leb 256 (length project.roots) ≡ d
        → cond a (Err BadName) (cond b (Err RootThere) (cond d (Err OverLimit) (Ok (project.roots ++ name ∷ [])))) ≡ Ok new → length new ≤ 256
    by true b d room e = absurd (cc)
    by false true d room e = absurd (cc)
    by false false true room e = absurd (cc)
    by false false false room e =
        let is : project.roots ++ name ∷ [] ≡ new = cc in
        let few : length project.roots < 256 = grind (arith, nat_tests, room) in
        subst (λ (rs : List (List ℕ)). length rs ≤ 256) is (omega (arith, few, length-append project.roots (name ∷ [])))

drop_root_few : (project : Project) (new : List (List ℕ)) (name : List ℕ) → length project.roots ≤ 256 → roots_without project name ≡ Ok new → length new ≤ 256
drop_root_few project new name most e = by (not (is_name name)) (is_root project name) refl e
  where
    by : (a b : Bool) → is_root project name ≡ b → cond a (Err BadName) (cond b (Ok (remove_key (bytes_eq name) project.roots)) (Err NoSuchRoot)) ≡ Ok new → length new ≤ 256
    by true b there e = absurd (cc)
    by false false there e = absurd (cc)
    by false true there e =
        let is : remove_key (bytes_eq name) project.roots ≡ new = cc in
        subst (λ (rs : List (List ℕ)). length rs ≤ 256) is (omega (arith, most, length-remove_key (bytes_eq name) project.roots there))

files_kept : (project new : Project) (files : Texts) → IsWithinLimits project → AreAllowed files → with_files project files ≡ new → IsWithinLimits new
files_kept project new files is are made =
    subst (λ (p : Project). IsWithinLimits p) made (record { files = are.many; lines = are.each; macros = is.macros; bodies = is.bodies; directories = is.directories; roots = is.roots })

macros_kept : (project new : Project) (macros : Macros) → IsWithinLimits project → AreFew macros → with_macros project macros ≡ new → IsWithinLimits new
macros_kept project new macros is are made =
    subst (λ (p : Project). IsWithinLimits p) made (record { files = is.files; lines = is.lines; macros = are.many; bodies = are.long; directories = is.directories; roots = is.roots })

search_kept : (project new : Project) (directories : List (List ℕ)) → IsWithinLimits project → length directories ≤ 256 → with_search project directories ≡ new → IsWithinLimits new
search_kept project new directories is few made =
    subst (λ (p : Project). IsWithinLimits p) made (record { files = is.files; lines = is.lines; macros = is.macros; bodies = is.bodies; directories = few; roots = is.roots })

roots_kept : (project new : Project) (roots : List (List ℕ)) → IsWithinLimits project → length roots ≤ 256 → with_roots project roots ≡ new → IsWithinLimits new
roots_kept project new roots is few made =
    subst (λ (p : Project). IsWithinLimits p) made (record { files = is.files; lines = is.lines; macros = is.macros; bodies = is.bodies; directories = is.directories; roots = few })

-- an empty project is within the limits
pub none-within : IsWithinLimits no_project
none-within = record {
  files = omega (arith, len-empty (slice_cmp nat_cmp) (List (List ℕ)));
  lines = λ name. subst (λ (o : Option (List (List ℕ))). IfSome o IsAllowedFile) (sym (get-empty (slice_cmp nat_cmp) name)) tt;
  macros = omega arith;
  bodies = All-nil Short;
  directories = omega arith;
  roots = omega arith;
}

-- and so is one after an edit
pub after-within : (project new : Project) (edit : Edit) → IsWithinLimits project → after project edit ≡ Ok new → IsWithinLimits new
after-within project new (Put name lines) is e =
    let part = accepted (with_files project) (after_put project.inputs.files name lines) new e in
    files_kept project new part.0 is (put_allowed project.inputs.files part.0 name lines (record { many = is.files; each = is.lines }) part.1) part.2
after-within project new (Splice name from del lines) is e =
    let part = accepted (with_files project) (after_splice project.inputs.files name from del lines) new e in
    files_kept project new part.0 is (splice_allowed project.inputs.files part.0 name from del lines (record { many = is.files; each = is.lines }) part.1) part.2
after-within project new (Remove name) is e =
    let part = accepted (with_files project) (after_remove project.inputs.files name) new e in
    files_kept project new part.0 is (remove_allowed project.inputs.files part.0 name (record { many = is.files; each = is.lines }) part.1) part.2
after-within project new (Define word body) is e =
    let part = accepted (with_macros project) (macros_with project.inputs.macros word body) new e in
    macros_kept project new part.0 is (define_few project.inputs.macros part.0 word body (record { many = is.macros; long = is.bodies }) part.1) part.2
after-within project new (Undef word) is e =
    let part = accepted (with_macros project) (macros_without project.inputs.macros word) new e in
    macros_kept project new part.0 is (undef_few project.inputs.macros part.0 word (record { many = is.macros; long = is.bodies }) part.1) part.2
after-within project new (Search directories) is e =
    let part = accepted (with_search project) (search_list directories) new e in
    search_kept project new part.0 is (search_few directories part.0 part.1) part.2
after-within project new (AddRoot name) is e =
    let part = accepted (with_roots project) (roots_with project name) new e in
    roots_kept project new part.0 is (add_root_few project part.0 name part.1) part.2
after-within project new (DropRoot name) is e =
    let part = accepted (with_roots project) (roots_without project name) new e in
    roots_kept project new part.0 is (drop_root_few project part.0 name is.roots part.1) part.2
