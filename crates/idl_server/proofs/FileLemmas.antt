-- Edits of one file of a project, and of files that are loaded.
use Rattle.std.proofs.Common.{◌≡◌, ◌⊎◌, ◌∙◌, ℕ, ◌+◌, All, Bool, true, false, cond, List, [], ◌∷◌, Option, None, Some, Result, Ok, Err, inl, inr, is_none, is_some, refl, sym, ap, subst}
use Rattle.std.proofs.lemmas.List.Elements.{All-head, All-tail}
use Rattle.std.proofs.lemmas.Map.Text.{is_eq-slice_cmp}
use Rattle.std.specs.Cmp.Lexicographic.{bytes_decides, nat_list_cmp_total, nat_list_eq_equiv}
use Rattle.std.specs.FinMap as finite
use Rattle.std.specs.FinMap.{get-insert, get-remove}
use Rattle.std.specs.Map.{lookup}
use Rattle.std.specs.Str.{bytes_eq}
use Rattle.idl_source.specs.names.Name.{is_name}
use Rattle.idl_source.specs.texts.Texts.{Texts, after_put, after_remove, after_splice, after_splice_of, is_inside, is_over, is_splice_over, spliced}
use Rattle.idl_source.specs.declared.refusal.Refusal.{Refusal}
use Rattle.idl_source.specs.declared.refusal.Refusal.TheVariants.{BadName, NoSuchFile, OutsideFile, OverLimit}
use Rattle.idl_inputs.specs.Bank.{IsSameBeside}
use Rattle.idl_inputs.specs.Batch.{after_all, after_from}
use Rattle.idl_inputs.specs.Edits.{Edit, Put, Splice, Remove, Define, Undef, Search, AddRoot, DropRoot, after, macros_with, result_map, roots_with, roots_without, search_list}
use Rattle.idl_inputs.specs.Project.{Macros, Project, with_files, with_macros, with_roots, with_search}
use Rattle.idl_inputs.proofs.FileLemmas.{put-beside, remove-beside, splice-beside}
use Rattle.idl_loader.specs.Holding.{Holding}
use Rattle.idl_loader.specs.Holding.{IsFileOf}
use Rattle.idl_server.specs.Edited.{IsSameButFor}
use Rattle.idl_server.specs.Loading.{IsLoadedEdit}
use Rattle.idl_editor.specs.declared.documents.document.Document.{Document}

-- a value that is reached is the one that it is said to be
reached-same : {X : Type 0} (a b : X) (R : Type 0) → ◌≡◌ {A = Result X R} (Ok a) (Ok b) → a ≡ b
reached-same a b R h = cc

pub some-same : {X : Type 0} (a b : X) → Some a ≡ Some b → a ≡ b
some-same a b h = cc

-- ---- edits of one file

pub lost : (document : Document) → ◌≡◌ {A = Option Document} None (Some document) → ⊥
lost document h = absurd (cc)

pub gone : (lines : List (List ℕ)) → ◌≡◌ {A = Option (List (List ℕ))} None (Some lines) → ⊥
gone lines h = absurd (cc)

pub none-there : {X : Type 0} (found : Option X) → is_some found ≡ false → found ≡ None
none-there None h = refl
none-there (Some x) h = absurd (cc)

pub same-self : (name : List ℕ) (project : Project) → IsSameButFor name project project
same-self name project = record { files = λ other apart. refl; macros = refl; search = refl; roots = refl }

filed : (name : List ℕ) (project : Project) (files : Texts) → IsSameBeside name project.inputs.files files → IsSameButFor name project (with_files project files)
filed name project files beside = record { files = beside; macros = refl; search = refl; roots = refl }

-- files that are made of those of a project
made-files : (name : List ℕ) (project new : Project) (made : Result Texts Refusal) → ((files : Texts) → made ≡ Ok files → IsSameBeside name project.inputs.files files)
    → result_map (with_files project) made ≡ Ok new → IsSameButFor name project new
made-files name project new (Ok files) beside h =
    subst (λ (p : Project). IsSameButFor name project p) (reached-same (with_files project files) new Refusal h) (filed name project files (beside files refl))
made-files name project new (Err refusal) beside h = absurd (cc)

pub put-alone : (name : List ℕ) (lines : List (List ℕ)) (project new : Project) → after project (Put name lines) ≡ Ok new → IsSameButFor name project new
put-alone name lines project new is =
    made-files name project new (after_put project.inputs.files name lines) (λ files h. put-beside project.inputs.files files name lines h) is

pub remove-alone : (name : List ℕ) (project new : Project) → after project (Remove name) ≡ Ok new → IsSameButFor name project new
remove-alone name project new is =
    made-files name project new (after_remove project.inputs.files name) (λ files h. remove-beside project.inputs.files files name h) is

pub splice-alone : (name : List ℕ) (from del : ℕ) (lines : List (List ℕ)) (project new : Project) → after project (Splice name from del lines) ≡ Ok new → IsSameButFor name project new
splice-alone name from del lines project new is =
    made-files name project new (after_splice project.inputs.files name from del lines) (λ files h. splice-beside project.inputs.files files name from del lines h) is

-- ---- roots

-- roots that are added and dropped leave the inputs
made-roots : (project new : Project) (made : Result (List (List ℕ)) Refusal) → result_map (with_roots project) made ≡ Ok new → new.inputs ≡ project.inputs
made-roots project new (Ok roots) h = ap (λ (p : Project). p.inputs) (sym (reached-same (with_roots project roots) new Refusal h))
made-roots project new (Err refusal) h = absurd (cc)

pub add-inputs : (name : List ℕ) (project new : Project) → after project (AddRoot name) ≡ Ok new → new.inputs ≡ project.inputs
add-inputs name project new is = made-roots project new (roots_with project name) is

pub drop-inputs : (name : List ℕ) (project new : Project) → after project (DropRoot name) ≡ Ok new → new.inputs ≡ project.inputs
drop-inputs name project new is = made-roots project new (roots_without project name) is

-- ---- macros and directories

-- what was set leaves files and roots
abbrev pub LeavesFiles : Project → Project → Type 0
LeavesFiles project new = (new.inputs.files ≡ project.inputs.files) × (new.roots ≡ project.roots)

made-macros : (project new : Project) (made : Result Macros Refusal) → result_map (with_macros project) made ≡ Ok new → LeavesFiles project new
made-macros project new (Ok macros) h =
    let same = sym (reached-same (with_macros project macros) new Refusal h) in
    (ap (λ (p : Project). p.inputs.files) same, ap (λ (p : Project). p.roots) same)
made-macros project new (Err refusal) h = absurd (cc)

made-search : (project new : Project) (made : Result (List (List ℕ)) Refusal) → result_map (with_search project) made ≡ Ok new → LeavesFiles project new
made-search project new (Ok search) h =
    let same = sym (reached-same (with_search project search) new Refusal h) in
    (ap (λ (p : Project). p.inputs.files) same, ap (λ (p : Project). p.roots) same)
made-search project new (Err refusal) h = absurd (cc)

pub define-leaves : (word body : List ℕ) (project new : Project) → after project (Define word body) ≡ Ok new → LeavesFiles project new
define-leaves word body project new is = made-macros project new (macros_with project.inputs.macros word body) is

pub search-leaves : (directories : List (List ℕ)) (project new : Project) → after project (Search directories) ≡ Ok new → LeavesFiles project new
search-leaves directories project new is = made-search project new (search_list directories) is

-- ---- the lines of the file

inserted-there : (files : Texts) (name : List ℕ) (lines : List (List ℕ)) → finite.get (finite.insert files name lines) name ≡ Some lines
inserted-there files name lines =
    get-insert nat_list_cmp_total files name lines name
    ∙ ap (λ b. cond b (Some lines) (finite.get files name)) (is_eq-slice_cmp name name ∙ nat_list_eq_equiv.refl name)

-- the files of a project that has others
made-there : (project new : Project) (name : List ℕ) (lines : List (List ℕ)) (made : Result Texts Refusal) → ((files : Texts) → made ≡ Ok files → finite.get files name ≡ Some lines)
    → result_map (with_files project) made ≡ Ok new → finite.get new.inputs.files name ≡ Some lines
made-there project new name lines (Ok files) there h =
    subst (λ (p : Project). finite.get p.inputs.files name ≡ Some lines) (reached-same (with_files project files) new Refusal h) (there files refl)
made-there project new name lines (Err refusal) there h = absurd (cc)

put-there : (files after : Texts) (name : List ℕ) (lines : List (List ℕ)) → after_put files name lines ≡ Ok after → finite.get after name ≡ Some lines
put-there files after name lines h = by (is_name name) (is_over files name lines) h
  where
    by : (a b : Bool) → cond a (cond b (Err OverLimit) (Ok (finite.insert files name lines))) (Err BadName) ≡ Ok after → finite.get after name ≡ Some lines
    by true false e = ap (λ m. finite.get m name) (sym (reached-same (finite.insert files name lines) after Refusal e)) ∙ inserted-there files name lines
    by true true e = absurd (cc)
    by false b e = absurd (cc)

-- what is put is there
pub put-lines : (name : List ℕ) (lines : List (List ℕ)) (project new : Project) → after project (Put name lines) ≡ Ok new → finite.get new.inputs.files name ≡ Some lines
put-lines name lines project new is =
    made-there project new name lines (after_put project.inputs.files name lines) (λ files h. put-there project.inputs.files files name lines h) is

removed-there : (files after : Texts) (name : List ℕ) → after_remove files name ≡ Ok after → finite.get after name ≡ None
removed-there files after name h = by (is_name name) (is_none (finite.get files name)) h
  where
    by : (a b : Bool) → cond a (cond b (Err NoSuchFile) (Ok (finite.remove files name))) (Err BadName) ≡ Ok after → finite.get after name ≡ None
    by true false e =
        ap (λ m. finite.get m name) (sym (reached-same (finite.remove files name) after Refusal e))
        ∙ get-remove nat_list_cmp_total files name name
        ∙ ap (λ b. cond b None (finite.get files name)) (is_eq-slice_cmp name name ∙ nat_list_eq_equiv.refl name)
    by true true e = absurd (cc)
    by false b e = absurd (cc)

-- what is removed isn't there
pub remove-lines : (name : List ℕ) (project new : Project) → after project (Remove name) ≡ Ok new → finite.get new.inputs.files name ≡ None
remove-lines name project new is = by (after_remove project.inputs.files name) (λ files h. removed-there project.inputs.files files name h) is
  where
    by : (made : Result Texts Refusal) → ((files : Texts) → made ≡ Ok files → finite.get files name ≡ None) → result_map (with_files project) made ≡ Ok new → finite.get new.inputs.files name ≡ None
    by (Ok files) none h = subst (λ (p : Project). finite.get p.inputs.files name ≡ None) (reached-same (with_files project files) new Refusal h) (none files refl)
    by (Err refusal) none h = absurd (cc)

splice_of-there : (files after : Texts) (name : List ℕ) (found : Option (List (List ℕ))) (old : List (List ℕ)) (from del : ℕ) (lines : List (List ℕ)) → found ≡ Some old
    → after_splice_of files name found from del lines ≡ Ok after → finite.get after name ≡ Some (spliced old from del lines)
splice_of-there files after name None old from del lines is h = absurd (cc)
splice_of-there files after name (Some o) old from del lines is h = by (is_inside o from del) (is_splice_over o from del lines) h
  where
    by : (a b : Bool) → cond a (cond b (Err OverLimit) (Ok (finite.insert files name (spliced o from del lines)))) (Err OutsideFile) ≡ Ok after
        → finite.get after name ≡ Some (spliced old from del lines)
    by true false e =
        ap (λ m. finite.get m name) (sym (reached-same (finite.insert files name (spliced o from del lines)) after Refusal e))
        ∙ inserted-there files name (spliced o from del lines)
        ∙ ap (λ (l : List (List ℕ)). Some (spliced l from del lines)) (some-same o old is)
    by true true e = absurd (cc)
    by false b e = absurd (cc)

splice-there : (files after : Texts) (name : List ℕ) (old : List (List ℕ)) (from del : ℕ) (lines : List (List ℕ)) → finite.get files name ≡ Some old
    → after_splice files name from del lines ≡ Ok after → finite.get after name ≡ Some (spliced old from del lines)
splice-there files after name old from del lines is h = by (is_name name) h
  where
    by : (a : Bool) → cond a (after_splice_of files name (finite.get files name) from del lines) (Err BadName) ≡ Ok after → finite.get after name ≡ Some (spliced old from del lines)
    by true e = splice_of-there files after name (finite.get files name) old from del lines is e
    by false e = absurd (cc)

-- what is spliced is there
pub splice-lines : (name : List ℕ) (old : List (List ℕ)) (from del : ℕ) (lines : List (List ℕ)) (project new : Project) → finite.get project.inputs.files name ≡ Some old
    → after project (Splice name from del lines) ≡ Ok new → finite.get new.inputs.files name ≡ Some (spliced old from del lines)
splice-lines name old from del lines project new there is =
    made-there project new name (spliced old from del lines) (after_splice project.inputs.files name from del lines)
    (λ files h. splice-there project.inputs.files files name old from del lines there h) is

-- ---- files that are loaded

-- files that were loaded over those of a project: of names that aren't open
pub record AreLoadedOver (told : List ℕ → Holding) (documents : List (List ℕ × Document)) (old new : Project) : Type 0 where
  pub opened : (name : List ℕ) (document : Document) → lookup (bytes_eq name) documents ≡ Some document → finite.get new.inputs.files name ≡ finite.get old.inputs.files name
  pub loaded : (name : List ℕ) (lines : List (List ℕ)) → finite.get new.inputs.files name ≡ Some lines → (finite.get old.inputs.files name ≡ Some lines) ⊎ IsFileOf told name lines
  pub macros : new.inputs.macros ≡ old.inputs.macros
  pub search : new.inputs.search ≡ old.inputs.search
  pub roots : new.roots ≡ old.roots

loaded-none : (told : List ℕ → Holding) (documents : List (List ℕ × Document)) (project : Project) → AreLoadedOver told documents project project
loaded-none told documents project = record { opened = λ name document there. refl; loaded = λ name lines is. inl is; macros = refl; search = refl; roots = refl }

loaded-both : (told : List ℕ → Holding) (documents : List (List ℕ × Document)) (a b c : Project) → AreLoadedOver told documents a b → AreLoadedOver told documents b c → AreLoadedOver told documents a c
loaded-both told documents a b c first second = record {
  opened = λ name document there. second.opened name document there ∙ first.opened name document there;
  loaded = λ name lines is. by name lines (second.loaded name lines is);
  macros = second.macros ∙ first.macros;
  search = second.search ∙ first.search;
  roots = second.roots ∙ first.roots;
}
  where
    by : (name : List ℕ) (lines : List (List ℕ)) → (finite.get b.inputs.files name ≡ Some lines) ⊎ IsFileOf told name lines → (finite.get a.inputs.files name ≡ Some lines) ⊎ IsFileOf told name lines
    by name lines (inl is) = first.loaded name lines is
    by name lines (inr are) = inr are

-- one file
loaded-put : (told : List ℕ → Holding) (documents : List (List ℕ × Document)) (name : List ℕ) (lines : List (List ℕ)) (project new : Project) → IsFileOf told name lines
    → lookup (bytes_eq name) documents ≡ None → after project (Put name lines) ≡ Ok new → AreLoadedOver told documents project new
loaded-put told documents name lines project new are closed is = record {
  opened = λ other document there. opened other document (bytes_eq name other) refl there;
  loaded = λ other ls has. loaded other ls (bytes_eq name other) refl has;
  macros = same.macros;
  search = same.search;
  roots = same.roots;
}
  where
    same : IsSameButFor name project new
    same = put-alone name lines project new is

    opened : (other : List ℕ) (document : Document) (b : Bool) → bytes_eq name other ≡ b → lookup (bytes_eq other) documents ≡ Some document
        → finite.get new.inputs.files other ≡ finite.get project.inputs.files other
    opened other document false apart there = same.files other apart
    opened other document true alike there =
        absurd (lost document (sym closed ∙ subst (λ (n : List ℕ). lookup (bytes_eq n) documents ≡ Some document) (sym ((bytes_decides name other).0 alike)) there))

    loaded : (other : List ℕ) (ls : List (List ℕ)) (b : Bool) → bytes_eq name other ≡ b → finite.get new.inputs.files other ≡ Some ls
        → (finite.get project.inputs.files other ≡ Some ls) ⊎ IsFileOf told other ls
    loaded other ls false apart has = inl (sym (same.files other apart) ∙ has)
    loaded other ls true alike has =
        let alike_names = (bytes_decides name other).0 alike in
        let there = subst (λ (n : List ℕ). finite.get new.inputs.files n ≡ Some lines) alike_names (put-lines name lines project new is) in
        inr (subst (λ (l : List (List ℕ)). IsFileOf told other l) (some-same lines ls (sym there ∙ has))
        (subst (λ (n : List ℕ). IsFileOf told n lines) alike_names are))

-- one file less
loaded-remove : (told : List ℕ → Holding) (documents : List (List ℕ × Document)) (name : List ℕ) (project new : Project)
    → lookup (bytes_eq name) documents ≡ None → after project (Remove name) ≡ Ok new → AreLoadedOver told documents project new
loaded-remove told documents name project new closed is = record {
  opened = λ other document there. opened other document (bytes_eq name other) refl there;
  loaded = λ other ls has. inl (loaded other ls (bytes_eq name other) refl has);
  macros = same.macros;
  search = same.search;
  roots = same.roots;
}
  where
    same : IsSameButFor name project new
    same = remove-alone name project new is

    opened : (other : List ℕ) (document : Document) (b : Bool) → bytes_eq name other ≡ b → lookup (bytes_eq other) documents ≡ Some document
        → finite.get new.inputs.files other ≡ finite.get project.inputs.files other
    opened other document false apart there = same.files other apart
    opened other document true alike there =
        absurd (lost document (sym closed ∙ subst (λ (n : List ℕ). lookup (bytes_eq n) documents ≡ Some document) (sym ((bytes_decides name other).0 alike)) there))

    loaded : (other : List ℕ) (ls : List (List ℕ)) (b : Bool) → bytes_eq name other ≡ b → finite.get new.inputs.files other ≡ Some ls
        → finite.get project.inputs.files other ≡ Some ls
    loaded other ls false apart has = sym (same.files other apart) ∙ has
    loaded other ls true alike has =
        absurd (gone ls (sym (remove-lines name project new is) ∙ subst (λ (n : List ℕ). finite.get new.inputs.files n ≡ Some ls) (sym ((bytes_decides name other).0 alike)) has))

-- what becomes of the rest, by what becomes of an edit
abbrev and_on : ℕ → List Edit → Result Project Refusal → Result Project (ℕ × Refusal)
and_on done more made = elim made [ Ok next ↦ after_from (done + 1) next more | Err refusal ↦ Err (done, refusal) ]

-- files, one after another
loaded-from : (told : List ℕ → Holding) (documents : List (List ℕ × Document)) (edits : List Edit) (done : ℕ) (project new : Project) → All (IsLoadedEdit told documents) edits
    → after_from done project edits ≡ Ok new → AreLoadedOver told documents project new
loaded-from told documents [] done project new are is =
    subst (λ (p : Project). AreLoadedOver told documents project p) (reached-same project new (ℕ × Refusal) is) (loaded-none told documents project)
loaded-from told documents (e ∷ edits) done project new are is =
    by (after project e) refl is (λ next h. loaded-from told documents edits (done + 1) next new (All-tail (IsLoadedEdit told documents) e edits are) h)
  where
    step : (edit : Edit) (next : Project) → IsLoadedEdit told documents edit → after project edit ≡ Ok next → AreLoadedOver told documents project next
    step (Put name lines) next one first = loaded-put told documents name lines project next one.0 one.1 first
    step (Splice name from del lines) next one first = absurd one
    step (Remove name) next one first = loaded-remove told documents name project next one first
    step (Define word body) next one first = absurd one
    step (Undef word) next one first = absurd one
    step (Search directories) next one first = absurd one
    step (AddRoot name) next one first = absurd one
    step (DropRoot name) next one first = absurd one

    by : (made : Result Project Refusal) → after project e ≡ made → and_on done edits made ≡ Ok new
        → ((next : Project) → after_from (done + 1) next edits ≡ Ok new → AreLoadedOver told documents next new) → AreLoadedOver told documents project new
    by (Ok next) first h rest =
        loaded-both told documents project next new (step e next (All-head (IsLoadedEdit told documents) e edits are) first) (rest next h)
    by (Err refusal) first h rest = absurd (cc)

pub loaded-all : (told : List ℕ → Holding) (documents : List (List ℕ × Document)) (edits : List Edit) (project new : Project) → All (IsLoadedEdit told documents) edits
    → after_all project edits ≡ Ok new → AreLoadedOver told documents project new
loaded-all told documents edits project new are is = loaded-from told documents edits 0 project new are is
