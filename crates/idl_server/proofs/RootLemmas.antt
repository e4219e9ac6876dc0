-- Roots, one after another, and names that are gathered.
use Rattle.std.proofs.Common.{◌≡◌, ◌⊎◌, ◌∙◌, ◌+◌, ◌<◌, ◌≤◌, ℕ, All, Bool, ◌||◌, true, false, cond, List, [], ◌∷◌, ◌++◌, None, Some, arith, get_or, if◌then◌else◌, inl, inr, length, refl, slice_get, sym, ap, subst, take}
use Rattle.std.proofs.lemmas.List.{take_more}
use Rattle.std.proofs.lemmas.List.Elements.{All-cons, All-nil, All-push}
use Rattle.std.proofs.lemmas.Option.{get_or_from_slice_get, slice_get_cases}
use Rattle.std.specs.Cmp.Lexicographic.{nat_list_eq_equiv}
use Rattle.std.specs.List.{list_any}
use Rattle.std.specs.Option.{option_map}
use Rattle.std.specs.Str.{bytes_eq}
use Rattle.indexmap.specs.IndexSet.{insert_key}
use Rattle.idl_project.specs.idl_sources.Compile.{compiled_root}
use Rattle.idl_inputs.specs.Project.{Project, is_root}
use Rattle.idl_project.specs.UpToDate.{absent_of}
use Rattle.idl_project.specs.idl_sources.declared.compile.CompiledRoot.{CompiledRoot}
use Rattle.idl_server.specs.Files.{IsNamed, IsTried}
use Rattle.idl_editor.specs.declared.documents.document.Document.{Document}
use Rattle.idl_server.specs.declared.workspace.Workspace.{Workspace}
use Rattle.idl_server.proofs.FileLemmas.{gone, some-same}

-- an element is there or not
abbrev Found : List (List ℕ) → ℕ → Type 0
Found roots at = ((x : List ℕ) × (at < length roots) × (slice_get roots at ≡ Some x) × (get_or roots at x ≡ x)) ⊎ ((length roots ≤ at) × (slice_get roots at ≡ None))

-- one root more
pub roots-more : (roots : List (List ℕ)) (at : ℕ) (root : List ℕ) (names : List (List ℕ)) → slice_get roots at ≡ Some root → names ≡ take at roots ++ root ∷ []
    → (names ≡ take (at + 1) roots) × (at + 1 ≤ length roots)
roots-more roots at root names is made = by (slice_get_cases roots at).1
  where
    by : Found roots at → (names ≡ take (at + 1) roots) × (at + 1 ≤ length roots)
    by (inl w) = (
      made ∙ ap (λ (x : List ℕ). take at roots ++ x ∷ []) (sym (get_or_from_slice_get roots at root root is)) ∙ sym (take_more roots at root w.1),
      omega (arith, w.1),
    )
    by (inr w) =
        let both : Some root ≡ None = sym is ∙ w.1 in
        absurd (cc)

or-right : (a b : Bool) → b ≡ true → (a || b) ≡ true
or-right true b h = refl
or-right false b h = h

or-left : (a b : Bool) → a ≡ true → (a || b) ≡ true
or-left a b h = ap (λ c. c || b) h

-- each of these is among those
among : (all some : List (List ℕ)) → ((x : List ℕ) → list_any (bytes_eq x) some ≡ true → list_any (bytes_eq x) all ≡ true) → All (λ x. list_any (bytes_eq x) all ≡ true) some
among all [] are = All-nil (λ x. list_any (bytes_eq x) all ≡ true)
among all (y ∷ some) are =
    All-cons (λ x. list_any (bytes_eq x) all ≡ true) y some
    (are y (or-left (bytes_eq y y) (list_any (bytes_eq y) some) (nat_list_eq_equiv.refl y)))
    (among all some (λ x h. are x (or-right (bytes_eq x y) (list_any (bytes_eq x) some) h)))

pub each-among : (all : List (List ℕ)) → All (λ x. list_any (bytes_eq x) all ≡ true) all
each-among all = among all all (λ x h. h)

-- what holds of names and of one more
pub all-inserted : (P : List ℕ → Type 0) (names : List (List ℕ)) (name : List ℕ) → All P names → P name → All P (insert_key bytes_eq names name)
all-inserted P names name all one = by (list_any (bytes_eq name) names)
  where
    by : (b : Bool) → All P (if b then names else names ++ name ∷ [])
    by true = all
    by false = All-push P names name all one

-- with one more those that were among them are, and that one is
pub still-among : (documents : List (List ℕ × Document)) (names new : List (List ℕ)) (name : List ℕ) → ((q : List ℕ) → list_any (bytes_eq q) new ≡ cond (bytes_eq name q) true (list_any (bytes_eq q) names))
    → (q : List ℕ) → IsNamed names documents q → IsNamed new documents q
still-among documents names new name made q (inl there) = inl (made q ∙ either (bytes_eq name q) (list_any (bytes_eq q) names) there)
  where
    either : (b c : Bool) → c ≡ true → cond b true c ≡ true
    either true c there = refl
    either false c there = there
still-among documents names new name made q (inr opened) = inr opened

pub one-among : (documents : List (List ℕ × Document)) (names new : List (List ℕ)) (name : List ℕ) → ((q : List ℕ) → list_any (bytes_eq q) new ≡ cond (bytes_eq name q) true (list_any (bytes_eq q) names))
    → IsNamed new documents name
one-among documents names new name made = inl (made name ∙ ap (λ (b : Bool). cond b true (list_any (bytes_eq name) names)) (nat_list_eq_equiv.refl name))

-- with one more there is one
pub some-inserted : (names : List (List ℕ)) (name : List ℕ) → insert_key bytes_eq names name ≡ [] → ⊥
some-inserted [] name h = absurd (cc)
some-inserted (x ∷ names) name h = by (list_any (bytes_eq name) (x ∷ names)) h
  where
    by : (b : Bool) → (if b then x ∷ names else (x ∷ names) ++ name ∷ []) ≡ [] → ⊥
    by true e = absurd (cc)
    by false e = absurd (cc)

-- ---- what a root asks for

absent-root : (project : Project) (root : List ℕ) → is_root project root ≡ true → absent_of project root ≡ Some (compiled_root project.inputs root).absent
absent-root project root is =
    ap (λ (b : Bool). option_map (λ (r : CompiledRoot). r.absent) (if b then Some (compiled_root project.inputs root) else None)) is

pub absent-tried : (w : Workspace) (root bytes : List ℕ) (absent : List (List ℕ)) → is_root w.session.project root ≡ true → bytes ≡ root → Some absent ≡ absent_of w.session.project bytes
    → All (IsTried w) absent → All (IsTried w) (compiled_root w.session.project.inputs root).absent
absent-tried w root bytes absent is same there all =
    subst (λ (names : List (List ℕ)). All (IsTried w) names)
    (some-same absent _ (there ∙ ap (absent_of w.session.project) same ∙ absent-root w.session.project root is)) all

pub root-lost : (project : Project) (root bytes : List ℕ) → is_root project root ≡ true → bytes ≡ root → None ≡ absent_of project bytes → ⊥
root-lost project root bytes is same none = gone _ (none ∙ ap (absent_of project) same ∙ absent-root project root is)
