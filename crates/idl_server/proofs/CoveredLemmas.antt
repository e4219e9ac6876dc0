-- Open documents, and which of them are roots.
use Rattle.std.proofs.Common.{◌≡◌, ◌⊎◌, ◌∙◌, ◌<◌, ◌≤◌, ◌||◌, ℕ, Bool, IsTrue, true, false, cond, List, [], ◌∷◌, ◌++◌, Option, None, Some, Result, Ok, Err, arith, get_or, if◌then◌else◌, inl, inr, is_some, length, nat_le, not, refl, slice_get, sym, ap, subst, true≢false}
use Rattle.std.proofs.lemmas.List.Folds.{list_any-append, list_any_at}
use Rattle.std.proofs.lemmas.Map.Keys.{IsDistinct-head, IsDistinct-tail}
use Rattle.std.proofs.lemmas.Option.{slice_get_cases}
use Rattle.std.specs.Borrow.{Bor}
use Rattle.std.specs.Cmp.Lexicographic.{bytes_decides, nat_list_eq_equiv}
use Rattle.std.specs.List.{AllByRecursion, IsDistinct, find, list_any}
use Rattle.std.specs.Map.{lookup}
use Rattle.std.specs.Option.{IsSome, option_copied, option_map}
use Rattle.std.specs.Set.{remove_key}
use Rattle.std.specs.Str.{bytes_eq}
use Rattle.idl_source.specs.Limits.{most_roots}
use Rattle.idl_source.specs.names.Name.{is_name}
use Rattle.idl_source.specs.declared.refusal.Refusal.{Refusal}
use Rattle.idl_source.specs.declared.refusal.Refusal.TheVariants.{BadName, NoSuchRoot, OverLimit, RootThere}
use Rattle.idl_project.specs.idl_sources.Compile.{compiled_root}
use Rattle.idl_project.specs.Edited.{IsRefused}
use Rattle.idl_inputs.specs.Edits.{AddRoot, DropRoot, after, result_map}
use Rattle.idl_inputs.specs.Project.{Project, is_root, with_roots}
use Rattle.idl_project.specs.UpToDate.{State, findings_of}
use Rattle.idl_inputs.specs.WellFormed.{IsWellFormed}
use Rattle.idl_project.specs.idl_sources.declared.compile.CompiledRoot.{CompiledRoot}
use Rattle.idl_editor.specs.documents.Documents.{AreSameBeside, texts_of}
use Rattle.idl_server.specs.Files.{IsKept}
use Rattle.idl_server.specs.Named.{asks_for, root_with}
use Rattle.idl_server.specs.Roots.{AddsNoRoot, AreCovered, AreRooted, IsCompiled, IsFull, IsOpen, IsRooted, IsThere, IsWaiting}
use Rattle.idl_editor.specs.declared.documents.document.Document.{Document}
use Rattle.idl_server.specs.declared.workspace.Workspace.{Workspace}

-- ---- how many roots there are

-- an element is there or not
abbrev Found : List (List ℕ) → ℕ → Type 0
Found roots at = ((x : List ℕ) × (at < length roots) × (slice_get roots at ≡ Some x) × (get_or roots at x ≡ x)) ⊎ ((length roots ≤ at) × (slice_get roots at ≡ None))

-- where the last root that may be is there, there are as many as there may be
pub full-there : (project : Project) (at : ℕ) (root : Option (List ℕ)) → at ≡ 255 → root ≡ slice_get project.roots at → IsSome root → IsFull project
full-there project at root last is some = by (slice_get_cases project.roots at).1
  where
    full : (n : ℕ) → 255 < n → 256 ≤ n
    full n h = omega (arith, h)

    by : Found project.roots at → IsFull project
    by (inl w) = full (length project.roots) (subst (λ (n : ℕ). n < length project.roots) last w.1)
    by (inr w) = absurd (true≢false (sym some ∙ ap (λ (o : Option (List ℕ)). is_some o) (is ∙ w.1)))

pub copied-some : {X : Type 0} (found : Option (Bor X)) → is_some (option_copied found) ≡ is_some found
copied-some (Some x) = refl
copied-some None = refl

-- nothing is told of what is no root
pub unrooted : (project : Project) (name : List ℕ) → is_root project name ≡ false → findings_of project name ≡ None
unrooted project name rootless = λ i. option_map (λ (root : CompiledRoot). root.rows.findings) (if rootless i then Some (compiled_root project.inputs name) else None)

-- no document stays turned away, or there are as many roots as there may be
pub room-called : (project : Project) (names : List (List ℕ)) (last : Option (List ℕ)) → last ≡ slice_get project.roots 255 → (names ≡ []) ⊎ IsSome last → (names ≡ []) ⊎ IsFull project
room-called project names last is (inl none) = inl none
room-called project names last is (inr some) = inr (full-there project 255 last refl is some)

-- ---- names that roots ask for

-- an element that passes is found
found-more : {X : Type 0} (p : X → Bool) (x : X) (xs : List X) (b : Bool) → (list_any p xs ≡ true → IsSome (find p xs)) → (b || list_any p xs) ≡ true → IsSome (cond b (Some x) (find p xs))
found-more p x xs true rest any = refl
found-more p x xs false rest any = rest any

found-any : {X : Type 0} (p : X → Bool) (xs : List X) → list_any p xs ≡ true → IsSome (find p xs)
found-any p [] any = absurd (true≢false (sym any))
found-any p (x ∷ xs) any = found-more p x xs (p x) (found-any p xs) any

pub found-at : {X : Type 0} (p : X → Bool) (xs : List X) (i : ℕ) (x : X) → i < length xs → x ≡ get_or xs i x → p x ≡ true → IsSome (find p xs)
found-at p xs i x within is passes = found-any p xs (list_any_at p xs i x within (ap p (sym is) ∙ passes))

-- a name is taken out of others
pub one-taken : (asked : List (List ℕ)) (i : ℕ) (item name : List ℕ) (old new : List (List ℕ)) → i < length asked → item ≡ get_or asked i item
    → list_any (bytes_eq name) new ≡ cond (bytes_eq item name) false (list_any (bytes_eq name) old) → list_any (bytes_eq name) old ≡ true
    → (list_any (bytes_eq name) new ≡ true) ⊎ (list_any (λ a. bytes_eq a name) asked ≡ true)
one-taken asked i item name old new within is removed there = by (bytes_eq item name) refl removed
  where
    by : (b : Bool) → bytes_eq item name ≡ b → list_any (bytes_eq name) new ≡ cond b false (list_any (bytes_eq name) old)
        → (list_any (bytes_eq name) new ≡ true) ⊎ (list_any (λ a. bytes_eq a name) asked ≡ true)
    by true alike r = inr (list_any_at (λ a. bytes_eq a name) asked i item within (ap (λ (a : List ℕ). bytes_eq a name) (sym is) ∙ alike))
    by false apart r = inl (r ∙ there)

pub still-there : (b old new : Bool) → new ≡ cond b false old → new ≡ true → old ≡ true
still-there true old new removed there = absurd (true≢false (sym there ∙ removed))
still-there false old new removed there = sym removed ∙ there

-- a name more is taken out of those that are left
pub taken-more : (asked : List (List ℕ)) (i : ℕ) (item : List ℕ) (first old new : List (List ℕ)) → i < length asked → item ≡ get_or asked i item
    → ((q : List ℕ) → list_any (bytes_eq q) new ≡ cond (bytes_eq item q) false (list_any (bytes_eq q) old))
    → ((name : List ℕ) → list_any (bytes_eq name) first ≡ true → (list_any (bytes_eq name) old ≡ true) ⊎ (list_any (λ a. bytes_eq a name) asked ≡ true))
    → (name : List ℕ) → list_any (bytes_eq name) first ≡ true → (list_any (bytes_eq name) new ≡ true) ⊎ (list_any (λ a. bytes_eq a name) asked ≡ true)
taken-more asked i item first old new within is removed before name there = by (before name there)
  where
    by : (list_any (bytes_eq name) old ≡ true) ⊎ (list_any (λ a. bytes_eq a name) asked ≡ true) → (list_any (bytes_eq name) new ≡ true) ⊎ (list_any (λ a. bytes_eq a name) asked ≡ true)
    by (inl left) = one-taken asked i item name old new within is (removed name) left
    by (inr asks) = inr asks

-- the first name is one of them
pub first-there : (names : List (List ℕ)) (name : List ℕ) → slice_get names 0 ≡ Some name → list_any (bytes_eq name) names ≡ true
first-there names name is = by (slice_get_cases names 0).1
  where
    same : (a b : List ℕ) → Some a ≡ Some b → a ≡ b
    same a b h = cc

    by : Found names 0 → list_any (bytes_eq name) names ≡ true
    by (inl w) =
        let alike : w.0 ≡ name = same w.0 name (sym w.2 ∙ is) in
        list_any_at (bytes_eq name) names 0 w.0 w.1 (ap (bytes_eq name) (w.3 ∙ alike) ∙ nat_list_eq_equiv.refl name)
    by (inr w) =
        let both : Some name ≡ None = sym is ∙ w.1 in
        absurd (cc)

-- of no names none is there
pub none-there : (names : List (List ℕ)) (name : List ℕ) → length names ≡ 0 → list_any (bytes_eq name) names ≡ true → ⊥
none-there [] name empty there = absurd (true≢false (sym there))
none-there (x ∷ names) name empty there = absurd (omega (arith, empty))

pub first-none : (names : List (List ℕ)) → slice_get names 0 ≡ None → length names ≡ 0
first-none [] is = refl
first-none (x ∷ names) is = absurd (cc)

-- ---- documents that wait

-- the first of some documents, and those that are left
first-or-left : (name key : List ℕ) (document : Document) (rest : List (List ℕ × Document)) → IsSome (lookup (bytes_eq name) ((key, document) ∷ rest))
    → (name ≡ key) ⊎ IsSome (lookup (bytes_eq name) rest)
first-or-left name key document rest some = by (bytes_eq name key) refl some
  where
    by : (b : Bool) → bytes_eq name key ≡ b → IsSome (cond b (Some document) (lookup (bytes_eq name) rest)) → (name ≡ key) ⊎ IsSome (lookup (bytes_eq name) rest)
    by true alike h = inl ((bytes_decides name key).0 alike)
    by false apart h = inr h

first-in-all : (key : List ℕ) (document : Document) (rest : List (List ℕ × Document)) → IsSome (lookup (bytes_eq key) ((key, document) ∷ rest))
first-in-all key document rest = ap (λ (b : Bool). is_some (cond b (Some document) (lookup (bytes_eq key) rest))) (nat_list_eq_equiv.refl key)

left-in-all : (name key : List ℕ) (document : Document) (rest : List (List ℕ × Document)) → IsSome (lookup (bytes_eq name) rest) → IsSome (lookup (bytes_eq name) ((key, document) ∷ rest))
left-in-all name key document rest some = by (bytes_eq name key)
  where
    by : (b : Bool) → IsSome (cond b (Some document) (lookup (bytes_eq name) rest))
    by true = refl
    by false = some

-- each document that waits is among these names, or among those that are left; and all of them are open
pub record AreGathered (w : Workspace) (left : List (List ℕ × Document)) (names : List (List ℕ)) : Type 0 where
  pub all : (name : List ℕ) → IsWaiting w name → IsSome (lookup (bytes_eq name) left) ⊎ (list_any (bytes_eq name) names ≡ true)
  pub opened : (name : List ℕ) → list_any (bytes_eq name) names ≡ true → IsOpen w name
  pub among : (name : List ℕ) → IsSome (lookup (bytes_eq name) left) → IsOpen w name

pub gathers-none : (w : Workspace) (left : List (List ℕ × Document)) (names : List (List ℕ)) → left ≡ w.documents.entries → names ≡ [] → AreGathered w left names
gathers-none w left names is none = record {
  all = λ name waits. inl (subst (λ (ds : List (List ℕ × Document)). IsSome (lookup (bytes_eq name) ds)) (sym is) waits.opened);
  opened = λ name there. absurd (true≢false (sym there ∙ (λ i. list_any (bytes_eq name) (none i))));
  among = λ name some. subst (λ (ds : List (List ℕ × Document)). IsSome (lookup (bytes_eq name) ds)) is some;
}

among-left : (w : Workspace) (left : List (List ℕ × Document)) (key : List ℕ) (document : Document) (rest : List (List ℕ × Document)) → left ≡ (key, document) ∷ rest
    → ((name : List ℕ) → IsSome (lookup (bytes_eq name) left) → IsOpen w name) → (name : List ℕ) → IsSome (lookup (bytes_eq name) ((key, document) ∷ rest)) → IsOpen w name
among-left w left key document rest is among name some =
    among name (subst (λ (ds : List (List ℕ × Document)). IsSome (lookup (bytes_eq name) ds)) (sym is) some)

-- one document that doesn't wait
pub gathers-passed : (w : Workspace) (left : List (List ℕ × Document)) (key : List ℕ) (document : Document) (rest : List (List ℕ × Document)) (names : List (List ℕ)) → left ≡ (key, document) ∷ rest
    → (IsWaiting w key → ⊥) → AreGathered w left names → AreGathered w rest names
gathers-passed w left key document rest names is passed are = record {
  all = λ name waits. by name waits (are.all name waits);
  opened = are.opened;
  among = λ name some. among-left w left key document rest is are.among name (left-in-all name key document rest some);
}
  where
    on : (name : List ℕ) → IsWaiting w name → (name ≡ key) ⊎ IsSome (lookup (bytes_eq name) rest) → IsSome (lookup (bytes_eq name) rest) ⊎ (list_any (bytes_eq name) names ≡ true)
    on name waits (inl same) = absurd (passed (subst (λ (n : List ℕ). IsWaiting w n) same waits))
    on name waits (inr some) = inl some

    by : (name : List ℕ) → IsWaiting w name → IsSome (lookup (bytes_eq name) left) ⊎ (list_any (bytes_eq name) names ≡ true)
        → IsSome (lookup (bytes_eq name) rest) ⊎ (list_any (bytes_eq name) names ≡ true)
    by name waits (inl some) =
        on name waits (first-or-left name key document rest (subst (λ (ds : List (List ℕ × Document)). IsSome (lookup (bytes_eq name) ds)) is some))
    by name waits (inr there) = inr there

-- one that does
pub gathers-one : (w : Workspace) (left : List (List ℕ × Document)) (key : List ℕ) (document : Document) (rest : List (List ℕ × Document)) (names new : List (List ℕ)) → left ≡ (key, document) ∷ rest
    → ((q : List ℕ) → list_any (bytes_eq q) new ≡ cond (bytes_eq key q) true (list_any (bytes_eq q) names)) → AreGathered w left names → AreGathered w rest new
gathers-one w left key document rest names new is made are = record {
  all = λ name waits. by name (are.all name waits);
  opened = λ name there. from name (bytes_eq key name) refl (sym (made name) ∙ there);
  among = λ name some. among-left w left key document rest is are.among name (left-in-all name key document rest some);
}
  where
    from : (name : List ℕ) (b : Bool) → bytes_eq key name ≡ b → cond b true (list_any (bytes_eq name) names) ≡ true → IsOpen w name
    from name true alike there =
        subst (λ (n : List ℕ). IsOpen w n) ((bytes_decides key name).0 alike) (among-left w left key document rest is are.among key (first-in-all key document rest))
    from name false apart there = are.opened name there

    kept : (b old : Bool) → old ≡ true → cond b true old ≡ true
    kept true old there = refl
    kept false old there = there

    on : (name : List ℕ) → (name ≡ key) ⊎ IsSome (lookup (bytes_eq name) rest) → IsSome (lookup (bytes_eq name) rest) ⊎ (list_any (bytes_eq name) new ≡ true)
    on name (inl same) =
        inr (made name ∙ ap (λ (b : Bool). cond b true (list_any (bytes_eq name) names)) (ap (λ (n : List ℕ). bytes_eq n name) (sym same) ∙ nat_list_eq_equiv.refl name))
    on name (inr some) = inl some

    by : (name : List ℕ) → IsSome (lookup (bytes_eq name) left) ⊎ (list_any (bytes_eq name) names ≡ true) → IsSome (lookup (bytes_eq name) rest) ⊎ (list_any (bytes_eq name) new ≡ true)
    by name (inl some) =
        on name (first-or-left name key document rest (subst (λ (ds : List (List ℕ × Document)). IsSome (lookup (bytes_eq name) ds)) is some))
    by name (inr there) = inr (made name ∙ kept (bytes_eq key name) (list_any (bytes_eq name) names) there)

-- none is left
pub gathered-all : (w : Workspace) (left : List (List ℕ × Document)) (names : List (List ℕ)) → left ≡ [] → AreGathered w left names → (name : List ℕ) → IsWaiting w name → list_any (bytes_eq name) names ≡ true
gathered-all w left names none are name waits = by (are.all name waits)
  where
    by : IsSome (lookup (bytes_eq name) left) ⊎ (list_any (bytes_eq name) names ≡ true) → list_any (bytes_eq name) names ≡ true
    by (inl some) = absurd (true≢false (sym (subst (λ (ds : List (List ℕ × Document)). IsSome (lookup (bytes_eq name) ds)) none some)))
    by (inr there) = there

-- each document that waits is among these names, or a root asks for it; and the names are open
pub record AreLeft (w : Workspace) (names : List (List ℕ)) : Type 0 where
  pub all : (name : List ℕ) → IsWaiting w name → (list_any (bytes_eq name) names ≡ true) ⊎ IsSome (root_with w.session.project name)
  pub opened : (name : List ℕ) → list_any (bytes_eq name) names ≡ true → IsOpen w name

-- one root more takes out what it asks for
pub left-asked : (w : Workspace) (roots : List (List ℕ)) (i : ℕ) (root : List ℕ) (old new : List (List ℕ)) → roots ≡ w.session.project.roots → i < length roots → root ≡ get_or roots i root
    → ((name : List ℕ) → list_any (bytes_eq name) old ≡ true → (list_any (bytes_eq name) new ≡ true) ⊎ (asks_for w.session.project name root ≡ true))
    → ((name : List ℕ) → list_any (bytes_eq name) new ≡ true → list_any (bytes_eq name) old ≡ true) → AreLeft w old → AreLeft w new
left-asked w roots i root old new same within is asked few are = record {
  all = λ name waits. by name (are.all name waits);
  opened = λ name there. are.opened name (few name there);
}
  where
    on : (name : List ℕ) → (list_any (bytes_eq name) new ≡ true) ⊎ (asks_for w.session.project name root ≡ true) → (list_any (bytes_eq name) new ≡ true) ⊎ IsSome (root_with w.session.project name)
    on name (inl there) = inl there
    on name (inr asks) =
        inr (subst (λ (rs : List (List ℕ)). IsSome (find (asks_for w.session.project name) rs)) same (found-at (asks_for w.session.project name) roots i root within is asks))

    by : (name : List ℕ) → (list_any (bytes_eq name) old ≡ true) ⊎ IsSome (root_with w.session.project name) → (list_any (bytes_eq name) new ≡ true) ⊎ IsSome (root_with w.session.project name)
    by name (inl there) = on name (asked name there)
    by name (inr some) = inr some

-- nothing is left
pub left-none : (w : Workspace) (names : List (List ℕ)) → length names ≡ 0 → AreLeft w names → (name : List ℕ) → IsWaiting w name → IsSome (root_with w.session.project name)
left-none w names none are name waits = by (are.all name waits)
  where
    by : (list_any (bytes_eq name) names ≡ true) ⊎ IsSome (root_with w.session.project name) → IsSome (root_with w.session.project name)
    by (inl there) = absurd (none-there names name none there)
    by (inr some) = some

-- ---- open documents

-- those that wait are asked for, and none was turned away where there may be a further root
pub all-covered : (w : Workspace) → (w.turned_away.keys ≡ []) ⊎ IsFull w.session.project → ((other : List ℕ) → IsWaiting w other → IsSome (root_with w.session.project other)) → AreCovered w
all-covered w room asked = λ name opened there. by name opened there room
  where
    here : (name : List ℕ) → IsOpen w name → IsThere w.session.project name → w.turned_away.keys ≡ [] → (b : Bool) → is_root w.session.project name ≡ b → IsCompiled w.session.project name
    here name opened there none true is = inl is
    here name opened there none false is =
        inr (asked name (record { opened = opened; there = there; rootless = is; welcome = ap (λ (keys : List (List ℕ)). list_any (bytes_eq name) keys) none }))

    by : (name : List ℕ) → IsOpen w name → IsThere w.session.project name → (w.turned_away.keys ≡ []) ⊎ IsFull w.session.project → IsCompiled w.session.project name ⊎ IsFull w.session.project
    by name opened there (inl none) = inl (here name opened there none (is_root w.session.project name) refl)
    by name opened there (inr full) = inr full

pub open-alike : (old new : Workspace) (name : List ℕ) → new.documents ≡ old.documents → IsOpen old name → IsOpen new name
open-alike old new name documents opened = subst (λ (o : Option Document). IsSome o) (λ i. lookup (bytes_eq name) (sym documents i).entries) opened

pub covered-kept : (old new : Workspace) → IsKept old new → AreCovered old → AreCovered new
covered-kept old new kept are = λ name opened there.
    subst (λ (s : State). IsCompiled s.project name ⊎ IsFull s.project) (sym kept.session)
    (are name (open-alike new old name (sym kept.documents) opened) (subst (λ (s : State). IsThere s.project name) kept.session there))

-- ---- roots that are open

-- the same roots
pub adds-none : (old new : Project) → new.roots ≡ old.roots → AddsNoRoot old new
adds-none old new roots = λ name root. (λ i. list_any (bytes_eq name) (sym roots i)) ∙ root

pub rooted-fewer : (old new : Workspace) → AddsNoRoot old.session.project new.session.project → new.documents ≡ old.documents → AreRooted old → AreRooted new
rooted-fewer old new fewer documents are = λ name root. open-alike old new name documents (are name (fewer name root))

pub rooted-kept : (old new : Workspace) → IsKept old new → AreRooted old → AreRooted new
rooted-kept old new kept are =
    rooted-fewer old new (adds-none old.session.project new.session.project (λ i. (kept.session i).project.roots)) kept.documents are

-- one name, and all beside it
pub rooted-beside : (name : List ℕ) (old new : Workspace) → AddsNoRoot old.session.project new.session.project → AreSameBeside name old.documents.entries new.documents.entries → IsRooted new name
    → AreRooted old → AreRooted new
rooted-beside name old new fewer documents here are = λ other root. by other (bytes_eq name other) refl root
  where
    by : (other : List ℕ) (b : Bool) → bytes_eq name other ≡ b → is_root new.session.project other ≡ true → IsOpen new other
    by other true alike root = subst (λ (n : List ℕ). IsRooted new n) ((bytes_decides name other).0 alike) here root
    by other false apart root = subst (λ (o : Option Document). IsSome o) (sym (documents other apart)) (are other (fewer other root))

-- a document that has a text is open
pub text-open : (w : Workspace) (name text : List ℕ) → texts_of w.documents.entries name ≡ Some text → IsOpen w name
text-open w name text is = by (lookup (bytes_eq name) w.documents.entries) is
  where
    by : (found : Option Document) → option_map (λ d. d.text.items) found ≡ Some text → IsSome found
    by (Some d) h = refl
    by None h = absurd (cc)

-- a document that had a text has one
pub rooted-changed : (name : List ℕ) (f : List ℕ → List ℕ) (old new : Workspace) → AddsNoRoot old.session.project new.session.project
    → AreSameBeside name old.documents.entries new.documents.entries → texts_of new.documents.entries name ≡ option_map f (texts_of old.documents.entries name) → AreRooted old → AreRooted new
rooted-changed name f old new fewer documents text are =
    rooted-beside name old new fewer documents (λ root. by (lookup (bytes_eq name) old.documents.entries) refl (are name (fewer name root)) text) are
  where
    by : (found : Option Document) → lookup (bytes_eq name) old.documents.entries ≡ found → IsSome found → texts_of new.documents.entries name ≡ option_map f (option_map (λ d. d.text.items) found) → IsOpen new name
    by (Some d) is some h = text-open new name (f d.text.items) h
    by None is some h = absurd (true≢false (sym some))

-- one root more
added-roots : (name : List ℕ) (project new : Project) → after project (AddRoot name) ≡ Ok new → new.roots ≡ project.roots ++ name ∷ []
added-roots name project new is = by (is_name name) (is_root project name) (nat_le most_roots (length project.roots)) is
  where
    same : (a b : Project) → ◌≡◌ {A = Result Project Refusal} (Ok a) (Ok b) → a ≡ b
    same a b h = cc

    by : (a b c : Bool) → result_map (with_roots project) (cond (not a) (Err BadName) (cond b (Err RootThere) (cond c (Err OverLimit) (Ok (project.roots ++ name ∷ []))))) ≡ Ok new
        → new.roots ≡ project.roots ++ name ∷ []
    by true false false h = ap (λ (p : Project). p.roots) (sym (same (with_roots project (project.roots ++ name ∷ [])) new h))
    by false b c h = absurd (cc)
    by true true c h = absurd (cc)
    by true false true h = absurd (cc)

pub rooted-added : (name : List ℕ) (old new : Workspace) → after old.session.project (AddRoot name) ≡ Ok new.session.project → new.documents ≡ old.documents → IsOpen old name
    → AreRooted old → AreRooted new
rooted-added name old new is documents opened are = λ other root.
    open-alike old new other documents
    (by other (is_root old.session.project other) (bytes_eq other name) refl refl
    (sym (list_any-append (bytes_eq other) old.session.project.roots (name ∷ []))
    ∙ (λ i. list_any (bytes_eq other) (sym (added-roots name old.session.project new.session.project is) i)) ∙ root))
  where
    by : (other : List ℕ) (a b : Bool) → is_root old.session.project other ≡ a → bytes_eq other name ≡ b → (a || (b || false)) ≡ true → IsOpen old other
    by other true b is_there alike h = are other is_there
    by other false true is_there alike h = subst (λ (n : List ℕ). IsOpen old n) (sym ((bytes_decides other name).0 alike)) opened
    by other false false is_there alike h = absurd (true≢false (sym h))

-- one root less
dropped-roots : (name : List ℕ) (project new : Project) → after project (DropRoot name) ≡ Ok new → new.roots ≡ remove_key (bytes_eq name) project.roots
dropped-roots name project new is = by (is_name name) (is_root project name) is
  where
    same : (a b : Project) → ◌≡◌ {A = Result Project Refusal} (Ok a) (Ok b) → a ≡ b
    same a b h = cc

    by : (a b : Bool) → result_map (with_roots project) (cond (not a) (Err BadName) (cond b (Ok (remove_key (bytes_eq name) project.roots)) (Err NoSuchRoot))) ≡ Ok new
        → new.roots ≡ remove_key (bytes_eq name) project.roots
    by true true h = ap (λ (p : Project). p.roots) (sym (same (with_roots project (remove_key (bytes_eq name) project.roots)) new h))
    by true false h = absurd (cc)
    by false b h = absurd (cc)

-- what is left was there
left-more : (test : List ℕ → Bool) (name x : List ℕ) (xs rest : List (List ℕ)) (b c : Bool) → (list_any (bytes_eq name) rest ≡ true → list_any (bytes_eq name) xs ≡ true) → bytes_eq name x ≡ c
    → list_any (bytes_eq name) (cond b xs (x ∷ rest)) ≡ true → list_any (bytes_eq name) (x ∷ xs) ≡ true
left-more test name x xs rest b true were is there = ap (λ (c : Bool). c || list_any (bytes_eq name) xs) is
left-more test name x xs rest true false were is there = ap (λ (c : Bool). c || list_any (bytes_eq name) xs) is ∙ there
left-more test name x xs rest false false were is there =
    ap (λ (c : Bool). c || list_any (bytes_eq name) xs) is ∙ were (sym (ap (λ (c : Bool). c || list_any (bytes_eq name) rest) is) ∙ there)

left-there : (test : List ℕ → Bool) (name : List ℕ) (names : List (List ℕ)) → list_any (bytes_eq name) (remove_key test names) ≡ true → list_any (bytes_eq name) names ≡ true
left-there test name [] there = there
left-there test name (x ∷ xs) there = left-more test name x xs (remove_key test xs) (test x) (bytes_eq name x) (left-there test name xs) refl there

pub drops-root : (name : List ℕ) (old new : Project) → after old (DropRoot name) ≡ Ok new → AddsNoRoot old new
drops-root name old new is = λ other root.
    left-there (bytes_eq name) other old.roots ((λ i. list_any (bytes_eq other) (sym (dropped-roots name old new is) i)) ∙ root)

-- what was there once is gone
none-later : (x : List ℕ) (xs : List (List ℕ)) → AllByRecursion (λ y. bytes_eq x y ≡ false) xs → list_any (bytes_eq x) xs ≡ false
none-later x [] apart = refl
none-later x (y ∷ xs) apart = ap (λ (b : Bool). b || list_any (bytes_eq x) xs) apart.0 ∙ none-later x xs apart.1

gone-once : (name : List ℕ) (names : List (List ℕ)) → IsDistinct bytes_eq names → list_any (bytes_eq name) (remove_key (bytes_eq name) names) ≡ false
gone-once name [] once = refl
gone-once name (x ∷ xs) once = by (bytes_eq name x) refl (gone-once name xs (IsDistinct-tail bytes_eq x xs once))
  where
    by : (b : Bool) → bytes_eq name x ≡ b → list_any (bytes_eq name) (remove_key (bytes_eq name) xs) ≡ false
        → list_any (bytes_eq name) (cond b xs (x ∷ remove_key (bytes_eq name) xs)) ≡ false
    by true alike rest =
        subst (λ (n : List ℕ). list_any (bytes_eq n) xs ≡ false) (sym ((bytes_decides name x).0 alike)) (none-later x xs (IsDistinct-head bytes_eq x xs once))
    by false apart rest = ap (λ (b : Bool). b || list_any (bytes_eq name) (remove_key (bytes_eq name) xs)) apart ∙ rest

pub root-gone : (name : List ℕ) (old new : Project) → IsWellFormed old → after old (DropRoot name) ≡ Ok new → is_root new name ≡ false
root-gone name old new formed is =
    (λ i. list_any (bytes_eq name) (dropped-roots name old new is i)) ∙ gone-once name old.roots formed.roots_once

-- what is refused to be dropped is no root
pub none-dropped : (name : List ℕ) (old new : State) (refusal : Refusal) → IsTrue (is_name name) → IsRefused (DropRoot name) old new refusal → is_root old.project name ≡ false
none-dropped name old new refusal named refused =
    by (is_name name) (is_root old.project name) named (refused.least (λ memory. true≢false (sym (refused.memory memory))))
  where
    by : (a b : Bool) → a ≡ true → result_map (with_roots old.project) (cond (not a) (Err BadName) (cond b (Ok (remove_key (bytes_eq name) old.project.roots)) (Err NoSuchRoot))) ≡ Err refusal → b ≡ false
    by true true is h = absurd (cc)
    by true false is h = refl
    by false b is h = absurd (true≢false (sym is))
