-- The roots that are held: what is found among them, and what is held with one more or one less.
use Rattle.std.proofs.Common.{◌≡◌, ℕ, Bool, true, false, cond, ◌||◌, List, [], ◌∷◌, ◌++◌, All, Contains, IsTrue, Option, None, Some, is_some, length, map, map-id, arith, subst, refl, sym, ap, ◌∙◌, if◌then◌else◌}
use Rattle.std.proofs.lemmas.Bool.{le-ltb, true≢false}
use Rattle.std.proofs.lemmas.Map.Keys.{IsDistinct-head, IsDistinct-tail}
use Rattle.std.proofs.lemmas.Map.Made.{is_some-lookup}
use Rattle.std.proofs.lemmas.List.{length-map, map-append}
use Rattle.std.proofs.lemmas.List.Elements.{All-cons, All-head, All-nil, All-tail, All-push, All-contains_itself}
use Rattle.std.specs.List.{list_any, AllByRecursion, IsDistinct}
use Rattle.std.specs.Prelude.{nat_lt, slice_set}
use Rattle.std.specs.Map.{lookup, keys_of, remove_entry}
use Rattle.std.specs.Option.{option_map}
use Rattle.std.proofs.lemmas.Map.Views.{All-map-remove_entry}
use Rattle.std.specs.Str.{bytes_eq}
use Rattle.std.specs.Cmp.Lexicographic.{bytes_decides, nat_list_eq_equiv}
use Rattle.idl_event.specs.Key.{key_eq}
use Rattle.idl_event.specs.declared.asked.key.RootAnswer.{RootAnswer}
use Rattle.idl_event.specs.declared.asked.key.RootKey.{RootKey}
use Rattle.idl_memo.specs.Cause.{changed}
use Rattle.idl_sources.specs.idl_root.idl_kept.Drafts.{committed_texts, no_texts}
use Rattle.idl_sources.specs.idl_root.idl_kept.Texts.{Texts, without_drafts}
use Rattle.idl_store.specs.Stored.{Stored, committed, discarded, nothing_stored, with_draft}
use Rattle.idl_prep.specs.Root.{expanded}
use Rattle.idl_sources.specs.idl_root.AsBefore.{AreListsLeft}
use Rattle.idl_sources.specs.idl_root.Results.{EntryResult}
use Rattle.idl_sources.specs.idl_root.Turns.{FitsU64}
use Rattle.idl_sources.specs.idl_root.declared.kept.keeper.Keeper.{Keeper}
use Rattle.idl_source.specs.names.Name.{is_name}
use Rattle.idl_sources.specs.Compile.{compile_over}
use Rattle.idl_inputs.specs.Bank.{bank_of}
use Rattle.idl_inputs.specs.Project.{Inputs, Project, no_inputs}
use Rattle.idl_project.specs.Renewed.{IsKeeperLeft, IsRenewed}
use Rattle.idl_project.specs.Tasks.{kept_entries, kept_texts, lists_for}
use Rattle.idl_project.specs.UpToDate.{AreKept, IsKept, IsUpToDate, State, project_held}
use Rattle.idl_inputs.specs.WellFormed.{IsWellFormed}
use Rattle.idl_project.specs.Work.{touched_between, touched_of, work_between, work_of}
use Rattle.idl_project.specs.declared.work.Work.{Work}
use Rattle.idl_project.specs.declared.kept_root.KeptRoot.{KeptRoot}
use Rattle.idl_inputs.proofs.FormLemmas.{none-formed}

-- of roots that are kept a name is found with what compiling it gives, and no other name is found
pub lookup-held : (bank : RootKey → Option RootAnswer) (held : List (List ℕ × KeptRoot)) (name : List ℕ) → AreKept bank held
    → option_map (λ (k : KeptRoot). k.compiled.value) (lookup (bytes_eq name) held) ≡ (if list_any (bytes_eq name) (keys_of held) then Some (compile_over bank name) else None)
lookup-held bank [] name h = refl
lookup-held bank (e ∷ es) name h = by (bytes_eq name e.0) refl (lookup-held bank es name (All-tail (λ (root : List ℕ × KeptRoot). IsKept bank root) e es h))
  where
    by : (b : Bool) → bytes_eq name e.0 ≡ b
        → option_map (λ (k : KeptRoot). k.compiled.value) (lookup (bytes_eq name) es) ≡ (if list_any (bytes_eq name) (keys_of es) then Some (compile_over bank name) else None)
        → option_map (λ (k : KeptRoot). k.compiled.value) (cond b (Some e.1) (lookup (bytes_eq name) es))
        ≡ (if (b || list_any (bytes_eq name) (keys_of es)) then Some (compile_over bank name) else None)
    by true same rest =
        let kept : IsKept bank e = All-head (λ (root : List ℕ × KeptRoot). IsKept bank root) e es h in
        ap Some (kept.rows ∙ ap (compile_over bank) (sym ((bytes_decides name e.0).0 same)))
    by false other rest = rest

-- and words count what the units of each root add that is kept
pub within-held : (bank : RootKey → Option RootAnswer) (held : List (List ℕ × KeptRoot)) → AreKept bank held → All (λ name. FitsU64 (expanded name bank).0) (keys_of held)
within-held bank [] h = All-nil (λ name. FitsU64 (expanded name bank).0)
within-held bank (e ∷ es) h =
    All-cons (λ name. FitsU64 (expanded name bank).0) e.0 (keys_of es) (All-head (λ (root : List ℕ × KeptRoot). IsKept bank root) e es h).within
    (within-held bank es (All-tail (λ (root : List ℕ × KeptRoot). IsKept bank root) e es h))

-- what isn't a name isn't that of a root
pub list_any-bad_name : (names : List (List ℕ)) (name : List ℕ) → All (λ n. IsTrue (is_name n)) names → ¬ IsTrue (is_name name)
    → list_any (bytes_eq name) names ≡ false
list_any-bad_name [] name h bad = refl
list_any-bad_name (n ∷ ns) name h bad = by (bytes_eq name n) refl (list_any-bad_name ns name (All-tail (λ (n : List ℕ). IsTrue (is_name n)) n ns h) bad)
  where
    by : (b : Bool) → bytes_eq name n ≡ b → list_any (bytes_eq name) ns ≡ false → (b || list_any (bytes_eq name) ns) ≡ false
    by true same rest = absurd (bad (ap is_name ((bytes_decides name n).0 same) ∙ All-head (λ (n : List ℕ). IsTrue (is_name n)) n ns h))
    by false other rest = rest

-- what holds of all holds of one of them
among : (P : List ℕ → Type 0) (before after : List (List ℕ)) (name : List ℕ) → AllByRecursion P (before ++ name ∷ after) → P name
among P [] after name h = h.0
among P (n ∷ ns) after name h = among P ns after name h.1

-- of distinct names, one isn't among those before it
pub list_any-before : (names : List (List ℕ)) (name : List ℕ) (after : List (List ℕ)) → IsDistinct bytes_eq (names ++ name ∷ after)
    → list_any (bytes_eq name) names ≡ false
list_any-before [] name after distinct = refl
list_any-before (n ∷ ns) name after distinct =
    ap (λ b. b || list_any (bytes_eq name) ns)
    (nat_list_eq_equiv.symm name n ∙ among (λ (m : List ℕ). bytes_eq n m ≡ false) ns after name (IsDistinct-head bytes_eq n (ns ++ name ∷ after) distinct))
    ∙ list_any-before ns name after (IsDistinct-tail bytes_eq n (ns ++ name ∷ after) distinct)

-- the names with one more, and then others
pub keys_of-push : (held : List (List ℕ × KeptRoot)) (name : List ℕ) (kept : KeptRoot) (after : List (List ℕ))
    → keys_of (held ++ (name, kept) ∷ []) ++ after ≡ keys_of held ++ name ∷ after
keys_of-push [] name kept after = refl
keys_of-push (e ∷ es) name kept after = ap (λ names. e.0 ∷ names) (keys_of-push es name kept after)

-- what isn't that of a root has nothing kept
pub lookup-absent : (held : List (List ℕ × KeptRoot)) (name : List ℕ) → list_any (bytes_eq name) (keys_of held) ≡ false → lookup (bytes_eq name) held ≡ None
lookup-absent held name new = none _ (is_some-lookup (bytes_eq name) held ∙ new)
  where
    none : (r : Option KeptRoot) → is_some r ≡ false → r ≡ None
    none None h = refl
    none (Some kept) h = absurd (true≢false h)

-- nothing
pub none-up_to_date : (inputs : Inputs) (held : List (List ℕ × KeptRoot)) (keeper : Keeper) → inputs ≡ no_inputs → held ≡ [] → keeper.texts ≡ no_texts → keeper.entries ≡ nothing_stored
    → IsUpToDate inputs held keeper
none-up_to_date inputs held keeper no_input no_root no_text no_entries = record {
  formed = subst (λ (p : Project). IsWellFormed p) (λ i. project_held (sym no_input i) (sym no_root i)) none-formed;
  kept = subst (AreKept (bank_of inputs)) (sym no_root) (All-nil (λ (root : List ℕ × KeptRoot). IsKept (bank_of inputs) root));
  texts = no_text ∙ ap (λ (es : List (List ℕ × KeptRoot)). kept_texts (bank_of inputs) (keys_of es)) (sym no_root);
  entries = no_entries ∙ ap (λ (es : List (List ℕ × KeptRoot)). kept_entries (bank_of inputs) (keys_of es)) (sym no_root);
}

-- one more root, with what is kept of it
pub IsUpToDate-push : (inputs : Inputs) (held : List (List ℕ × KeptRoot)) (keeper : Keeper) (name : List ℕ) (kept : KeptRoot) → AreKept (bank_of inputs) held → IsKept (bank_of inputs) (name, kept)
    → IsWellFormed (record { inputs = inputs; roots = keys_of held ++ name ∷ [] })
    → keeper.texts ≡ kept_texts (bank_of inputs) (keys_of held ++ name ∷ []) → keeper.entries ≡ kept_entries (bank_of inputs) (keys_of held ++ name ∷ [])
    → IsUpToDate inputs (held ++ (name, kept) ∷ []) keeper
IsUpToDate-push inputs held keeper name kept are is formed texts entries =
    let names : keys_of (held ++ (name, kept) ∷ []) ≡ keys_of held ++ name ∷ [] = map-append (λ (e : List ℕ × KeptRoot). e.0) held ((name, kept) ∷ []) in
    record {
      formed = subst (λ (ns : List (List ℕ)). IsWellFormed (record { inputs = inputs; roots = ns })) (sym names) formed;
      kept = All-push (λ (root : List ℕ × KeptRoot). IsKept (bank_of inputs) root) held (name, kept) are is;
      texts = texts ∙ ap (λ (ns : List (List ℕ)). kept_texts (bank_of inputs) ns) (sym names);
      entries = entries ∙ ap (λ (ns : List (List ℕ)). kept_entries (bank_of inputs) ns) (sym names);
    }

-- where nothing that is kept has become another, all stays
pub IsUpToDate-left : (inputs : Inputs) (held : List (List ℕ × KeptRoot)) (old new : Keeper) → IsUpToDate inputs held old → IsKeeperLeft old new → IsUpToDate inputs held new
IsUpToDate-left inputs held old new is left = record {
  formed = is.formed;
  kept = is.kept;
  texts = left.texts ∙ is.texts;
  entries = left.entries ∙ is.entries;
}

-- what is discarded leaves what was there
discarded-left : {R : Type 0} (old mid : Stored R) → old.drafts ≡ [] → mid.lists ≡ old.lists → discarded mid ≡ old
discarded-left old mid none lists i = record { lists = lists i; drafts = sym none i }

pub IsKeeperLeft-discarded : (bank : RootKey → Option RootAnswer) (names : List (List ℕ)) (old mid new : Keeper) → old.texts ≡ kept_texts bank names → old.entries ≡ kept_entries bank names
    → AreListsLeft old mid → new.texts ≡ without_drafts mid.texts → new.entries ≡ discarded mid.entries → IsKeeperLeft old new
IsKeeperLeft-discarded bank names old mid new are names_are lists texts entries = record {
  texts = texts ∙ (λ i. record {
    declarations = discarded-left old.texts.declarations mid.texts.declarations (ap (λ (t : Texts). t.declarations.drafts) are) lists.texts.declarations i;
    blocks = discarded-left old.texts.blocks mid.texts.blocks (ap (λ (t : Texts). t.blocks.drafts) are) lists.texts.blocks i;
    begins = discarded-left old.texts.begins mid.texts.begins (ap (λ (t : Texts). t.begins.drafts) are) lists.texts.begins i;
  });
  entries = entries ∙ discarded-left old.entries mid.entries (ap (λ (s : Stored EntryResult). s.drafts) names_are) lists.entries;
}

-- what a root more adds to lists
pub list-more : {R : Type 0} (list : List ℕ → List R) (names : List (List ℕ)) (name : List ℕ) (old new : Stored R)
    → old ≡ lists_for list names → new ≡ with_draft old (length names) (list name) → committed new ≡ lists_for list (names ++ name ∷ [])
list-more {R} list names name old new is made =
    let lists = map list names in
    let last : nat_lt (length names) (length lists) ≡ false = ap (nat_lt (length names)) (length-map names list) ∙ le-ltb (length names) (length names) (omega arith) in
    ap (λ (s : Stored R). committed s) made ∙ ap (λ (s : Stored R). committed (with_draft s (length names) (list name))) is
    ∙ (λ i. record { lists = if last i then slice_set lists (length names) (list name) else lists ++ list name ∷ []; drafts = [] })
    ∙ (λ i. record { lists = sym (map-append list names (name ∷ [])) i; drafts = [] })

-- what is kept of all roots is kept of those that stay
pub AreKept-remove : (bank : RootKey → Option RootAnswer) (held : List (List ℕ × KeptRoot)) (test : List ℕ → Bool) → AreKept bank held → AreKept bank (remove_entry test held)
AreKept-remove bank held test are =
    subst (AreKept bank) (map-id (remove_entry test held))
    (All-map-remove_entry test (λ (e : List ℕ × KeptRoot). e) (λ (root : List ℕ × KeptRoot). IsKept bank root) held (subst (AreKept bank) (sym (map-id held)) are))

-- the roots that stay were there
pub remaining-there : (held : List (List ℕ × KeptRoot)) (test : List ℕ → Bool) → All (Contains (keys_of held)) (keys_of (remove_entry test held))
remaining-there held test = All-map-remove_entry test (λ (e : List ℕ × KeptRoot). e.0) (Contains (keys_of held)) held (All-contains_itself (keys_of held))

-- After an edit: the same roots, with what is kept of them over the answers of the new inputs.
pub IsUpToDate-renewed : (now new : Inputs) (held : List (List ℕ × KeptRoot)) (renewed : List (List ℕ × KeptRoot) × Work × List (List ℕ)) (made keeper : Keeper) (after : RootKey → Option RootAnswer)
    → IsRenewed (project_held now held) after made renewed → keeper.texts ≡ committed_texts made.texts → keeper.entries ≡ committed made.entries
    → after ≡ bank_of new → IsWellFormed (record { inputs = new; roots = keys_of renewed.0 }) → IsUpToDate new renewed.0 keeper
IsUpToDate-renewed now new held renewed made keeper after again texts entries banks formed = record {
  formed = formed;
  kept = subst (λ (bank : RootKey → Option RootAnswer). AreKept bank renewed.0) banks again.kept;
  texts = texts ∙ again.texts ∙ (λ i. kept_texts (banks i) (sym again.roots i));
  entries = entries ∙ again.entries ∙ (λ i. kept_entries (banks i) (sym again.roots i));
}

-- and the work is that between the two projects, as the roots are that were expanded anew
pub work-renewed : (state : State) (now new : Inputs) (held : List (List ℕ × KeptRoot)) (renewed : List (List ℕ × KeptRoot) × Work × List (List ℕ)) (made : Keeper) (after : RootKey → Option RootAnswer)
    (work : Work) (touched : List (List ℕ))
    → record { project = record { inputs = now; roots = keys_of held }; work = work; touched = touched } ≡ state
    → IsRenewed (project_held now held) after made renewed → after ≡ bank_of new
    → (renewed.1 ≡ work_of state.project (record { inputs = new; roots = keys_of renewed.0 })) × (renewed.2 ≡ touched_of state.project (record { inputs = new; roots = keys_of renewed.0 }))
work-renewed state now new held renewed made after work touched is again banks = (
  again.work ∙ (λ i. work_between (bank_of now) (keys_of held) (banks i) (sym again.roots i))
      ∙ ap (λ (s : State). work_of s.project (record { inputs = new; roots = keys_of renewed.0 })) is,
  again.touched ∙ (λ i. touched_between (bank_of now) (keys_of held) (banks i) (sym again.roots i))
      ∙ ap (λ (s : State). touched_of s.project (record { inputs = new; roots = keys_of renewed.0 })) is,
)

-- the same after an edit that changes one answer
banks-edited : (now new : Inputs) (asked at : RootKey) (given answer : Option RootAnswer) → asked ≡ at → given ≡ answer → bank_of new ≡ changed key_eq (bank_of now) at answer
    → changed key_eq (bank_of now) asked given ≡ bank_of new
banks-edited now new asked at given answer asks gives changes =
    ap (λ (k : RootKey). changed key_eq (bank_of now) k given) asks ∙ ap (changed key_eq (bank_of now) at) gives ∙ sym changes

pub IsUpToDate-edited : (now new : Inputs) (held : List (List ℕ × KeptRoot)) (renewed : List (List ℕ × KeptRoot) × Work × List (List ℕ)) (made keeper : Keeper) (asked at : RootKey) (given answer : Option RootAnswer)
    → IsRenewed (project_held now held) (changed key_eq (bank_of now) asked given) made renewed → keeper.texts ≡ committed_texts made.texts → keeper.entries ≡ committed made.entries
    → asked ≡ at → given ≡ answer → bank_of new ≡ changed key_eq (bank_of now) at answer
    → IsWellFormed (record { inputs = new; roots = keys_of renewed.0 }) → IsUpToDate new renewed.0 keeper
IsUpToDate-edited now new held renewed made keeper asked at given answer again texts entries asks gives changes formed =
    IsUpToDate-renewed now new held renewed made keeper (changed key_eq (bank_of now) asked given) again texts entries (banks-edited now new asked at given answer asks gives changes) formed

pub work-edited : (state : State) (now new : Inputs) (held : List (List ℕ × KeptRoot)) (renewed : List (List ℕ × KeptRoot) × Work × List (List ℕ)) (made : Keeper) (asked at : RootKey) (given answer : Option RootAnswer)
    (work : Work) (touched : List (List ℕ))
    → record { project = record { inputs = now; roots = keys_of held }; work = work; touched = touched } ≡ state
    → IsRenewed (project_held now held) (changed key_eq (bank_of now) asked given) made renewed
    → asked ≡ at → given ≡ answer → bank_of new ≡ changed key_eq (bank_of now) at answer
    → (renewed.1 ≡ work_of state.project (record { inputs = new; roots = keys_of renewed.0 })) × (renewed.2 ≡ touched_of state.project (record { inputs = new; roots = keys_of renewed.0 }))
work-edited state now new held renewed made asked at given answer work touched is again asks gives changes =
    work-renewed state now new held renewed made (changed key_eq (bank_of now) asked given) work touched is again (banks-edited now new asked at given answer asks gives changes)
