-- What is kept of a root, over the answers before an edit and those after it.
use Rattle.std.proofs.Common.{◌≡◌, ◌≤◌, arith, ℕ, ◌+◌, Bool, true, false, cond, List, [], ◌∷◌, ◌++◌, Option, None, Some, length, subst, refl, sym, ap, ◌∙◌, if◌then◌else◌}
use Rattle.std.proofs.lemmas.List.Elements.{All-head, All-tail}
use Rattle.std.specs.Prelude.{IfNone}
use Rattle.std.specs.Map.{keys_of}
use Rattle.std.specs.Option.{option_eq}
use Rattle.std.specs.Str.{bytes_eq}
use Rattle.idl_event.specs.Key.{key_eq}
use Rattle.idl_event.specs.contracts.asked.key.RootAnswerPartialEq.TheImpl.{ghosts}
use Rattle.idl_event.specs.declared.told.event.Event.{Event}
use Rattle.idl_event.specs.declared.asked.key.RootAnswer.{RootAnswer}
use Rattle.idl_event.specs.declared.asked.key.RootAnswer.TheVariants as answer
use Rattle.idl_event.specs.declared.asked.key.RootKey.{RootKey}
use Rattle.idl_event.specs.declared.asked.key.RootKey.TheVariants as key
use Rattle.idl_memo.specs.Fresh.{asked_among, fresh_among, is_alike, places_over, stale_among, stale_at}
use Rattle.idl_memo.specs.Meter.{compared_after}
use Rattle.idl_memo.specs.declared.meter.Meter.{Meter}
use Rattle.idl_memo.specs.Kept.{Kept, HoldsOver}
use Rattle.idl_memo.specs.Query.{asked, is_logged, noted_all}
use Rattle.idl_store.specs.Stored.{results_in}
use Rattle.idl_prep.specs.Root.{absent_files, expanded, expansion, root}
use Rattle.idl_sources.specs.idl_root.AsBefore.{IsAsBefore, IsCompiledOf, IsMade}
use Rattle.idl_sources.specs.idl_root.Compared.{compared_root, root_keys}
use Rattle.idl_sources.specs.idl_root.Compile.{compile}
use Rattle.idl_sources.specs.idl_root.declared.compiling.compiled.Compiled.{Compiled}
use Rattle.idl_sources.specs.idl_root.Turns.{FitsU64}
use Rattle.idl_sources.specs.idl_root.Results.{IsDeclarationPass, IsEntryPass, IsKeptOf, KeptLists, fresh_declarations, fresh_entries, root_marks}
use Rattle.idl_sources.specs.idl_root.declared.kept.keeper.Keeper.{Keeper}
use Rattle.idl_sources.proofs.CompileLemmas.{compile-kept}
use Rattle.idl_project.specs.Compared.{compared_in, met_between}
use Rattle.idl_sources.specs.Compile.{compile_over, end_of, line_count}
use Rattle.idl_project.specs.Renewed.{IsDrafted}
use Rattle.idl_project.specs.Tasks.{answer_eq, declarations_among, declarations_at, entries_among, entries_at, root_lists}
use Rattle.idl_project.specs.UpToDate.{AreKept, IsKept, keys_asked}
use Rattle.idl_project.specs.Work.{fresh_roots, work_between}
use Rattle.idl_sources.specs.declared.compile.CompiledRoot.{CompiledRoot}
use Rattle.idl_project.specs.declared.kept_root.KeptRoot.{KeptRoot}

-- how many of these roots aren't alike at their own places
abbrev pub stale_roots : (RootKey → Option RootAnswer) → (RootKey → Option RootAnswer) → List (List ℕ) → ℕ
stale_roots old new roots = stale_among bytes_eq (option_eq answer_eq) expansion old new roots

-- no more than one at a place
pub stale_most : (old new : RootKey → Option RootAnswer) (name : List ℕ) → stale_at bytes_eq (option_eq answer_eq) expansion old new name ≤ 1
stale_most old new name = by (is_alike bytes_eq (option_eq answer_eq) expansion (name, new) (name, old))
  where
    by : (b : Bool) → (if b then 0 else 1) ≤ 1
    by true = omega arith
    by false = omega arith

-- what is kept of a root is kept of its name, however that is given
pub IsKept-at : (bank : RootKey → Option RootAnswer) (name other : List ℕ) (kept : KeptRoot) → name ≡ other → IsKept bank (name, kept) → IsKept bank (other, kept)
IsKept-at bank name other kept same is = subst (λ (n : List ℕ). IsKept bank (n, kept)) same is

-- the test of equality that answers derive, case by case
answers_alike : (a b : RootAnswer) → ghosts.eq a b ≡ answer_eq a b
answers_alike (answer.Macro a) (answer.Macro b) = refl
answers_alike (answer.Macro a) (answer.File b) = refl
answers_alike (answer.Macro a) (answer.Search b) = refl
answers_alike (answer.File a) (answer.Macro b) = refl
answers_alike (answer.File a) (answer.File b) = refl
answers_alike (answer.File a) (answer.Search b) = refl
answers_alike (answer.Search a) (answer.Macro b) = refl
answers_alike (answer.Search a) (answer.File b) = refl
answers_alike (answer.Search a) (answer.Search b) = refl

pub answer_eq-derived : ghosts.eq ≡ answer_eq
answer_eq-derived i a b = answers_alike a b i

-- the answer at the first key of a log
abbrev first_answer : List (RootKey × Option RootAnswer) → Option RootAnswer
first_answer [] = None
first_answer (e ∷ log) = e.1

-- the answer at the first of these keys
abbrev first_asked : (RootKey → Option RootAnswer) → List RootKey → Option RootAnswer
first_asked bank [] = None
first_asked bank (k ∷ ks) = bank k

-- further keys leave the first where it is
first-stays : (bank : RootKey → Option RootAnswer) (e : RootKey × Option RootAnswer) (ks : List RootKey) (log : List (RootKey × Option RootAnswer)) → first_answer (noted_all key_eq bank (e ∷ log) ks) ≡ e.1
first-stays bank e [] log = refl
first-stays bank e (k ∷ ks) log = by (is_logged key_eq (e ∷ log) k) (first-stays bank e ks)
  where
    by : (b : Bool) → ((l : List (RootKey × Option RootAnswer)) → first_answer (noted_all key_eq bank (e ∷ l) ks) ≡ e.1)
        → first_answer (noted_all key_eq bank (cond b (e ∷ log) (e ∷ (log ++ (k, bank k) ∷ []))) ks) ≡ e.1
    by true rest = rest log
    by false rest = rest (log ++ (k, bank k) ∷ [])

-- the first key that is asked is the first of the log
first-noted : (bank : RootKey → Option RootAnswer) (ks : List RootKey) → first_answer (noted_all key_eq bank [] ks) ≡ first_asked bank ks
first-noted bank [] = refl
first-noted bank (k ∷ ks) = first-stays bank (k, bank k) ks []

-- a root asks for its own file first
first-file : (bank : RootKey → Option RootAnswer) (name : List ℕ) → first_answer (expanded name bank).1 ≡ bank (key.File name)
unfolding expansion root
first-file bank name = first-noted bank (asked (expansion name) bank)

-- where a result holds over two banks, the root compiles to the same over both
pub compile-again : (old new : RootKey → Option RootAnswer) (kept : Kept RootKey (Option RootAnswer) (List ℕ) (List Event)) → HoldsOver key_eq expansion old kept → HoldsOver key_eq expansion new kept
    → compile_over old kept.text ≡ compile_over new kept.text
compile-again old new kept before after =
    let file : old (key.File kept.text) ≡ new (key.File kept.text) =
    sym (first-file old kept.text) ∙ ap (λ (p : List Event × List (RootKey × Option RootAnswer)). first_answer p.1) (sym before ∙ after) ∙ first-file new kept.text in
    sym (compile-kept old kept before)
    ∙ ap (λ (a : Option RootAnswer). record { rows = compile (record { file = kept.text; line = line_count a }) kept.out; absent = absent_files kept.log }) file
    ∙ compile-kept new kept after

-- and expands to the same
pub expanded-again : (old new : RootKey → Option RootAnswer) (kept : Kept RootKey (Option RootAnswer) (List ℕ) (List Event)) → HoldsOver key_eq expansion old kept → HoldsOver key_eq expansion new kept
    → (expanded kept.text new).0 ≡ (expanded kept.text old).0
expanded-again old new kept before after = ap (λ (p : List Event × List (RootKey × Option RootAnswer)). p.0) (sym after ∙ before)

-- what is kept of a root is still kept of it where its result holds
pub IsKept-still : (old new : RootKey → Option RootAnswer) (kept copy : KeptRoot) → IsKept old (kept.result.value.text, kept)
    → copy.result.value ≡ kept.result.value → copy.compiled.value ≡ kept.compiled.value → copy.marks.value ≡ kept.marks.value → HoldsOver key_eq expansion new kept.result.value
    → IsKept new (kept.result.value.text, copy)
IsKept-still old new kept copy is result compiled marks over = record {
  text = ap (λ (k : Kept RootKey (Option RootAnswer) (List ℕ) (List Event)). k.text) result;
  over = subst (λ (k : Kept RootKey (Option RootAnswer) (List ℕ) (List Event)). HoldsOver key_eq expansion new k) (sym result) over;
  rows = compiled ∙ is.rows ∙ compile-again old new kept.result.value is.over over;
  marks = marks ∙ is.marks ∙ ap root_marks (sym (expanded-again old new kept.result.value is.over over));
  within = subst FitsU64 (sym (expanded-again old new kept.result.value is.over over)) is.within;
}

-- of what isn't there
pub none-weaker : {R P Q : Type 0} (found : Option R) → (P → Q) → IfNone found P → IfNone found Q
none-weaker None more is = more is
none-weaker (Some r) more is = tt

-- what a root comes to, told of its events
pub IsDrafted-from : (bank : RootKey → Option RootAnswer) (at : ℕ) (name : List ℕ) (events : List Event) (old new : Keeper) (before after : Meter) → events ≡ (expanded name bank).0
    → IsMade events at old new before after → IsDrafted bank at name old new before after
IsDrafted-from bank at name events old new before after is made = subst (λ (es : List Event). IsMade es at old new before after) is made

-- the same from meters with these counts
pub IsDrafted-metered : (bank : RootKey → Option RootAnswer) (at : ℕ) (name : List ℕ) (old new : Keeper) (first before after : Meter) → before.checked ≡ first.checked → before.printed ≡ first.printed
    → before.compared ≡ first.compared → IsDrafted bank at name old new before after → IsDrafted bank at name old new first after
IsDrafted-metered bank at name old new first before after checked printed compared made = record {
  declarations = made.declarations;
  blocks = made.blocks;
  begins = made.begins;
  entries = made.entries;
  checked = subst (λ n. IsDeclarationPass (declarations_at bank name) (results_in old.texts.declarations) (results_in new.texts.declarations) n after.checked) checked made.checked;
  printed = subst (λ n. IsEntryPass (entries_at bank name) (results_in old.entries) (results_in new.entries) n after.printed) printed made.printed;
  compared = λ known entries texts_are entries_are.
      made.compared known entries texts_are entries_are ∙ ap (λ n. compared_after n (compared_root known entries (expanded name bank).0)) compared;
}

pub IsAsBefore-metered : (was events : List Event) (old new : Keeper) (first before after : Meter) → before.checked ≡ first.checked → before.printed ≡ first.printed
    → before.compared ≡ first.compared → IsAsBefore was events old new before after → IsAsBefore was events old new first after
IsAsBefore-metered was events old new first before after checked printed compared left = record {
  declarations_are = left.declarations_are;
  pieces_are = left.pieces_are;
  entries_are = left.entries_are;
  texts = left.texts;
  entries = left.entries;
  checked = left.checked ∙ checked;
  printed = left.printed ∙ printed;
  compared = left.compared ∙ ap (λ n. compared_after n (root_keys events)) compared;
}

-- what a root compiled to over some answers, of its events then
pub IsCompiledOf-kept : (bank : RootKey → Option RootAnswer) (kept : KeptRoot) (compiled : Compiled) → compiled ≡ kept.compiled.value.rows → IsKept bank (kept.result.value.text, kept)
    → IsCompiledOf (expanded kept.result.value.text bank).0 compiled
unfolding compile_over
IsCompiledOf-kept bank kept compiled same is = record {
  end = end_of bank kept.result.value.text;
  rows = same ∙ ap (λ (r : CompiledRoot). r.rows) is.rows;
  within = is.within;
}

-- what is kept of a root, by its place among all
pub IsKeptOf-held : (bank : RootKey → Option RootAnswer) (kept : KeptRoot) (lists : KeptLists) → IsKept bank (kept.result.value.text, kept) → lists ≡ root_lists bank kept.result.value.text
    → IsKeptOf (expanded kept.result.value.text bank).0 kept.marks.value lists
IsKeptOf-held bank kept lists is are = record {
  marks_are = is.marks;
  declarations_are = ap (λ (l : KeptLists). l.declarations) are;
  blocks_are = ap (λ (l : KeptLists). l.blocks) are;
  begins_are = ap (λ (l : KeptLists). l.begins) are;
  entries_are = ap (λ (l : KeptLists). l.entries) are;
}

-- the meter where a result holds still: so many keys more
pub held-meter : (old new : Meter) (keys asked : ℕ) → new ≡ record old { compared = compared_after old.compared keys } → keys ≡ asked → new ≡ record old { compared = compared_after old.compared asked }
held-meter old new keys asked more same = more ∙ ap (λ n. record old { compared = compared_after old.compared n }) same

-- the keys that the roots asked are those of their results
pub keys_asked-kept : (bank : RootKey → Option RootAnswer) (held : List (List ℕ × KeptRoot)) → AreKept bank held
    → asked_among bytes_eq (option_eq answer_eq) expansion key_eq bank (keys_of held) ≡ keys_asked held
keys_asked-kept bank [] h = refl
keys_asked-kept bank (e ∷ es) h =
    let kept : IsKept bank e = All-head (λ (root : List ℕ × KeptRoot). IsKept bank root) e es h in
    let log : length e.1.result.value.log ≡ length (expanded e.0 bank).1 =
    ap (λ (p : List Event × List (RootKey × Option RootAnswer)). length p.1) kept.over ∙ ap (λ (n : List ℕ). length (expanded n bank).1) kept.text in
    (λ i. sym log i + keys_asked-kept bank es (All-tail (λ (root : List ℕ × KeptRoot). IsKept bank root) e es h) i)

-- the work of an edit of the roots, over the same answers
pub work-roots : (bank : RootKey → Option RootAnswer) (before places : List (List ℕ)) (n checked printed compared : ℕ)
    → fresh_among bytes_eq (option_eq ghosts.eq) expansion (places_over bank before) (places_over bank places) ≡ n
    → checked ≡ fresh_declarations (declarations_among bank before) (declarations_among bank places) → printed ≡ fresh_entries (entries_among bank before) (entries_among bank places)
    → compared ≡ compared_after 0 (compared_in (met_between bank before bank places))
    → record { expanded = n; checked = checked; printed = printed; compared = compared } ≡ work_between bank before bank places
work-roots bank before places n checked printed compared fresh check print met =
    let counted : fresh_roots bank before bank places ≡ n =
    subst (λ (e : RootAnswer → RootAnswer → Bool). fresh_among bytes_eq (option_eq e) expansion (places_over bank before) (places_over bank places) ≡ n) answer_eq-derived fresh in
    λ i. record { expanded = sym counted i; checked = check i; printed = print i; compared = met i }

-- the work of an edit that leaves the roots: those are fresh that aren't alike at their own places
pub work-same : (old new : RootKey → Option RootAnswer) (names : List (List ℕ)) (n checked printed compared : ℕ)
    → fresh_among bytes_eq (option_eq ghosts.eq) expansion (places_over old names) (places_over new names) ≡ stale_among bytes_eq (option_eq ghosts.eq) expansion old new names
    → n ≡ stale_among bytes_eq (option_eq answer_eq) expansion old new names
    → compared ≡ compared_after 0 (compared_in (met_between old names new names))
    → checked ≡ fresh_declarations (declarations_among old names) (declarations_among new names) → printed ≡ fresh_entries (entries_among old names) (entries_among new names)
    → record { expanded = n; checked = checked; printed = printed; compared = compared } ≡ work_between old names new names
work-same old new names n checked printed compared fresh counted met check print =
    let all : fresh_roots old names new names ≡ stale_among bytes_eq (option_eq answer_eq) expansion old new names =
    subst
    (λ (e : RootAnswer → RootAnswer → Bool). fresh_among bytes_eq (option_eq e) expansion (places_over old names) (places_over new names) ≡ stale_among bytes_eq (option_eq e) expansion old new names)
    answer_eq-derived fresh in
    λ i. record { expanded = (counted ∙ sym all) i; checked = check i; printed = print i; compared = met i }
