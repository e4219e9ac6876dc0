-- What is compared where a root more is made.
use Rattle.std.proofs.Common.{◌≡◌, ◌∙◌, ℕ, ◌+◌, ◌||◌, true, false, Contains, List, [], ◌∷◌, ◌++◌, Option, append-nil, arith, map, ap}
use Rattle.std.proofs.lemmas.List.Elements.{All-append, All-contains_itself, All-weaker, Contains-append_left}
use Rattle.std.proofs.lemmas.List.Folds.{list_any-append}
use Rattle.std.proofs.lemmas.Map.Views.{list_any-from_Contains}
use Rattle.std.specs.Cmp.Lexicographic.{nat_list_eq_equiv}
use Rattle.std.specs.List.{flat_map, list_any}
use Rattle.std.specs.Option.{option_eq}
use Rattle.std.specs.Str.{bytes_eq}
use Rattle.idl_event.specs.Key.{key_eq}
use Rattle.idl_event.specs.declared.told.event.Event.{Event}
use Rattle.idl_event.specs.declared.asked.key.RootAnswer.{RootAnswer}
use Rattle.idl_event.specs.declared.asked.key.RootKey.{RootKey}
use Rattle.idl_sources.specs.idl_root.idl_kept.Texts.{Texts}
use Rattle.idl_memo.specs.Fresh.{asked_among, places_over}
use Rattle.idl_memo.specs.Meter.{compared_after}
use Rattle.idl_prep.specs.Root.{expanded, expansion}
use Rattle.idl_sources.specs.idl_root.Compared.{AreOf, AreSamePlaces, compared_root, shared_entries, shared_entry}
use Rattle.idl_sources.specs.idl_root.Places.{EntryPlace}
use Rattle.idl_sources.specs.idl_root.Results.{entry_result}
use Rattle.idl_sources.specs.idl_root.declared.kept.keeper.Keeper.{Keeper}
use Rattle.idl_sources.specs.idl_root.idl_root_blocks.Met.{Known}
use Rattle.idl_sources.specs.idl_root.idl_root_blocks.Places.{block_result, declaration_result}
use Rattle.idl_store.specs.Stored.{Stored, results_in}
use Rattle.idl_project.specs.Compared.{KnownTasks, compared_in, met_between, tasks_of, with_tasks}
use Rattle.idl_project.specs.Tasks.{alike_root, answer_eq, blocks_at, declarations_at, entries_at, kept_entries, kept_texts, lists_for}
use Rattle.idl_project.proofs.MetLemmas.{alike-none, all-alike, compared-append, compared-first, compared-stale, compared-stay}
use Rattle.idl_project.proofs.StoreLemmas.{flat-lists}

-- all results are those of the places of these roots
results-all : {P R : Type 0} (result : P → R) (at : List ℕ → List P) (names : List (List ℕ)) (stored : Stored R) → stored ≡ lists_for (λ name. map result (at name)) names
    → results_in stored ≡ map result (flat_map at names)
results-all {P} {R} result at names stored is =
    ap (λ (s : Stored R). results_in s) is ∙ append-nil (flat_map (λ (list : List R). list) (map (λ name. map result (at name)) names)) ∙ flat-lists result at names

-- places once, and twice
same-twice : {P : Type 0} (places : List P) → AreSamePlaces places (places ++ places)
same-twice places =
    let once = All-weaker (Contains places) (Contains (places ++ places)) (λ p c. Contains-append_left places places p c) places (All-contains_itself places) in
    (once, All-append (Contains places) places places (All-contains_itself places) (All-contains_itself places))

pub compared-added : (none : (known : List EntryPlace) → shared_entries known [] ≡ 0)
    (more : (known : List EntryPlace) (here : EntryPlace) (more : List EntryPlace) → shared_entries known (here ∷ more) ≡ shared_entry known here + shared_entries (known ++ here ∷ []) more)
    (same : (known other : Known) (these those : List EntryPlace) (events : List Event) → AreSamePlaces known.declarations other.declarations → AreSamePlaces known.blocks other.blocks → AreSamePlaces these those
    → compared_root known these events ≡ compared_root other those events)
    (bank : RootKey → Option RootAnswer) (itself : (root : List ℕ) → alike_root (root, bank) (root, bank) ≡ true) (names : List (List ℕ)) (root : List ℕ) (keeper : Keeper) (before after : ℕ)
    → keeper.texts ≡ kept_texts bank names → keeper.entries ≡ kept_entries bank names → list_any (bytes_eq root) names ≡ false
    → before ≡ compared_after 0 (asked_among bytes_eq (option_eq answer_eq) expansion key_eq bank names)
    → ((known : Known) (entries : List EntryPlace) → AreOf known keeper.texts → results_in keeper.entries ≡ map entry_result entries → after ≡ compared_after before (compared_root known entries (expanded root bank).0))
    → after ≡ compared_after 0 (compared_in (met_between bank names bank (names ++ root ∷ [])))
compared-added none more same bank itself names root keeper before after texts entries new asked made =
    let old : KnownTasks = tasks_of bank names in
    let known : KnownTasks = with_tasks old (tasks_of bank names) in
    let events = (expanded root bank).0 in
    let of : AreOf old.texts keeper.texts = record {
      declarations = results-all declaration_result (declarations_at bank) names keeper.texts.declarations (ap (λ (t : Texts). t.declarations) texts);
      blocks = results-all block_result (blocks_at bank) names keeper.texts.blocks (ap (λ (t : Texts). t.blocks) texts);
    } in
    let here : after ≡ compared_after before (compared_root known.texts known.entries events) =
    made old.texts old.entries of (results-all entry_result (entries_at bank) names keeper.entries entries)
    ∙ ap (compared_after before)
    (same old.texts known.texts old.entries known.entries events (same-twice old.texts.declarations) (same-twice old.texts.blocks) (same-twice old.entries)) in
    let other : list_any (alike_root (root, bank)) (places_over bank names) ≡ false = alike-none bank bank root names new in
    let stale : list_any (alike_root (root, bank)) known.roots ≡ false =
    list_any-append (alike_root (root, bank)) (places_over bank names) (places_over bank names) ∙ (λ i. other i || other i) in
    let own = compared-stale none more known bank root stale in
    let all = all-alike bank itself names names
    (All-weaker (Contains names) (λ name. list_any (bytes_eq name) names ≡ true) (λ name h. list_any-from_Contains nat_list_eq_equiv name names h) names (All-contains_itself names)) in
    let stay = compared-stay bank itself names old all in
    let split = compared-append bank names (root ∷ []) old in
    let last = compared-first known bank root [] in
    omega (arith, here, own, stay, split, last, asked)
