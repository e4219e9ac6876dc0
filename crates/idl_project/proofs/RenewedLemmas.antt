-- What becomes of a root, beside those before it.
use Rattle.std.proofs.Common.{◌≡◌, ◌⊎◌, ◌∙◌, ℕ, ◌+◌, Bool, true, false, All, Contains, List, [], ◌∷◌, ◌++◌, Option, inl, inr, arith, if◌then◌else◌, length, refl, sym, ap, subst}
use Rattle.std.proofs.lemmas.List.Elements.{All-weaker, Contains-append_left}
use Rattle.std.specs.List.{flat_map, list_any}
use Rattle.std.specs.Option.{option_eq}
use Rattle.std.specs.Str.{bytes_eq}
use Rattle.idl_event.specs.declared.told.event.Event.{Event}
use Rattle.idl_event.specs.declared.asked.key.RootAnswer.{RootAnswer}
use Rattle.idl_event.specs.declared.asked.key.RootKey.{RootKey}
use Rattle.idl_sources.specs.idl_root.idl_kept.Texts.{Texts, begins_in}
use Rattle.idl_memo.specs.Fresh.{stale_at}
use Rattle.idl_memo.specs.Meter.{compared_after}
use Rattle.idl_memo.specs.declared.meter.Meter.{Meter}
use Rattle.idl_prep.specs.Root.{expanded, expansion}
use Rattle.idl_sources.specs.idl_root.Compared.{AreOf, AreSamePlaces, compared_root, root_keys, shared_entries, shared_entry}
use Rattle.idl_sources.specs.idl_root.Places.{EntryPlace, begins_of, blocks_of, declarations_of, entries_of, root_pieces}
use Rattle.idl_sources.specs.idl_root.Results.{entry_result, fresh_declarations, fresh_entries}
use Rattle.idl_sources.specs.idl_root.declared.kept.keeper.Keeper.{Keeper}
use Rattle.idl_sources.specs.idl_root.idl_root_blocks.Blocks.{Pieces}
use Rattle.idl_sources.specs.idl_root.idl_root_blocks.Met.{Known}
use Rattle.idl_sources.specs.idl_root.idl_root_blocks.Places.{DeclarationPlace, block_result, blocks_over, declaration_result}
use Rattle.idl_project.specs.Compared.{KnownTasks, compared_in, met_at, tasks_of, with_tasks}
use Rattle.idl_project.specs.Renewed.{IsDrafted, IsHeld, IsLeft, IsRenewedAt}
use Rattle.idl_project.specs.Tasks.{alike_root, answer_eq, begin_list, blocks_at, declarations_at, entries_at}
use Rattle.idl_project.proofs.MetLemmas.{compared-held, compared-stale}
use Rattle.idl_project.proofs.StoreLemmas.{IsPlacing, IsUnderWay, places-among, placing-left, placing-made, uncounted, way-known, way-left, way-made, way-same}

-- ---- a root of which nothing is made

-- its tasks are those that it had
pub record IsStaying (was bank : RootKey → Option RootAnswer) (root : List ℕ) (old new : Keeper) (before after : Meter) : Type 0 where
  pub declarations_are : declarations_at bank root ≡ declarations_at was root
  pub blocks_are : blocks_at bank root ≡ blocks_at was root
  pub begins_are : begin_list bank root ≡ begin_list was root
  pub entries_are : entries_at bank root ≡ entries_at was root
  pub texts : new.texts ≡ old.texts
  pub entries : new.entries ≡ old.entries
  pub checked : after.checked ≡ before.checked
  pub printed : after.printed ≡ before.printed

stays-held : (was bank : RootKey → Option RootAnswer) (root : List ℕ) (old new : Keeper) (before after : Meter) → IsHeld was bank root old new before after → IsStaying was bank root old new before after
stays-held was bank root old new before after h = record {
  declarations_are = ap (λ (es : List Event). declarations_of es) h.events;
  blocks_are = ap (λ (es : List Event). blocks_of es) h.events;
  begins_are = ap (λ (es : List Event). begins_of es) h.events;
  entries_are = ap (λ (es : List Event). entries_of es) h.events;
  texts = h.kept.texts;
  entries = h.kept.entries;
  checked = ap (λ (m : Meter). m.checked) h.meter;
  printed = ap (λ (m : Meter). m.printed) h.meter;
}

blocks-same : (was events : List Event) → root_pieces events ≡ root_pieces was → blocks_of events ≡ blocks_of was
unfolding blocks_of
blocks-same was events same = ap (λ (p : Pieces). blocks_over [] p) same

begins-same : (was events : List Event) → root_pieces events ≡ root_pieces was → begins_of events ≡ begins_of was
unfolding begins_of
begins-same was events same = ap (λ (p : Pieces). begins_in 0 p) same

stays-left : (was bank : RootKey → Option RootAnswer) (root : List ℕ) (old new : Keeper) (before after : Meter) → IsLeft was bank root old new before after → IsStaying was bank root old new before after
stays-left was bank root old new before after l = record {
  declarations_are = l.declarations_are;
  blocks_are = blocks-same (expanded root was).0 (expanded root bank).0 l.pieces_are;
  begins_are = begins-same (expanded root was).0 (expanded root bank).0 l.pieces_are;
  entries_are = l.entries_are;
  texts = l.texts;
  entries = l.entries;
  checked = l.checked;
  printed = l.printed;
}

pub stays-or-drafted : (was bank : RootKey → Option RootAnswer) (at : ℕ) (root : List ℕ) (old new : Keeper) (before after : Meter) → IsRenewedAt was bank at root old new before after
    → IsStaying was bank root old new before after ⊎ IsDrafted bank at root old new before after
stays-or-drafted was bank at root old new before after (inl held) = inl (stays-held was bank root old new before after held)
stays-or-drafted was bank at root old new before after (inr expanded) = elim expanded.tasks [
  | inl left ↦ inl (stays-left was bank root old new before after left)
  | inr drafted ↦ inr drafted
]

-- it is expanded anew where its own task is stale
none-alike : (b : Bool) → b ≡ false → ◌≡◌ {A = ℕ} (if b then 0 else 1) 1
none-alike false h = refl
none-alike true h = cc

one-alike : (b : Bool) → b ≡ true → ◌≡◌ {A = ℕ} (if b then 0 else 1) 0
one-alike true h = refl
one-alike false h = cc

pub expanded-count : (was bank : RootKey → Option RootAnswer) (at : ℕ) (root : List ℕ) (old new : Keeper) (before after : Meter) → IsRenewedAt was bank at root old new before after
    → after.expanded ≡ before.expanded + stale_at bytes_eq (option_eq answer_eq) expansion was bank root
expanded-count was bank at root old new before after (inl held) =
    let none : stale_at bytes_eq (option_eq answer_eq) expansion was bank root ≡ 0 = one-alike (alike_root (root, bank) (root, was)) held.alike in
    let same = ap (λ (m : Meter). m.expanded) held.meter in
    omega (arith, none, same)
expanded-count was bank at root old new before after (inr expanded) =
    let one : stale_at bytes_eq (option_eq answer_eq) expansion was bank root ≡ 1 = none-alike (alike_root (root, bank) (root, was)) expanded.stale in
    let count = expanded.count in
    omega (arith, one, count)

-- ---- what is kept of roots, with one more done

module _ (was bank : RootKey → Option RootAnswer) (done : List (List ℕ)) (root : List ℕ) (left : List (List ℕ)) (at : ℕ) (place : at ≡ length done)
    (old new : Keeper) (before after : Meter) (renewed : IsStaying was bank root old new before after ⊎ IsDrafted bank at root old new before after) where
  pub declarations-way : (aside : (known front stay rest : List DeclarationPlace) → All (Contains known) stay → fresh_declarations known (front ++ (stay ++ rest)) ≡ fresh_declarations known (front ++ rest))
      → (split : (known a b : List DeclarationPlace) → fresh_declarations known (a ++ b) ≡ fresh_declarations known a + fresh_declarations (known ++ a) b)
      → IsUnderWay declaration_result (declarations_at was) (declarations_at bank) fresh_declarations done (root ∷ left) old.texts.declarations before.checked
      → IsUnderWay declaration_result (declarations_at was) (declarations_at bank) fresh_declarations (done ++ root ∷ []) left new.texts.declarations after.checked
  declarations-way aside split way = elim renewed [
    | inl s ↦ way-left declaration_result (declarations_at was) (declarations_at bank) fresh_declarations aside done root left old.texts.declarations new.texts.declarations before.checked after.checked way
        s.declarations_are (ap (λ (t : Texts). t.declarations) s.texts) s.checked
    | inr m ↦ way-made declaration_result (declarations_at was) (declarations_at bank) fresh_declarations aside done root left old.texts.declarations new.texts.declarations before.checked after.checked way
        split at place m.declarations m.checked.count
  ]

  pub blocks-way : IsUnderWay block_result (blocks_at was) (blocks_at bank) uncounted done (root ∷ left) old.texts.blocks 0
      → IsUnderWay block_result (blocks_at was) (blocks_at bank) uncounted (done ++ root ∷ []) left new.texts.blocks 0
  blocks-way way = elim renewed [
    | inl s ↦ way-left block_result (blocks_at was) (blocks_at bank) uncounted (λ known front stay rest there. refl) done root left old.texts.blocks new.texts.blocks 0 0 way
        s.blocks_are (ap (λ (t : Texts). t.blocks) s.texts) refl
    | inr m ↦ way-made block_result (blocks_at was) (blocks_at bank) uncounted (λ known front stay rest there. refl) done root left old.texts.blocks new.texts.blocks 0 0 way
        (λ known a b. refl) at place m.blocks (λ known is. refl)
  ]

  pub begins-way : IsPlacing (begin_list was) (begin_list bank) done (root ∷ left) old.texts.begins → IsPlacing (begin_list was) (begin_list bank) (done ++ root ∷ []) left new.texts.begins
  begins-way way = elim renewed [
    | inl s ↦ placing-left (begin_list was) (begin_list bank) done root left old.texts.begins new.texts.begins way s.begins_are (ap (λ (t : Texts). t.begins) s.texts)
    | inr m ↦ placing-made (begin_list was) (begin_list bank) done root left old.texts.begins new.texts.begins way at place m.begins
  ]

  pub entries-way : (aside : (known front stay rest : List EntryPlace) → All (Contains known) stay → fresh_entries known (front ++ (stay ++ rest)) ≡ fresh_entries known (front ++ rest))
      → (split : (known a b : List EntryPlace) → fresh_entries known (a ++ b) ≡ fresh_entries known a + fresh_entries (known ++ a) b)
      → IsUnderWay entry_result (entries_at was) (entries_at bank) fresh_entries done (root ∷ left) old.entries before.printed
      → IsUnderWay entry_result (entries_at was) (entries_at bank) fresh_entries (done ++ root ∷ []) left new.entries after.printed
  entries-way aside split way = elim renewed [
    | inl s ↦ way-left entry_result (entries_at was) (entries_at bank) fresh_entries aside done root left old.entries new.entries before.printed after.printed way
        s.entries_are s.entries s.printed
    | inr m ↦ way-made entry_result (entries_at was) (entries_at bank) fresh_entries aside done root left old.entries new.entries before.printed after.printed way
        split at place m.entries m.printed.count
  ]

-- ---- what is compared of a root

module _ (none : (known : List EntryPlace) → shared_entries known [] ≡ 0)
    (more : (known : List EntryPlace) (here : EntryPlace) (more : List EntryPlace) → shared_entries known (here ∷ more) ≡ shared_entry known here + shared_entries (known ++ here ∷ []) more)
    (same : (known other : Known) (these those : List EntryPlace) (events : List Event) → AreSamePlaces known.declarations other.declarations → AreSamePlaces known.blocks other.blocks → AreSamePlaces these those
    → compared_root known these events ≡ compared_root other those events)
    (all : (known : Known) (entries : List EntryPlace) (events : List Event) → All (Contains known.declarations) (declarations_of events) → All (Contains known.blocks) (blocks_of events)
    → All (Contains entries) (entries_of events) → compared_root known entries events ≡ root_keys events)
    (was bank : RootKey → Option RootAnswer) (done : List (List ℕ)) (root : List ℕ) (left : List (List ℕ)) where
  abbrev names : List (List ℕ)
  names = done ++ root ∷ left

  abbrev known : KnownTasks
  known = with_tasks (tasks_of was names) (tasks_of bank done)

  -- where its tasks are those that it had
  compared-left : (old new : Keeper) (before after : Meter) → IsLeft was bank root old new before after → compared_root known.texts known.entries (expanded root bank).0 ≡ root_keys (expanded root bank).0
  compared-left old new before after l =
      let events = (expanded root bank).0 in
      all known.texts known.entries events
      (among declaration_result (declarations_at was) (flat_map (declarations_at bank) done) (declarations_of events) l.declarations_are)
      (among block_result (blocks_at was) (flat_map (blocks_at bank) done) (blocks_of events) (blocks-same (expanded root was).0 events l.pieces_are))
      (among entry_result (entries_at was) (flat_map (entries_at bank) done) (entries_of events) l.entries_are)
    where
      among : {P R : Type 0} (result : P → R) (at : List ℕ → List P) (further here : List P) → here ≡ at root → All (Contains (flat_map at names ++ further)) here
      among {P} result at further here is =
          subst (All (Contains (flat_map at names ++ further))) (sym is)
          (All-weaker (Contains (flat_map at names)) (Contains (flat_map at names ++ further)) (λ p c. Contains-append_left (flat_map at names) further p c) (at root) (places-among result at done root left))

  -- where it is drafted, beside what is kept
  compared-drafted : (at : ℕ) (old new : Keeper) (before after : Meter)
      (declarations : IsUnderWay declaration_result (declarations_at was) (declarations_at bank) fresh_declarations done (root ∷ left) old.texts.declarations before.checked)
      (blocks : IsUnderWay block_result (blocks_at was) (blocks_at bank) uncounted done (root ∷ left) old.texts.blocks 0)
      (entries : IsUnderWay entry_result (entries_at was) (entries_at bank) fresh_entries done (root ∷ left) old.entries before.printed)
      → IsDrafted bank at root old new before after → after.compared ≡ compared_after before.compared (compared_root known.texts known.entries (expanded root bank).0)
  compared-drafted at old new before after declarations blocks entries m =
      let events = (expanded root bank).0 in
      let there : Known = record { declarations = flat_map (declarations_at was) names ++ declarations.met; blocks = flat_map (blocks_at was) names ++ blocks.met } in
      let listed : List EntryPlace = flat_map (entries_at was) names ++ entries.met in
      let of : AreOf there old.texts = record {
        declarations = way-known declaration_result (declarations_at was) (declarations_at bank) fresh_declarations done (root ∷ left) old.texts.declarations before.checked declarations;
        blocks = way-known block_result (blocks_at was) (blocks_at bank) uncounted done (root ∷ left) old.texts.blocks 0 blocks;
      } in
      m.compared there listed of (way-known entry_result (entries_at was) (entries_at bank) fresh_entries done (root ∷ left) old.entries before.printed entries)
      ∙ ap (compared_after before.compared)
      (same there known.texts listed known.entries events
      (way-same declaration_result (declarations_at was) (declarations_at bank) fresh_declarations done (root ∷ left) old.texts.declarations before.checked declarations)
      (way-same block_result (blocks_at was) (blocks_at bank) uncounted done (root ∷ left) old.texts.blocks 0 blocks)
      (way-same entry_result (entries_at was) (entries_at bank) fresh_entries done (root ∷ left) old.entries before.printed entries))

  -- so the keys of all that is met of it
  pub compared-renewed : (at : ℕ) (old new : Keeper) (before after : Meter)
      (own : list_any (alike_root (root, bank)) known.roots ≡ alike_root (root, bank) (root, was))
      (declarations : IsUnderWay declaration_result (declarations_at was) (declarations_at bank) fresh_declarations done (root ∷ left) old.texts.declarations before.checked)
      (blocks : IsUnderWay block_result (blocks_at was) (blocks_at bank) uncounted done (root ∷ left) old.texts.blocks 0)
      (entries : IsUnderWay entry_result (entries_at was) (entries_at bank) fresh_entries done (root ∷ left) old.entries before.printed)
      → IsRenewedAt was bank at root old new before after → after.compared ≡ compared_after before.compared (compared_in (met_at known bank root))
  compared-renewed at old new before after own declarations blocks entries (inl held) =
      ap (λ (m : Meter). m.compared) held.meter ∙ ap (compared_after before.compared) (sym (compared-held known bank root (own ∙ held.alike)))
  compared-renewed at old new before after own declarations blocks entries (inr expanded) =
      let met = compared-stale none more known bank root (own ∙ expanded.stale) in
      elim expanded.tasks [
        | inl l ↦ l.compared ∙ ap (compared_after before.compared) (sym (met ∙ compared-left old new before after l))
        | inr m ↦ compared-drafted at old new before after declarations blocks entries m ∙ ap (compared_after before.compared) (sym met)
      ]
