-- What is made of a root: its drafts, and the keys at which known tasks are compared.
use Rattle.std.proofs.Common.{◌≡◌, ◌≤◌, ◌∙◌, ℕ, ◌+◌, List, [], ◌∷◌, ◌++◌, map, refl, ap, arith}
use Rattle.std.specs.Prelude.{length, sum_by}
use Rattle.idl_env.specs.Facts.{UnitFacts}
use Rattle.idl_event.specs.declared.told.event.Event.{Event}
use Rattle.idl_kept.specs.Drafts.{begun_texts}
use Rattle.idl_kept.specs.Texts.{DeclarationResult, Texts, begins_in}
use Rattle.idl_memo.specs.Meter.{compared_after, most_compared}
use Rattle.idl_memo.specs.declared.meter.Meter.{Meter}
use Rattle.idl_root.specs.Compared.{AreOf, compared_root, entry_keys, root_keys, shared_entries}
use Rattle.idl_root.specs.Passed.{Compares, with_kept}
use Rattle.idl_root.specs.Places.{EntryPlace, begins_of, blocks_of, declarations_of, entries_of, root_pieces, root_text}
use Rattle.idl_root.proofs.SharedLemmas.{compared-more, compared-most}
use Rattle.idl_root.proofs.StoredLemmas.{begun-results, grown-begun}
use Rattle.idl_root_blocks.proofs.Cuts.{cut-whole}
use Rattle.idl_root_blocks.specs.Blocks.{cut, text_in}
use Rattle.idl_root_blocks.specs.Met.{Known, compared, met_over, outermost_keys}
use Rattle.idl_root_blocks.specs.Places.{DeclarationPlace, block_result, blocks_over, declaration_result, declarations_over}
use Rattle.idl_root_blocks.specs.Units.{text_of}
use Rattle.idl_store.specs.Stored.{last_of, results_in, with_draft}
use Rattle.idl_unit.specs.Units.{units_of}
use Rattle.idl_unit.specs.declared.unit.Unit.{Unit as RootUnit}

-- ---- drafts

-- nothing is in a draft that was begun
last-begun : {X : Type 0} (drafts : List (ℕ × List X)) (at : ℕ) → last_of (drafts ++ (at, []) ∷ []) ≡ []
last-begun [] at = refl
last-begun (d ∷ []) at = refl
last-begun (d ∷ e ∷ drafts) at = last-begun (e ∷ drafts) at

-- a root's declarations are those among its pieces
declarations-among : (events : List Event) → declarations_over [] (text_in (root_pieces events)) ≡ declarations_of events
unfolding declarations_of
declarations-among events = ap (declarations_over []) (cut-whole (root_text events))

module _ (events : List Event) (old between : Texts) (at : ℕ) (facts : List UnitFacts) (units : List RootUnit)
    (begins : between ≡ begun_texts old at) (none : facts ≡ []) (are : units ≡ units_of events)
  where
    -- all that is kept of a root
    all-kept : with_kept between facts (cut (text_of units)) ≡ with_kept (begun_texts old at) [] (root_pieces events)
    all-kept = λ i. with_kept (begins i) (none i) (cut (text_of (are i)))

    module _ (new : Texts) (grows : new ≡ with_kept between facts (cut (text_of units))) where
      pub declarations-made : new.declarations ≡ with_draft old.declarations at (map declaration_result (declarations_of events))
      declarations-made =
          let places = declarations_over [] (text_in (root_pieces events)) in
          ap (λ (t : Texts). t.declarations) (grows ∙ all-kept)
          ∙ grown-begun old.declarations at (map declaration_result places)
          ∙ ap (λ (ps : List DeclarationPlace). with_draft old.declarations at (map declaration_result ps)) (declarations-among events)

      pub blocks-made : new.blocks ≡ with_draft old.blocks at (map block_result (blocks_of events))
      unfolding blocks_of
      blocks-made =
          ap (λ (t : Texts). t.blocks) (grows ∙ all-kept)
          ∙ grown-begun old.blocks at (map block_result (blocks_over [] (root_pieces events)))

      pub begins-made : new.begins ≡ with_draft old.begins at (begins_of events)
      unfolding begins_of
      begins-made =
          let first = length (last_of (old.declarations.drafts ++ (at, []) ∷ [])) in
          ap (λ (t : Texts). t.begins) (grows ∙ all-kept)
          ∙ grown-begun old.begins at (begins_in first (root_pieces events))
          ∙ ap (λ (ks : List DeclarationResult). with_draft old.begins at (begins_in (length ks) (root_pieces events))) (last-begun old.declarations.drafts at)

    -- ---- what is compared

    -- the tasks that were known are known still
    known-begun : (known : Known) → AreOf known old → AreOf known between
    known-begun known is = record {
      declarations = ap (λ (t : Texts). results_in t.declarations) begins ∙ begun-results old.declarations at ∙ is.declarations;
      blocks = ap (λ (t : Texts). results_in t.blocks) begins ∙ begun-results old.blocks at ∙ is.blocks;
    }

    pub compared-made : (before after : ℕ) (start judged : Meter) (places : List EntryPlace) (known : Known) (entries : List EntryPlace) → AreOf known old → start.compared ≡ before → start.compared ≤ most_compared
        → Compares facts (cut (text_of units)) between start judged → places ≡ entries_of events
        → (judged.compared ≤ most_compared → after ≡ compared_after judged.compared (shared_entries entries places)) → after ≡ compared_after before (compared_root known entries events)
    unfolding compared_root
    compared-made before after start judged places known entries is same most compares there prints =
        let pieces = root_pieces events in
        let texts : judged.compared ≡ compared_after before (compared (met_over known [] pieces)) =
        compares known (known-begun known is) most ∙ (λ i. compared_after (same i) (compared (met_over known (none i) (cut (text_of (are i)))))) in
        let behind = compared-most before (compared (met_over known [] pieces)) in
        prints (omega (arith, texts, behind))
        ∙ (λ i. compared_after (texts i) (shared_entries entries (there i)))
        ∙ compared-more before (compared (met_over known [] pieces)) (shared_entries entries (entries_of events))

    -- ---- the keys

    pub keys-made : (own printed keys first second : ℕ) (places : List EntryPlace) → first ≡ 0 → second ≡ 0 → places ≡ entries_of events
        → own ≡ compared_after first (outermost_keys facts (cut (text_of units))) → printed ≡ compared_after second (sum_by entry_keys places)
        → keys ≡ compared_after own printed → keys ≡ compared_after 0 (root_keys events)
    unfolding root_keys
    keys-made own printed keys first second places zero also there judged prints sum =
        let a = outermost_keys [] (root_pieces events) in
        let b = sum_by entry_keys (entries_of events) in
        let texts : own ≡ compared_after 0 a = judged ∙ (λ i. compared_after (zero i) (outermost_keys (none i) (cut (text_of (are i))))) in
        let names : printed ≡ compared_after 0 b = prints ∙ (λ i. compared_after (also i) (sum_by entry_keys (there i))) in
        sum ∙ (λ i. compared_after (texts i) (names i)) ∙ both a b
      where
        both : (a b : ℕ) → compared_after (compared_after 0 a) (compared_after 0 b) ≡ compared_after 0 (a + b)
        both a b = omega arith

-- a number that memory holds of keys is compared as the keys are
pub compared-again : (old keys all : ℕ) → keys ≡ compared_after 0 all → compared_after old keys ≡ compared_after old all
compared-again old keys all is = omega (arith, is)
