-- A block that is taken whole, unit by unit and as a whole.
use Rattle.std.proofs.Common.{◌≡◌, ◌⊎◌, ◌≤◌, ◌<◌, ◌^◌, ◌∙◌, ◌+◌, ℕ, List, [], ◌∷◌, ◌++◌, length, map, subst, sym, ap}
use Rattle.std.specs.Prelude.{All, Contains}
use Rattle.idl_root_blocks.specs.idl_check_laws.Closing.{AreTold}
use Rattle.idl_env.specs.Facts.{UnitFacts, answers, count_in}
use Rattle.idl_env.specs.Turns.{most_turns, turns_for}
use Rattle.idl_env.specs.declared.keys.key.Key.TheVariants.{Nameless}
use Rattle.idl_kept.proofs.Begins.{count-unit_results}
use Rattle.idl_kept.specs.Texts.{BlockResult, DeclarationResult, IsPlaced, IsTaken, Texts, unit_results, with_whole}
use Rattle.idl_memo.specs.Kept.{NoneAlikeAt, SomeAlikeAt}
use Rattle.idl_root.proofs.AsBeforeLemmas.{judged-kept}
use Rattle.idl_root.proofs.BlockLemmas.{from-among, pass-known}
use Rattle.idl_root.proofs.StoredLemmas.{grown-results}
use Rattle.idl_root.specs.AsBefore.{judged_beside}
use Rattle.idl_root.specs.Followed.{added_by}
use Rattle.idl_root.specs.Judged.{judged_after}
use Rattle.idl_root.specs.Passed.{IsSameBlock}
use Rattle.idl_root.specs.Results.{HasDraft, IsDeclarationPass, marks_in, marks_of}
use Rattle.idl_root_blocks.proofs.Cuts.{cut-whole}
use Rattle.idl_root_blocks.specs.Blocks.{IsOfBlock, Pieces, cut, text_in}
use Rattle.idl_root_blocks.specs.Finding.{texts_in}
use Rattle.idl_root_blocks.specs.Places.{DeclarationPlace, block_at, block_result, declaration_result, declarations_over, facts_over, with_entering}
use Rattle.idl_root_blocks.specs.Units.{text_of}
use Rattle.idl_root_blocks.specs.declared.text.BlockPart.{BlockPart as Part}
use Rattle.idl_store.specs.Spots.{results_from}
use Rattle.idl_store.specs.Stored.{results_in}
use Rattle.idl_store.specs.declared.numbers.Spot.{Spot}
use Rattle.idl_unit.specs.declared.unit.Unit.{Unit as RootUnit}

module _
    (repeated : (facts there : List UnitFacts) (text : List Part) (inside : Pieces) → IsOfBlock text → IsPlaced there inside
    → block_result (text, answers facts) ≡ block_result (block_at there inside) → AreTold facts
    → turns_for (with_entering facts ++ added_by (marks_in text) (unit_results there inside)) ≤ most_turns
    → count_in (answers (with_entering facts ++ added_by (marks_in text) (unit_results there inside)) Nameless) < 2 ^ 64
    → IsSameBlock facts text there inside)
    (facts : List UnitFacts) (units : List RootUnit) (kept new : Texts) (from : Spot)
    (taken : IsTaken kept new (block_result (text_of units, answers facts)) from) (whole : IsOfBlock (text_of units)) (told : AreTold facts)
  where
    abbrev text : List Part
    text = text_of units

    abbrev results : List DeclarationResult
    results = unit_results taken.there taken.inside

    abbrev known : List DeclarationResult
    known = results_from new.declarations from (texts_in text)

    known-are : known ≡ results
    known-are =
        let own : text ≡ text_in taken.inside = ap (λ (r : BlockResult). r.text) taken.result in
        ap (λ n. results_from new.declarations from n) (ap texts_in own ∙ sym (count-unit_results taken.there taken.inside)) ∙ taken.units

    -- what is added beside these results
    behind-is : with_entering facts ++ added_by (marks_of units) known ≡ with_entering facts ++ added_by (marks_in text) results
    behind-is = ap (λ (rs : List DeclarationResult). with_entering facts ++ added_by (marks_in text) rs) known-are

    module _ (behind : List UnitFacts) (is : behind ≡ with_entering facts ++ added_by (marks_of units) known)
        (turns : turns_for behind ≤ most_turns) (count : count_in (answers behind Nameless) < 2 ^ 64) where
      pub same : IsSameBlock facts text taken.there taken.inside
      same =
          repeated facts taken.there text taken.inside whole taken.placed taken.result told
          (subst (λ (fs : List UnitFacts). turns_for fs ≤ most_turns) (is ∙ behind-is) turns)
          (subst (λ (fs : List UnitFacts). count_in (answers fs Nameless) < 2 ^ 64) (is ∙ behind-is) count)

      -- these are the facts of its units here
      pub facts-are : behind ≡ facts_over (with_entering facts) (text_in (cut text))
      facts-are = is ∙ behind-is ∙ sym same.facts_are ∙ ap (facts_over (with_entering facts)) (sym (cut-whole text))

      results-are : known ≡ map declaration_result (declarations_over (with_entering facts) text)
      results-are = known-are ∙ sym same.units ∙ ap (λ (t : List Part). map declaration_result (declarations_over (with_entering facts) t)) (cut-whole text)

      pub judged-are : judged_beside units known ≡ judged_after (with_entering facts) units
      judged-are = ap (judged_beside units) results-are ∙ sym (judged-kept units (with_entering facts))

      pub kept-are : new ≡ with_whole kept facts (cut text)
      kept-are = taken.whole ∙ sym (same.whole kept)

      -- and none of them is run
      pub none-run : (none : (old : List DeclarationResult) (count : ℕ) → IsDeclarationPass [] old old count count)
          (one : (here : DeclarationPlace) (old new : List DeclarationResult) (before after : ℕ) → new ≡ old ++ declaration_result here ∷ []
          → (SomeAlikeAt here old × (after ≡ before)) ⊎ (NoneAlikeAt here old × (after ≡ before + 1)) → IsDeclarationPass (here ∷ []) old new before after)
          (both : (first second : List DeclarationPlace) (old between new : List DeclarationResult) (before at after : ℕ) → IsDeclarationPass first old between before at
          → IsDeclarationPass second between new at after → IsDeclarationPass (first ++ second) old new before after)
          → HasDraft kept.declarations → (n : ℕ)
          → IsDeclarationPass (declarations_over (with_entering facts) (text_in (cut text))) (results_in kept.declarations) (results_in new.declarations) n n
      none-run none one both has n =
          let places : List DeclarationPlace = declarations_over (with_entering facts) (text_in (cut text)) in
          let there : All (Contains (results_in kept.declarations)) (map declaration_result places) =
          subst (All (Contains (results_in kept.declarations))) (taken.known ∙ sym same.units) (from-among kept.declarations from (length results)) in
          let grows : results_in new.declarations ≡ results_in kept.declarations ++ map declaration_result places =
          ap (λ (t : Texts). results_in t.declarations) kept-are ∙ grown-results kept.declarations (map declaration_result places) has in
          subst (λ rs. IsDeclarationPass places (results_in kept.declarations) rs n n) (sym grows) (pass-known none one both places (results_in kept.declarations) n there)
