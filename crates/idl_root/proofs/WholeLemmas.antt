-- A block that is taken whole: what it came to where it was kept it comes to here.
use Rattle.std.proofs.Common.{◌≡◌, ◌≤◌, ◌<◌, ◌^◌, ◌∙◌, true, ℕ, List, [], ◌∷◌, ◌++◌, append-nil, append_assoc, length, map, subst, sym, ap}
use Rattle.std.proofs.lemmas.List.{append_cancel_left}
use Rattle.std.specs.Option.{option_eq}
use Rattle.idl_root_blocks.specs.verdicts.Standing.{AreStanding, IsBlockFront, block_end}
use Rattle.idl_root_blocks.specs.idl_check_laws.Closing.{AreTold}
use Rattle.idl_env.specs.Facts.{UnitFacts, answers, boundary, count_in}
use Rattle.idl_env.specs.SameAnswer.{answer_eq}
use Rattle.idl_env.specs.SameKey.{same_key}
use Rattle.idl_env.specs.Turns.{most_turns, turns_for}
use Rattle.idl_env.specs.declared.additions.addition.Step.TheVariants.{Enters as EntersFile}
use Rattle.idl_env.specs.declared.keys.key.Key.TheVariants.{Nameless}
use Rattle.idl_env.specs.keys.Digested.{key_equiv}
use Rattle.idl_env.specs.keys.Key.{key_eq}
use Rattle.idl_kept.specs.Texts.{BlockResult, IsPlaced, begins_in, inner_results, unit_results, with_blocks, with_units}
use Rattle.idl_memo.proofs.QueryLaws.{IsLogOf-run}
use Rattle.idl_memo.specs.Fresh.{is_alike}
use Rattle.idl_memo.specs.Query.{HoldsIn}
use Rattle.idl_root.specs.Followed.{added_by}
use Rattle.idl_root.specs.Results.{marks_in}
use Rattle.idl_root.specs.Passed.{IsSameBlock}
use Rattle.idl_root_blocks.proofs.Cuts.{cut-one, cut-whole}
use Rattle.idl_root_blocks.specs.Blocks.{AreCut, IsOfBlock, Pieces, cut, parts_of, plain_text, text_in}
use Rattle.idl_root_blocks.specs.Met.{IsLike, block_text_eq}
use Rattle.idl_root_blocks.specs.Places.{BlockPlace, ComesTo, Stands, block_asks, block_at, block_query, block_result, blocks_over, declaration_result, declarations_over, facts_over, with_entering}
use Rattle.idl_root_blocks.specs.declared.text.BlockPart.{BlockPart as Part}
use Rattle.idl_root_blocks.specs.declared.text.BlockPart.TheVariants.{Text, Enters, Leaves}
use Rattle.idl_store.specs.Stored.{last_draft}

-- what a text adds, its marks and the results of its units tell
pub added-text : (text : List Part) (facts : List UnitFacts) → facts_over facts text ≡ facts ++ added_by (marks_in text) (map declaration_result (declarations_over facts text))
unfolding declarations_over
added-text [] facts = sym (append-nil facts)
added-text (Text unit ∷ text) facts =
    let own : UnitFacts = (declaration_result (unit, answers facts)).out.writes in
    added-text text (facts ++ own ∷ [])
    ∙ append_assoc facts (own ∷ []) (added_by (marks_in text) (map declaration_result (declarations_over (facts ++ own ∷ []) text)))
added-text (Enters inside ∷ text) facts =
    let own : List UnitFacts = facts_over [] (Enters inside ∷ []) in
    added-text text (facts ++ own) ∙ append_assoc facts own (added_by (marks_in text) (map declaration_result (declarations_over (facts ++ own) text)))
added-text (Leaves inside ∷ text) facts =
    let own : List UnitFacts = facts_over [] (Leaves inside ∷ []) in
    added-text text (facts ++ own) ∙ append_assoc facts own (added_by (marks_in text) (map declaration_result (declarations_over (facts ++ own) text)))

-- what is asked of a block where it stands holds there
pub block-holds : (text : List Part) (facts : List UnitFacts) → HoldsIn (answers facts) (block_result (text, answers facts)).log
block-holds text facts = (IsLogOf-run key_eq key_equiv.refl same_key (block_asks text) (answers facts)).answers

module _
    (here : (before : List UnitFacts) (text : List Part) → IsBlockFront (parts_of text) → AreTold before
    → turns_for (facts_over (with_entering before) text) ≤ most_turns → count_in (answers (facts_over (with_entering before) text) Nameless) < 2 ^ 64 → Stands before text)
    (parts : (text : List Part) → IsOfBlock text → IsBlockFront (parts_of text))
    (alone : (before : List UnitFacts) (text : List Part) → IsOfBlock text → AreStanding before (block_end (answers before) (parts_of text)).1
    → ComesTo before text (block_end (answers before) (parts_of text)))
    (alike : (before other : List UnitFacts) (text there : List Part) → IsOfBlock text → AreStanding before (block_end (answers before) (parts_of text)).1
    → AreStanding other (block_end (answers before) (parts_of text)).1
    → is_alike block_text_eq (option_eq answer_eq) block_query (there, answers other) (text, answers before) ≡ true
    → ComesTo before text (block_end (answers before) (parts_of text)) × ComesTo other there (block_end (answers before) (parts_of text)))
    (tells : (here task : BlockPlace) → IsLike here (block_result task) → is_alike block_text_eq (option_eq answer_eq) block_query here task ≡ true)
    (units : (before other : List UnitFacts) (text there : List Part) → IsOfBlock text → AreStanding before (block_end (answers before) (parts_of text)).1
    → AreStanding other (block_end (answers before) (parts_of text)).1
    → is_alike block_text_eq (option_eq answer_eq) block_query (there, answers other) (text, answers before) ≡ true
    → map declaration_result (declarations_over (with_entering other) there) ≡ map declaration_result (declarations_over (with_entering before) text))
    (blocks : (before other : List UnitFacts) (inside : Pieces) → IsOfBlock (text_in inside) → AreCut inside
    → AreStanding before (block_end (answers before) (parts_of (text_in inside))).1 → AreStanding other (block_end (answers before) (parts_of (text_in inside))).1
    → is_alike block_text_eq (option_eq answer_eq) block_query (block_at other inside) (block_at before inside) ≡ true
    → map block_result (blocks_over (with_entering other) inside) ≡ map block_result (blocks_over (with_entering before) inside))
    (facts there : List UnitFacts) (text : List Part) (inside : Pieces)
    (whole : IsOfBlock text) (placed : IsPlaced there inside) (same : block_result (text, answers facts) ≡ block_result (block_at there inside)) (told : AreTold facts)
  where
    abbrev entered : List UnitFacts
    entered = boundary EntersFile ∷ []

    abbrev end : List UnitFacts
    end = (block_end (answers there) (parts_of (text_in inside))).1

    abbrev added : List UnitFacts
    added = added_by (marks_in text) (unit_results there inside)

    abbrev behind : List UnitFacts
    behind = with_entering facts ++ added

    one-text : text_in inside ≡ text
    one-text = ap (λ (r : BlockResult). r.text) (sym same)

    is-cut : inside ≡ cut text
    is-cut = sym (cut-one inside placed.cut) ∙ ap cut one-text

    -- the block there is alike here
    is-alike : is_alike block_text_eq (option_eq answer_eq) block_query (text, answers facts) (block_at there inside) ≡ true
    is-alike = tells (text, answers facts) (block_at there inside) (record {
      text_is = ap plain_text one-text;
      answers = subst (λ (r : BlockResult). HoldsIn (answers facts) r.log) same (block-holds text facts);
    })

    -- what it added there
    is-end : end ≡ entered ++ added
    is-end =
        let comes : ComesTo there (text_in inside) (block_end (answers there) (parts_of (text_in inside))) = alone there (text_in inside) placed.block placed.standing in
        append_cancel_left there end (entered ++ added)
        (sym (ap (λ e. e.1) comes)
        ∙ added-text (text_in inside) (with_entering there)
        ∙ append_assoc there entered (added_by (marks_in (text_in inside)) (unit_results there inside))
        ∙ ap (λ (t : List Part). there ++ (entered ++ added_by (marks_in t) (unit_results there inside))) one-text)

    is-behind : behind ≡ facts ++ end
    is-behind = append_assoc facts entered added ∙ ap (λ (fs : List UnitFacts). facts ++ fs) (sym is-end)

    module _ (turns : turns_for behind ≤ most_turns) (count : count_in (answers behind Nameless) < 2 ^ 64) where
      stands-there : AreStanding facts end
      stands-there = record {
        told = told;
        turns = subst (λ (fs : List UnitFacts). turns_for fs ≤ most_turns) is-behind turns;
        count = subst (λ (fs : List UnitFacts). count_in (answers fs Nameless) < 2 ^ 64) is-behind count;
      }

      is-facts : facts_over (with_entering facts) text ≡ behind
      is-facts = ap (λ e. e.1) (alike there facts (text_in inside) text placed.block placed.standing stands-there is-alike).1 ∙ sym is-behind

      is-units : unit_results facts (cut text) ≡ unit_results there inside
      is-units =
          ap (λ (t : List Part). map declaration_result (declarations_over (with_entering facts) t)) (cut-whole text)
          ∙ units there facts (text_in inside) text placed.block placed.standing stands-there is-alike

      is-inner : inner_results facts (cut text) ≡ inner_results there inside
      is-inner =
          ap (λ (pieces : Pieces). map block_result (blocks_over (with_entering facts) pieces)) (sym is-cut)
          ∙ blocks there facts inside placed.block placed.cut placed.standing stands-there
          (subst (λ (t : List Part). is_alike block_text_eq (option_eq answer_eq) block_query (t, answers facts) (block_at there inside) ≡ true) (sym one-text) is-alike)

      is-block : block_result (block_at facts (cut text)) ≡ block_result (block_at there inside)
      is-block = ap (λ (t : List Part). block_result (t, answers facts)) (cut-whole text) ∙ same

      -- so all that is kept of it is that of this place
      pub same-block : IsSameBlock facts text there inside
      same-block = record {
        stands = here facts text (parts text whole) told
            (subst (λ (fs : List UnitFacts). turns_for fs ≤ most_turns) (sym is-facts) turns) (subst (λ (fs : List UnitFacts). count_in (answers fs Nameless) < 2 ^ 64) (sym is-facts) count);
        facts_are = is-facts;
        units = is-units;
        whole = λ texts i.
            let begin : ℕ = length (last_draft texts.declarations) in
            with_blocks (with_units texts (is-units i)) (is-inner i ++ is-block i ∷ []) (begins_in begin (sym is-cut i) ++ begin ∷ []);
      }
