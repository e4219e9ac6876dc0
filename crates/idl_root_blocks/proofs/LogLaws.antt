-- The log of a block goes on with what its units and the blocks inside have asked.
use Rattle.std.proofs.Common.{◌≡◌, ◌≤◌, ◌<◌, ◌↔◌, ◌∙◌, ℕ, suc, Bool, true, false, not, List, [], ◌∷◌, ◌++◌, Option, append-nil, arith, length, map, refl, subst, sym, ap}
use Rattle.std.proofs.lemmas.Bool.{lt-ltb, ltb-true}
use Rattle.std.proofs.lemmas.List.Elements.{All-weaker, filter_agree, filter_passes}
use Rattle.std.specs.List.{filter}
use Rattle.std.specs.Prelude.{All, IsFalse, nat_lt}
use Rattle.idl_block.proofs.JoinedLaws.{outer-joined, outer-unit}
use Rattle.idl_block.proofs.Logged.{noted_all-same}
use Rattle.idl_block.proofs.NestingLaws.{log-nested, noted-passing}
use Rattle.idl_block.proofs.OuterLaws.{log-outer}
use Rattle.idl_block.specs.Behind.{laid}
use Rattle.idl_block.specs.Questions.{AreKnown, outer_asked}
use Rattle.idl_root_blocks.specs.verdicts.Standing.{AreStanding, IsBlockFront, unit_asks, unit_writes}
use Rattle.idl_env.specs.Facts.{UnitFacts, answers, boundary}
use Rattle.idl_env.specs.SameKey.{same_key}
use Rattle.idl_env.specs.Written.{last_written}
use Rattle.idl_env.specs.declared.additions.addition.Step.TheVariants.{Enters as EntersFile}
use Rattle.idl_env.specs.declared.answering.answer.Answer.{Answer}
use Rattle.idl_env.specs.declared.keys.key.Key.{Key}
use Rattle.idl_env.specs.keys.Digested.{key_equiv}
use Rattle.idl_env.specs.keys.Key.{key_eq}
use Rattle.idl_block.proofs.FactLaws.AnsweredLaws.{answered-behind}
use Rattle.idl_block.proofs.FactLaws.Seen.KnownLaws.{known-block}
use Rattle.idl_block.proofs.FactLaws.WalkLaws.{IsSound, sound-block}
use Rattle.idl_block.proofs.FactLaws.WrittenLaws.{answered-among, last-among}
use Rattle.idl_block.specs.facts.Answered.{answered}
use Rattle.idl_block.specs.facts.Written.{is_written}
use Rattle.idl_memo.proofs.QueryLaws.{noted_all-append}
use Rattle.idl_memo.specs.Query.{asked, noted_all}
use Rattle.idl_root_blocks.proofs.Comes.{of-block}
use Rattle.idl_root_blocks.proofs.Fronts.{Enough, Parts, ended, facts-come, parts-append}
use Rattle.idl_root_blocks.proofs.Insides.{NestedIn}
use Rattle.idl_root_blocks.proofs.Results.{asks-block}
use Rattle.idl_root_blocks.specs.Blocks.{IsOfBlock, parts_of}
use Rattle.idl_root_blocks.specs.Outer.{Log, is_unwritten, noted_over, outer_log}
use Rattle.idl_root_blocks.specs.Places.{block_query, block_result, declaration_result, facts_over, unit_ways, with_entering}
use Rattle.idl_root_blocks.specs.declared.text.BlockPart.{BlockPart as Part}
use Rattle.idl_root_blocks.specs.declared.text.BlockPart.TheVariants.{Text, Enters, Leaves}
use Rattle.idl_unit.specs.declared.unit.UnitText.{UnitText}

-- a test that says otherwise where the number is past the first ones
numbered : (n m : ℕ) (b : Bool) → (n ≤ m) ↔ IsFalse b → not b ≡ nat_lt n (suc m)
numbered n m false both = let within : n ≤ m = both.1 refl in sym (lt-ltb n (suc m) (omega (arith, within)))
numbered n m true both = by (nat_lt n (suc m)) refl
  where
    by : (t : Bool) → nat_lt n (suc m) ≡ t → false ≡ t
    by false is = refl
    by true is =
        let below : n < suc m = ltb-true n (suc m) is in
        let never : true ≡ false = both.0 (omega (arith, below)) in
        cc

module _ (enough : Enough) where
  -- a block that is left has the log of its outer keys
  pub left-log : (before : List UnitFacts) (text : List Part) → IsBlockFront (parts_of text) → AreStanding before (ended before text) → (block_result (text, answers before)).log ≡ outer_log before text
  left-log before text whole standing =
      let known = known-block unit_asks unit_writes (answers before) (parts_of text) (enough before (parts_of text) whole standing) in
      ap (noted_all key_eq (answers before) []) (asks-block text (answers before))
      ∙ log-outer unit_ways (answers before) key_eq key_equiv.refl same_key (parts_of text) (boundary EntersFile ∷ []) [] known

  module _ (before : List UnitFacts) (front : List Part) (whole : IsBlockFront (parts_of front)) (standing : AreStanding before (ended before front)) where
    abbrev outer : List UnitFacts
    outer = ended before front

    abbrev bank : Key → Option Answer
    bank = answers before

    abbrev over : List UnitFacts
    over = facts_over (with_entering before) front

    abbrev log : Log
    log = outer_log before front

    sound : IsSound bank outer
    sound = sound-block unit_asks unit_writes bank (parts_of front) (enough before (parts_of front) whole standing)

    is-over : over ≡ before ++ outer
    is-over = facts-come enough before front whole standing

    is-laid : laid answered outer bank ≡ answers over
    is-laid = (λ i k. answered-behind before outer k sound.proper sound.within i) ∙ ap answers (sym is-over)

    abbrev passes : Key → Bool
    passes k = not (is_written outer bank k)

    unwritten-is : (k : Key) → passes k ≡ is_unwritten over (suc (length before)) k
    unwritten-is k =
        subst (λ (fs : List UnitFacts). passes k ≡ is_unwritten fs (suc (length before)) k) (sym is-over)
        (numbered (last_written (before ++ outer) k) (length before) (is_written outer bank k) (last-among before outer k sound.within))

    false-of : (b : Bool) → not b ≡ true → IsFalse b
    false-of true h = cc
    false-of false h = refl

    -- what passes is answered there as before
    same-answers : (keys : List Key) → All (λ k. answers over k ≡ bank k) (filter passes keys)
    same-answers keys =
        All-weaker (λ k. passes k ≡ true) (λ k. answers over k ≡ bank k)
        (λ k h. ap (λ (fs : List UnitFacts). answers fs k) is-over ∙ answered-among before outer k sound.within (false-of (is_written outer bank k) h)) (filter passes keys) (filter_passes passes keys)

    -- the log goes on with these keys as with those of them that are told by numbers
    noted-by : (keys : List Key) → noted_all key_eq bank log (filter passes keys) ≡ noted_all key_eq (answers over) log (filter (is_unwritten over (suc (length before))) keys)
    noted-by keys =
        sym (noted_all-same key_eq bank (answers over) (filter passes keys) log (same-answers keys))
        ∙ ap (noted_all key_eq (answers over) log) (filter_agree passes (is_unwritten over (suc (length before))) unwritten-is keys)

    -- with more parts behind the front
    joined : (more : List Part) → outer_log before (front ++ more) ≡ noted_all key_eq bank log (outer_asked unit_ways (parts_of more) outer bank)
    joined more =
        ap (λ (ps : Parts). noted_all key_eq bank [] (outer_asked unit_ways ps (boundary EntersFile ∷ []) bank)) (parts-append front more)
        ∙ ap (noted_all key_eq bank []) (outer-joined unit_ways bank (parts_of front) (parts_of more) (boundary EntersFile ∷ []))
        ∙ noted_all-append key_eq bank [] (outer_asked unit_ways (parts_of front) (boundary EntersFile ∷ []) bank) (outer_asked unit_ways (parts_of more) outer bank)

    pub boundary-log : (part : Part) → outer_asked unit_ways (parts_of (part ∷ [])) outer bank ≡ [] → outer_log before (front ++ part ∷ []) ≡ log
    boundary-log part none = joined (part ∷ []) ∙ ap (noted_all key_eq bank log) none

    pub unit-log : (text : UnitText) → outer_log before (front ++ Text text ∷ []) ≡ noted_over over (suc (length before)) log (declaration_result (text, answers over)).log
    unit-log text =
        let there : Key → Option Answer = laid answered outer bank in
        let keys : List Key = asked (unit_asks text) there in
        joined (Text text ∷ [])
        ∙ ap (noted_all key_eq bank log) (outer-unit unit_ways bank text outer)
        ∙ sym (noted-passing unit_ways outer bank key_eq key_equiv.refl same_key passes there keys [] log)
        ∙ ap (λ (b : Key → Option Answer). noted_all key_eq bank log (filter passes (map (λ e. e.0) (noted_all key_eq b [] (asked (unit_asks text) b))))) is-laid
        ∙ noted-by (map (λ e. e.0) (declaration_result (text, answers over)).log)

    pub block-log : NestedIn → (inside : List Part) → IsOfBlock inside → AreStanding over (ended over inside)
        → outer_log before (front ++ Enters false ∷ (inside ++ Leaves false ∷ [])) ≡ noted_over over (suc (length before)) log (block_result (inside, answers over)).log
    block-log nested inside b stands =
        let entered : List UnitFacts = boundary EntersFile ∷ [] in
        let there : Key → Option Answer = laid answered outer bank in
        let n = nested before (parts_of front) (parts_of inside) whole standing (of-block inside b) (subst (λ (fs : List UnitFacts). AreStanding fs (ended fs inside)) is-over stands) in
        let known : AreKnown unit_ways (parts_of inside) entered there =
        subst (λ (c : Key → Option Answer). AreKnown unit_ways (parts_of inside) entered c) (sym is-laid)
        (known-block unit_asks unit_writes (answers over) (parts_of inside) (enough over (parts_of inside) (of-block inside b) stands)) in
        joined (Enters false ∷ (inside ++ Leaves false ∷ []))
        ∙ ap (λ (ps : Parts). noted_all key_eq bank log (outer_asked unit_ways ps (outer ++ entered) bank)) (parts-append inside (Leaves false ∷ []))
        ∙ ap (noted_all key_eq bank log)
        (outer-joined unit_ways bank (parts_of inside) (parts_of (Leaves false ∷ [])) (outer ++ entered) ∙ append-nil (outer_asked unit_ways (parts_of inside) (outer ++ entered) bank))
        ∙ log-nested unit_ways outer bank key_eq key_equiv.refl same_key (parts_of inside) entered log n.0 known
        ∙ ap (λ (c : Key → Option Answer). noted_all key_eq bank log (filter passes (map (λ e. e.0) (noted_all key_eq c [] (asked (block_query inside) c))))) is-laid
        ∙ ap (λ (ks : List Key). noted_all key_eq bank log (filter passes (map (λ e. e.0) (noted_all key_eq (answers over) [] ks)))) (sym (asks-block inside (answers over)))
        ∙ noted-by (map (λ e. e.0) (block_result (inside, answers over)).log)
