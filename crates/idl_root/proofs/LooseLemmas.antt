-- A loose part of a root's units is passed: a unit, or a file boundary.
use Rattle.std.proofs.Common.{◌≡◌, ◌⊎◌, ◌≤◌, ◌∙◌, ◌+◌, arith, inl, inr, ℕ, List, [], ◌∷◌, ◌++◌, append-nil, length, map, refl, subst, sym, ap}
use Rattle.std.proofs.lemmas.List.Sums.{sum_by-cons}
use Rattle.std.specs.Prelude.{sum_by}
use Rattle.std.specs.Option.{option_eq}
use Rattle.idl_root_blocks.specs.verdicts.Standing.{unit_asks}
use Rattle.idl_env.specs.Facts.{UnitFacts, answers}
use Rattle.idl_env.specs.SameAnswer.{answer_eq}
use Rattle.idl_env.specs.keys.Key.{key_eq}
use Rattle.idl_kept.specs.Texts.{DeclarationResult, Texts, with_units}
use Rattle.idl_memo.specs.Fresh.{fresh_at, shared_at}
use Rattle.idl_memo.specs.Kept.{NoneAlikeAt, SomeAlikeAt}
use Rattle.idl_memo.specs.Meter.{compared_after, most_compared}
use Rattle.idl_memo.specs.declared.meter.Meter.{Meter}
use Rattle.idl_memo.specs.declared.task.TaskKind.TheVariants.{Check}
use Rattle.idl_root.proofs.PassedLemmas.{keys-none}
use Rattle.idl_root.proofs.PiecesLemmas.{compared-none}
use Rattle.idl_root.proofs.SharedLemmas.{compared-most, shared-one}
use Rattle.idl_root.proofs.StoredLemmas.{grown-none, grown-results}
use Rattle.idl_root.specs.Followed.{IsDeclarationLast, IsKeeping, UnitsOnly}
use Rattle.idl_root_blocks.specs.idl_check.walk.Verdict.{verdict_over}
use Rattle.idl_root.specs.Passed.{AllGoOn, ArePassed, Compares, WalksOnly, keys_behind, with_kept}
use Rattle.idl_root.specs.Results.{HasDraft, IsDeclarationPass, part_mark}
use Rattle.idl_root.specs.declared.kept.keeping.Keeping.{Keeping}
use Rattle.idl_root.specs.declared.kept.marks.Mark.TheVariants.{Judged}
use Rattle.idl_root_blocks.proofs.Wholes.{declarations-first, declarations-none}
use Rattle.idl_root_blocks.specs.Blocks.{Loose, Nothing}
use Rattle.idl_root_blocks.proofs.Meets.{met-loose}
use Rattle.idl_root_blocks.specs.Met.{MetUnit, compared, met_over, outermost_keys, shared_by, unit_keys, unit_text_eq, with_part}
use Rattle.idl_root_blocks.specs.Places.{DeclarationPlace, blocks_over, declaration_at, declaration_result, declarations_over, facts_over}
use Rattle.idl_root_blocks.specs.declared.text.BlockPart.{BlockPart as Part}
use Rattle.idl_root_blocks.specs.declared.text.BlockPart.TheVariants.{Text}
use Rattle.idl_store.specs.Obtained.{IsObtained}
use Rattle.idl_store.specs.Stored.{Stored, grown, results_in}
use Rattle.idl_unit.specs.declared.unit.UnitText.{UnitText}

places-loose : (facts : List UnitFacts) (part : Part) → declarations_over facts (part ∷ []) ≡ declaration_at facts part
places-loose facts part =
    declarations-first part [] facts
    ∙ ap (λ (places : List DeclarationPlace). declaration_at facts part ++ places) (declarations-none (facts_over facts (part ∷ [])))
    ∙ append-nil (declaration_at facts part)

-- what is kept of one
kept-loose : (kept : Texts) (facts : List UnitFacts) (part : Part) → with_units kept (map declaration_result (declaration_at facts part)) ≡ with_kept kept facts (Loose part Nothing)
unfolding blocks_over
kept-loose kept facts part = λ i. record {
  declarations = grown kept.declarations (map declaration_result (sym (places-loose facts part) i));
  blocks = sym (grown-none kept.blocks) i;
  begins = sym (grown-none kept.begins) i;
}

module _ (none : (old : List DeclarationResult) (count : ℕ) → IsDeclarationPass [] old old count count)
    (one : (here : DeclarationPlace) (old new : List DeclarationResult) (before after : ℕ) → new ≡ old ++ declaration_result here ∷ []
    → (SomeAlikeAt here old × (after ≡ before)) ⊎ (NoneAlikeAt here old × (after ≡ before + 1)) → IsDeclarationPass (here ∷ []) old new before after)
    (facts : List UnitFacts) (kept new : Texts) (old behind : Keeping)
  where
    -- a unit
    pub passed-unit : (text : UnitText) (result : DeclarationResult) → HasDraft kept.declarations
        → IsDeclarationLast (text, answers facts) kept.declarations new.declarations old.meter behind.meter result → UnitsOnly kept new
        → behind.marks.items ≡ old.marks.items ++ Judged ∷ []
        → IsKeeping new.declarations.lists behind (facts ++ (verdict_over facts text).writes ∷ []) → behind.earlier ≡ old.earlier
        → AllGoOn facts (Text text ∷ []) old.blocks.blocks behind.blocks.blocks
        → behind.keys ≡ keys_behind old.blocks.blocks old.keys (unit_keys (text, answers facts))
        → ArePassed facts (Loose (Text text) Nothing) kept old new behind
    passed-unit text result has last only marks walks earlier blocks keys =
        let here : DeclarationPlace = (text, answers facts) in
        let grows : new ≡ with_units kept (declaration_result here ∷ []) = only ∙ ap (λ (s : Stored DeclarationResult). record kept { declarations = s }) last.new_is in
        let results : results_in new.declarations ≡ results_in kept.declarations ++ declaration_result here ∷ [] =
        ap (λ (s : Stored DeclarationResult). results_in s) last.new_is ∙ grown-results kept.declarations (declaration_result here ∷ []) has in
        record {
          kept_is = grows ∙ kept-loose kept facts (Text text);
          marks = marks;
          keeping_is = subst (λ (s : Stored DeclarationResult). IsKeeping s.lists behind (facts ++ (verdict_over facts text).writes ∷ [])) last.new_is walks;
          earlier = earlier;
          counts =
              subst (λ (places : List DeclarationPlace). IsDeclarationPass places (results_in kept.declarations) (results_in new.declarations) old.meter.checked behind.meter.checked)
              (sym (places-loose facts (Text text)))
              (one here (results_in kept.declarations) (results_in new.declarations) old.meter.checked behind.meter.checked results (elim last.obtained [
                | inl some ↦ inl (some.0, ap (λ (m : Meter). m.checked) some.1)
                | inr fresh ↦ inr (fresh.0, ap (λ (m : Meter). m.checked) fresh.1)
              ]));
          others = elim last.obtained [
            | inl some ↦ subst (λ (n : Meter). n ≡ record old.meter { checked = n.checked; compared = n.compared }) (sym some.1) refl
            | inr fresh ↦ subst (λ (n : Meter). n ≡ record old.meter { checked = n.checked; compared = n.compared }) (sym fresh.1) refl
          ];
          blocks = blocks;
          keys = λ within. keys ∙ (let all = sum_by-cons unit_keys here [] in let same : unit_keys here ≡ outermost_keys facts (Loose (Text text) Nothing) = omega (arith, all) in ap (keys_behind old.blocks.blocks old.keys) same);
        }

    -- a file boundary, of which nothing is kept
    pub passed-boundary : (part : Part) → declaration_at facts part ≡ [] → new ≡ kept
        → behind.marks.items ≡ old.marks.items ++ part_mark part ∷ []
        → IsKeeping kept.declarations.lists behind (facts_over facts (part ∷ []))
        → WalksOnly old behind → AllGoOn facts (part ∷ []) old.blocks.blocks old.blocks.blocks
        → ArePassed facts (Loose part Nothing) kept old new behind
    passed-boundary part bare same marks walks only blocks =
        let places : declarations_over facts (part ∷ []) ≡ [] = places-loose facts part ∙ bare in
        record {
          kept_is = same ∙ sym (ap (λ (s : Stored DeclarationResult). record kept { declarations = s }) (grown-none kept.declarations))
              ∙ ap (λ (ps : List DeclarationPlace). with_units kept (map declaration_result ps)) (sym bare) ∙ kept-loose kept facts part;
          marks = marks;
          keeping_is = walks;
          earlier = ap (λ (k : Keeping). k.earlier) only;
          counts =
              subst (λ (n : ℕ). IsDeclarationPass (declarations_over facts (part ∷ [])) (results_in kept.declarations) (results_in new.declarations) old.meter.checked n)
              (sym (ap (λ (k : Keeping). k.meter.checked) only))
              (subst (λ (t : Texts). IsDeclarationPass (declarations_over facts (part ∷ [])) (results_in kept.declarations) (results_in t.declarations) old.meter.checked old.meter.checked) (sym same)
              (subst (λ (ps : List DeclarationPlace). IsDeclarationPass ps (results_in kept.declarations) (results_in kept.declarations) old.meter.checked old.meter.checked) (sym places)
              (none (results_in kept.declarations) old.meter.checked)));
          others = subst (λ (n : Meter). n ≡ record old.meter { checked = n.checked; compared = n.compared }) (sym (ap (λ (k : Keeping). k.meter) only)) refl;
          blocks = subst (λ (k : Keeping). AllGoOn facts (part ∷ []) old.blocks.blocks k.blocks.blocks) (sym only) blocks;
          keys = λ within.
              let none : outermost_keys facts (Loose part Nothing) ≡ 0 = (let empty = ap (λ (ps : List DeclarationPlace). sum_by unit_keys ps) bare in omega (arith, empty)) in
              ap (λ (k : Keeping). k.keys) only ∙ keys-none old.blocks.blocks old.keys within ∙ ap (keys_behind old.blocks.blocks old.keys) (sym none);
        }

-- ---- what is compared

met-fits : (here : DeclarationPlace) (results : List DeclarationResult) (old new : Meter) → old.compared ≤ most_compared → IsObtained here (declaration_result here) Check results old new → new.compared ≤ most_compared
met-fits here results old new fits (inl (alike, is)) =
    let counts = ap (λ (m : Meter). m.compared) is in
    let most = compared-most old.compared (length (declaration_result here).log) in
    omega (arith, counts, most)
met-fits here results old new fits (inr (fresh, is)) =
    let counts = ap (λ (m : Meter). m.compared) is in
    omega (arith, counts, fits)

-- where a unit is met
pub compares-unit : ((known : List DeclarationPlace) (here : DeclarationPlace) → SomeAlikeAt here (map declaration_result known) → fresh_at unit_text_eq (option_eq answer_eq) unit_asks known here ≡ 0)
    → ((known : List DeclarationPlace) (here : DeclarationPlace) → NoneAlikeAt here (map declaration_result known) → fresh_at unit_text_eq (option_eq answer_eq) unit_asks known here ≡ 1)
    → (facts : List UnitFacts) (text : UnitText) (kept : Texts) (old new : Meter)
    → IsObtained (text, answers facts) (declaration_result (text, answers facts)) Check (results_in kept.declarations) old new
    → Compares facts (Loose (Text text) Nothing) kept old new
compares-unit some none facts text kept old new met known are within =
    let here : DeclarationPlace = (text, answers facts) in
    let own : IsObtained here (declaration_result here) Check (map declaration_result known.declarations) old new =
    subst (λ rs. IsObtained here (declaration_result here) Check rs old new) are.declarations met in
    let shared : ℕ = shared_at unit_text_eq (option_eq answer_eq) unit_asks key_eq known.declarations here in
    let one : compared_after new.compared 0 ≡ compared_after old.compared (shared + 0) =
    shared-one unit_text_eq (option_eq answer_eq) unit_asks key_eq some none Check known.declarations here old new own 0 in
    let fits = met-fits here (results_in kept.declarations) old new within met in
    let start : new.compared ≡ compared_after new.compared 0 = omega (arith, fits) in
    let all = met-loose known facts (Text text) Nothing in
    let last = compared-none (with_part known facts (Text text)) (facts_over facts (Text text ∷ [])) in
    let single : compared (MetUnit known.declarations here ∷ []) ≡ shared + 0 = sum_by-cons shared_by (MetUnit known.declarations here) [] in
    let same : shared + 0 ≡ compared (met_over known facts (Loose (Text text) Nothing)) = omega (arith, all, last, single) in
    start ∙ one ∙ ap (compared_after old.compared) same

-- and where a file boundary is
pub compares-boundary : (facts : List UnitFacts) (part : Part) (kept : Texts) (old new : Meter) → declaration_at facts part ≡ [] → new ≡ old → Compares facts (Loose part Nothing) kept old new
compares-boundary facts part kept old new none is known are within =
    let all = met-loose known facts part Nothing in
    let last = compared-none (with_part known facts part) (facts_over facts (part ∷ [])) in
    let empty : compared (map (MetUnit known.declarations) (declaration_at facts part)) ≡ 0 = ap (λ (places : List DeclarationPlace). compared (map (MetUnit known.declarations) places)) none in
    let zero : compared (met_over known facts (Loose part Nothing)) ≡ 0 = omega (arith, all, last, empty) in
    let start : old.compared ≡ compared_after old.compared 0 = omega (arith, within) in
    ap (λ (m : Meter). m.compared) is ∙ start ∙ ap (compared_after old.compared) (sym zero)
