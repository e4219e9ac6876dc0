-- What goes into the drafts is the part.
use Rattle.std.proofs.Common.{◌≡◌, ◌∙◌, ◌∷◌, ◌++◌, [], ℕ, ap, arith, length, map, sym}
use Rattle.std.proofs.lemmas.Option.{same_Some}
use Rattle.idl_kept.proofs.Putting.{block-behind, last-before}
use Rattle.idl_kept.specs.Parts.{inner_from}
use Rattle.idl_kept.specs.Texts.{DeclarationResult, moved}
use Rattle.idl_store.proofs.StoredLaws.{grown-twice}
use Rattle.idl_store.specs.Spots.{results_from}
use Rattle.idl_store.specs.Stored.{Stored, grown, last_draft}
use Rattle.idl_kept.proofs.parts.take_each.Goals as goal

pub returns-clause-blocks : goal.returns-clause-blocks
returns-clause-blocks c = λ kept there.
    block-behind c.args.blocks.now c.take_part-2.new.self c.take_part-3.new.self (inner_from c.args.blocks.now c.args.part) c.args.part.spot kept there c.in_ok-take_part-2.ensures.ok c.in_ok-take_part-3.ensures.ok

pub returns-clause-begins : goal.returns-clause-begins
returns-clause-begins c =
    let old = c.args.declarations.now in
    let spot = c.args.part.spot in
    let begin = c.unwrap-begin.result in
    let more = results_from old (record spot { place = begin }) c.args.part.units in
    let same : c.requires.begin ≡ begin = same_Some c.requires.begin begin (sym c.requires.there ∙ sym c.at.ensures ∙ c.unwrap-begin.ensures) in
    let whole : length more ≡ c.args.part.units = ap (λ (p : ℕ). length (results_from old (record spot { place = p }) c.args.part.units)) (sym same) ∙ c.requires.whole in
    let grows = ap (λ (s : Stored DeclarationResult). length (last_draft s)) c.in_ok-take_part.ensures.ok in
    let to = c.saturating_sub-to.result in
    let before = last-before old.drafts more in
    let is : to ≡ length (last_draft old) = omega (arith, c.saturating_sub-to.ensures, c.drafted.ensures, grows, whole, before) in
    let numbers = inner_from c.args.begins.now c.args.part in
    c.in_ok-push.ensures.ok
    ∙ ap (λ (s : Stored ℕ). grown s (to ∷ [])) c.in_ok-push_begins.ensures.ok
    ∙ grown-twice c.args.begins.now (map (moved begin to) numbers) (to ∷ [])
    ∙ ap (λ (t : ℕ). grown c.args.begins.now (map (moved begin t) numbers ++ t ∷ [])) is
