use Rattle.std.proofs.Common.{◌≡◌, ◌∙◌, ◌++◌, List, ap, map, subst, sym}
use Rattle.idl_env.specs.Facts.{UnitFacts}
use Rattle.idl_root.proofs.ComeLemmas.{come-all}
use Rattle.idl_root.proofs.TextLaws.{facts-text}
use Rattle.idl_root.specs.Followed.{IsKeeping}
use Rattle.idl_root.specs.Held.{with_gathered, with_units}
use Rattle.idl_root.specs.Judged.{facts_after, judged_after}
use Rattle.idl_root.specs.Passed.{Compares, keys_behind, with_kept}
use Rattle.idl_root.specs.Results.{IsDeclarationPass, marks_in}
use Rattle.idl_root_blocks.proofs.Cuts.{cut-whole}
use Rattle.idl_root_blocks.specs.Blocks.{cut, text_in}
use Rattle.idl_root_blocks.specs.Met.{outermost_keys}
use Rattle.idl_root_blocks.specs.Places.{declarations_over, facts_over}
use Rattle.idl_root_blocks.specs.Units.{text_of}
use Rattle.idl_store.specs.Stored.{results_in}
use Rattle.idl_root.proofs.compiling.judging.RootState.with_all_kept.Goals as goal

pub returns-clause-held : goal.returns-clause-held
returns-clause-held c =
    let units = c.args.units.now in
    let is = c.in_ok-env.ensures in
    come-all c.args.self.env c.into_env.result c.args.self.gathered c.add_all.new.self units (c.into_env.ensures ∙ is.env ∙ ap (λ (fs : List UnitFacts). facts_after fs units) c.of.ensures)
    (λ fs. is.gathered fs ∙ ap (λ (es : List UnitFacts). with_units (with_gathered fs c.args.self.gathered) (judged_after es units)) c.of.ensures)

pub returns-clause-kept : goal.returns-clause-kept
returns-clause-kept c = c.in_ok-env.ensures.passed.kept_is ∙ ap (λ (fs : List UnitFacts). with_kept c.args.kept.now fs (cut (text_of c.args.units.now))) c.of.ensures

pub returns-clause-marks : goal.returns-clause-marks
returns-clause-marks c =
    let units = c.args.units.now in
    c.in_ok-env.ensures.passed.marks ∙ ap (λ ms. c.args.keeping.now.marks.items ++ ms) (ap marks_in (cut-whole (text_of units)))

pub returns-clause-keeping : goal.returns-clause-keeping
returns-clause-keeping c =
    let units = c.args.units.now in
    let is = c.in_ok-env.ensures in
    let new = c.add_all.new.keeping in
    let facts : facts_over c.of.result (text_in (cut (text_of units))) ≡ c.into_env.result =
    ap (facts_over c.of.result) (cut-whole (text_of units)) ∙ sym (facts-text units c.of.result) ∙ sym is.env ∙ sym c.into_env.ensures in
    subst (λ ls. IsKeeping ls new c.into_env.result) (sym is.lists.declarations) (subst (IsKeeping c.args.kept.now.declarations.lists new) facts is.passed.keeping_is)

pub returns-clause-counts : goal.returns-clause-counts
returns-clause-counts c =
    let units = c.args.units.now in
    let old = c.args.kept.now.declarations in
    let new = c.add_all.new.kept.declarations in
    let places = ap (declarations_over c.of.result) (cut-whole (text_of units)) ∙ ap (λ (fs : List UnitFacts). declarations_over fs (text_of units)) c.of.ensures in
    subst (λ ps. IsDeclarationPass ps (results_in old) (results_in new) c.args.keeping.now.meter.checked c.add_all.new.keeping.meter.checked) places c.in_ok-env.ensures.passed.counts

pub returns-clause-blocks : goal.returns-clause-blocks
returns-clause-blocks c = c.in_ok-env.ensures.passed.blocks.all ∙ ap (map c.in_ok-env.ensures.passed.blocks.by) c.requires.blocks

pub returns-clause-keys : goal.returns-clause-keys
returns-clause-keys c = λ within.
    c.in_ok-env.ensures.passed.keys within
    ∙ (λ i. keys_behind (c.requires.blocks i) c.args.keeping.now.keys (outermost_keys (c.of.ensures i) (cut (text_of c.args.units.now))))

pub returns-clause-compared : goal.returns-clause-compared
returns-clause-compared c =
    subst (λ (fs : List UnitFacts). Compares fs (cut (text_of c.args.units.now)) c.args.kept.now c.args.keeping.now.meter c.add_all.new.keeping.meter) c.of.ensures c.in_ok-env.ensures.compared
