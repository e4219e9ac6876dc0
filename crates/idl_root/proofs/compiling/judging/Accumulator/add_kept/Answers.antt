use Rattle.std.proofs.Common.{◌∙◌, ap, refl, subst, sym}
use Rattle.idl_root_blocks.specs.idl_check.declared.walk.verdict.Verdict.{Verdict}
use Rattle.idl_root.proofs.JudgingLemmas.{with-one}
use Rattle.idl_root.proofs.LooseLemmas.{compares-boundary, compares-unit, passed-boundary, passed-unit}
use Rattle.idl_root.proofs.PassedLemmas.{compares-none, passed-none}
use Rattle.idl_root.specs.Held.{with_gathered, with_judged, with_units}
use Rattle.idl_root.specs.Judged.{judged_at, judged_over}
use Rattle.idl_root.specs.Passed.{ArePassed, Compares}
use Rattle.idl_kept.specs.Texts.{DeclarationResult}
use Rattle.idl_root.specs.declared.kept.keeping.Keeping.{Keeping}
use Rattle.idl_root_blocks.specs.Blocks.{Nothing}
use Rattle.idl_root_blocks.specs.Finding.{in_front}
use Rattle.idl_root_blocks.specs.Units.{parts_of_unit}
use Rattle.idl_root_blocks.specs.declared.text.BlockPart.TheVariants.{Enters, Leaves}
use Rattle.idl_root.proofs.compiling.judging.Accumulator.add_kept.Goals as goal

pub returns-in_ok-add_verdict-in-Spelled-clause-gathered : goal.returns-in_ok-add_verdict-in-Spelled-clause-gathered
returns-in_ok-add_verdict-in-Spelled-clause-gathered c = λ facts.
    let o = with_gathered facts c.args.self.now in
    let text = c.in-Spelled.text in
    let sites = c.in-Spelled.sites in
    c.in_ok-add_verdict-in-Spelled.ensures facts
    ∙ ap (λ (v : Verdict). with_judged o (record { text = text; sites = sites; verdict = v }))
    (c.kept_verdict-verdict.ensures ∙ ap (λ (k : DeclarationResult). k.out) (c.deref.ensures ∙ c.in_ok-declaration-in-Spelled.ensures.obtained.result_is))
    ∙ with-one o (judged_over c.args.env.now text sites)
    ∙ ap (λ u. with_units o (judged_at c.args.env.now u)) (sym c.in-Spelled.is)

pub returns-in_ok-add_verdict-in-Spelled-clause-passed : goal.returns-in_ok-add_verdict-in-Spelled-clause-passed
returns-in_ok-add_verdict-in-Spelled-clause-passed c =
    let env = c.args.env.now in
    let kept = c.args.kept.now in
    let new = c.judge.new.kept in
    let behind = c.judge.new.self in
    let is = c.in_ok-declaration-in-Spelled.ensures in
    subst (λ u. ArePassed env (in_front (parts_of_unit u) Nothing) kept c.args.keeping.now new behind) (sym c.in-Spelled.is)
    (passed-unit c.passing.ensures.none c.passing.ensures.one env kept new c.args.keeping.now behind c.in-Spelled.text c.in_ok-declaration-in-Spelled.declaration.value
    c.requires.drafts.declarations is.obtained is.units is.marks is.keeping is.earlier is.blocks is.keys)

pub returns-in_ok-add_verdict-in-Spelled-clause-compared : goal.returns-in_ok-add_verdict-in-Spelled-clause-compared
returns-in_ok-add_verdict-in-Spelled-clause-compared c =
    subst (λ u. Compares c.args.env.now (in_front (parts_of_unit u) Nothing) c.args.kept.now c.args.keeping.now.meter c.judge.new.self.meter) (sym c.in-Spelled.is)
    (compares-unit c.placement.ensures.some c.placement.ensures.none c.args.env.now c.in-Spelled.text c.args.kept.now c.args.keeping.now.meter c.judge.new.self.meter
    c.in_ok-declaration-in-Spelled.ensures.obtained.obtained)

pub returns-in_ok-crossed-in-Entered-clause-passed : goal.returns-in_ok-crossed-in-Entered-clause-passed
returns-in_ok-crossed-in-Entered-clause-passed c =
    let env = c.args.env.now in
    let kept = c.args.kept.now in
    let is = c.in_ok-crossed-in-Entered.ensures in
    subst (λ u. ArePassed env (in_front (parts_of_unit u) Nothing) kept c.args.keeping.now kept c.crossed.new.keeping) (sym c.in-Entered.is)
    (passed-boundary c.passing.ensures.none c.passing.ensures.one env kept kept c.args.keeping.now c.crossed.new.keeping (Enters c.in-Entered.inside) refl refl is.marks
    (is.keeping kept.declarations.lists c.requires.keeping) is.rest (c.noting.ensures.boundary env c.in-Entered.inside c.args.keeping.now.blocks.blocks).0)

pub returns-in_ok-crossed-in-Entered-clause-compared : goal.returns-in_ok-crossed-in-Entered-clause-compared
returns-in_ok-crossed-in-Entered-clause-compared c =
    subst (λ u. Compares c.args.env.now (in_front (parts_of_unit u) Nothing) c.args.kept.now c.args.keeping.now.meter c.crossed.new.keeping.meter) (sym c.in-Entered.is)
    (compares-boundary c.args.env.now (Enters c.in-Entered.inside) c.args.kept.now c.args.keeping.now.meter c.crossed.new.keeping.meter refl (ap (λ (k : Keeping). k.meter) c.in_ok-crossed-in-Entered.ensures.rest))

pub returns-in_ok-crossed-in-Left-clause-passed : goal.returns-in_ok-crossed-in-Left-clause-passed
returns-in_ok-crossed-in-Left-clause-passed c =
    let env = c.args.env.now in
    let kept = c.args.kept.now in
    let is = c.in_ok-crossed-in-Left.ensures in
    subst (λ u. ArePassed env (in_front (parts_of_unit u) Nothing) kept c.args.keeping.now kept c.crossed-in-Left.new.keeping) (sym c.in-Left.is)
    (passed-boundary c.passing.ensures.none c.passing.ensures.one env kept kept c.args.keeping.now c.crossed-in-Left.new.keeping (Leaves c.in-Left.inside) refl refl is.marks
    (is.keeping kept.declarations.lists c.requires.keeping) is.rest (c.noting.ensures.boundary env c.in-Left.inside c.args.keeping.now.blocks.blocks).1)

pub returns-in_ok-crossed-in-Left-clause-compared : goal.returns-in_ok-crossed-in-Left-clause-compared
returns-in_ok-crossed-in-Left-clause-compared c =
    subst (λ u. Compares c.args.env.now (in_front (parts_of_unit u) Nothing) c.args.kept.now c.args.keeping.now.meter c.crossed-in-Left.new.keeping.meter) (sym c.in-Left.is)
    (compares-boundary c.args.env.now (Leaves c.in-Left.inside) c.args.kept.now c.args.keeping.now.meter c.crossed-in-Left.new.keeping.meter refl (ap (λ (k : Keeping). k.meter) c.in_ok-crossed-in-Left.ensures.rest))

pub returns-in-End-clause-passed : goal.returns-in-End-clause-passed
returns-in-End-clause-passed c =
    subst (λ u. ArePassed c.args.env.now (in_front (parts_of_unit u) Nothing) c.args.kept.now c.args.keeping.now c.args.kept.now c.args.keeping.now) (sym c.in-End.is)
    (passed-none c.passing.ensures.none c.passing.ensures.both c.args.env.now c.args.kept.now c.args.keeping.now c.requires.keeping)

pub returns-in-End-clause-compared : goal.returns-in-End-clause-compared
returns-in-End-clause-compared c =
    subst (λ u. Compares c.args.env.now (in_front (parts_of_unit u) Nothing) c.args.kept.now c.args.keeping.now.meter c.args.keeping.now.meter) (sym c.in-End.is)
    (compares-none c.args.env.now c.args.kept.now c.args.keeping.now.meter)
