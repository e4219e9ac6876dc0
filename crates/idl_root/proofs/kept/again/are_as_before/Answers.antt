use Rattle.std.proofs.Common.{◌≡◌, ◌+◌, ◌∷◌, ◌++◌, ◌∙◌, List, ap, drop, sym}
use Rattle.std.proofs.lemmas.List.{at_drop_all, at_drop_more}
use Rattle.idl_root.specs.AsBefore.{texts_from, texts_of}
use Rattle.idl_root.specs.Results.{marks_of}
use Rattle.idl_root.proofs.AsBeforeLemmas.{as-before}
use Rattle.idl_root.proofs.BesideLemmas.{marks-behind, texts-behind}
use Rattle.idl_unit.specs.declared.unit.Unit.{Unit as RootUnit}
use Rattle.idl_root.proofs.kept.again.are_as_before.Goals as goal

pub loop-unit-preserved : goal.loop-unit-preserved
loop-unit-preserved c =
    let units = c.args.units.now in
    let lists = c.args.kept.now.lists in
    let course = c.loop-unit.course in
    let unit = c.unit-item.result in
    let rest = drop (c.loop-unit.unit-index + 1) units in
    let here : drop c.loop-unit.unit-index units ≡ unit ∷ rest =
    at_drop_more (λ (l : List RootUnit). l) units c.loop-unit.unit-index unit c.loop-unit-test.true ∙ ap (λ u. u ∷ rest) (sym c.unit-item.is) in
    let inv = c.loop-unit.invariant in (
      λ are. inv.0 (marks-behind lists course c.in-Some.next unit c.in-Some.ensures rest are ∙ ap marks_of (sym here)),
      λ more are. inv.1 more (texts-behind lists course c.in-Some.next unit c.in-Some.ensures rest more are ∙ ap (λ l. texts_of l ++ more) (sym here)),
    )

pub returns : goal.returns
returns c = λ is before are.
    let units = c.args.units.now in
    let lists = c.args.kept.now.lists in
    let course = c.loop-unit.course in
    let inv = c.loop-unit.invariant in
    let left = texts_from lists course in
    let marks = inv.0 (c.is_empty.ensures is ∙ sym (at_drop_all marks_of units c.loop-unit.unit-index c.loop-unit-test.false)) in
    let texts = inv.1 left (sym (at_drop_all (λ l. texts_of l ++ left) units c.loop-unit.unit-index c.loop-unit-test.false)) in
    as-before lists c.args.earlier before units left are marks texts
