use Rattle.std.proofs.Common.{◌≡◌, ◌∙◌, ◌+◌, ◌∷◌, ◌++◌, ap, drop, sym}
use Rattle.std.proofs.lemmas.List.{at_drop_all, at_drop_more}
use Rattle.idl_root.specs.Added.{told_by}
use Rattle.idl_root.specs.Held.{held, to_come, with_gathered}
use Rattle.idl_root.proofs.JudgingLemmas.{to_come-end, to_come-more}
use Rattle.idl_root.proofs.compiling.judging.RootState.with_all.Goals as goal

pub loop-unit-preserved : goal.loop-unit-preserved
loop-unit-preserved c =
    let env = c.loop-unit.env in
    let gathered = c.loop-unit.gathered in
    let unit = c.unit-item.result in
    let rest = drop (c.loop-unit.unit-index + 1) c.args.units.now in
    let before = with_gathered env gathered in
    let own = told_by c.in_ok-added.added in
    let after = c.in_ok-env.env in
    let adds : after ≡ env ++ own = c.in_ok-env.ensures in
    let back : to_come before (unit ∷ rest) ≡ to_come (held c.args.self) c.args.units.now =
    ap (λ u. to_come before (u ∷ rest)) c.unit-item.is ∙ sym (at_drop_more (to_come before) c.args.units.now c.loop-unit.unit-index unit c.loop-unit-test.true) ∙ c.loop-unit.invariant in
    to_come-more env own after gathered c.add.new.self unit rest c.in_ok-added.ensures.added adds c.in_ok-added.ensures.gathered ∙ back

pub returns : goal.returns
returns c =
    let last = with_gathered c.loop-unit.env c.loop-unit.gathered in
    let over = at_drop_all (to_come last) c.args.units.now c.loop-unit.unit-index c.loop-unit-test.false in
    sym (sym c.loop-unit.invariant ∙ over ∙ to_come-end last)
