use Rattle.std.proofs.Common.{◌≡◌, ◌∙◌, ◌+◌, ◌∷◌, ◌++◌, ap, drop, map, sym}
use Rattle.std.proofs.lemmas.List.{at_drop_all, at_drop_more}
use Rattle.idl_root.specs.Added.{told_by}
use Rattle.idl_root.specs.Held.{held, to_come, with_gathered}
use Rattle.idl_root.specs.Named.{named_after, named_as}
use Rattle.idl_root.proofs.JudgingLemmas.{to_come-end, to_come-more}
use Rattle.idl_root.proofs.NamingLemmas.{named-end, named-more}
use Rattle.idl_root.proofs.compiling.judging.RootState.with_all_named.Goals as goal

pub loop-unit-preserved : goal.loop-unit-preserved
loop-unit-preserved c =
    let units = c.args.units.now in
    let i = c.loop-unit.unit-index in
    let env = c.loop-unit.env in
    let gathered = c.loop-unit.gathered in
    let unit = c.unit-item.result in
    let rest = drop (i + 1) units in
    let before = with_gathered env gathered in
    let named = map named_as c.loop-unit.named.items in
    let own = told_by c.in_ok-added.added in
    let after = c.in_ok-env.env in
    let adds : after ≡ env ++ own = c.in_ok-env.ensures in
    let back : to_come before (unit ∷ rest) ≡ to_come (held c.args.self) units =
    ap (λ u. to_come before (u ∷ rest)) c.unit-item.is ∙ sym (at_drop_more (to_come before) units i unit c.loop-unit-test.true) ∙ c.loop-unit.invariant.judging in
    let names_back : named ++ named_after env (unit ∷ rest) ≡ named_after c.args.self.env units =
    ap (λ u. named ++ named_after env (u ∷ rest)) c.unit-item.is ∙ sym (at_drop_more (λ us. named ++ named_after env us) units i unit c.loop-unit-test.true) ∙ c.loop-unit.invariant.units in
    record {
      judging = to_come-more env own after gathered c.add_named.new.self unit rest c.in_ok-added.ensures.added adds c.in_ok-added.ensures.gathered ∙ back;
      units = named-more env own after named (map named_as c.add_named.new.named.items) unit rest c.in_ok-added.ensures.added adds c.in_ok-added.ensures.named ∙ names_back;
    }

pub returns-clause-judging : goal.returns-clause-judging
returns-clause-judging c =
    let last = with_gathered c.loop-unit.env c.loop-unit.gathered in
    let over = at_drop_all (to_come last) c.args.units.now c.loop-unit.unit-index c.loop-unit-test.false in
    sym (sym c.loop-unit.invariant.judging ∙ over ∙ to_come-end last)

pub returns-clause-units : goal.returns-clause-units
returns-clause-units c =
    let env = c.loop-unit.env in
    let named = map named_as c.loop-unit.named.items in
    let over = at_drop_all (λ us. named ++ named_after env us) c.args.units.now c.loop-unit.unit-index c.loop-unit-test.false in
    sym (sym c.loop-unit.invariant.units ∙ over ∙ named-end env named)
