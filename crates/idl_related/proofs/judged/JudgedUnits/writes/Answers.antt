use Rattle.std.proofs.Common.{◌∙◌, ◌∷◌, [], ap, refl, subst, sym}
use Rattle.idl_env.specs.Facts.{UnitFacts}
use Rattle.idl_check.specs.walk.Verdict.{added}
use Rattle.idl_related.specs.Judged.{IsBehind, units_before}
use Rattle.idl_related.proofs.FirstDeclaredLemmas.{behind-same}
use Rattle.idl_related.proofs.judged.JudgedUnits.writes.Goals as goal

pub returns-in_ok-judge-in-Spelled-clause-behind : goal.returns-in_ok-judge-in-Spelled-clause-behind
returns-in_ok-judge-in-Spelled-clause-behind c =
    let self = c.args.self.now in
    subst (IsBehind self c.judge.new.self (units_before self c.args.env.now c.args.unit.number)) (sym c.in-Spelled.is) c.in_ok-judge-in-Spelled.ensures.behind

pub returns-in_ok-judge-in-Spelled-clause-writes : goal.returns-in_ok-judge-in-Spelled-clause-writes
returns-in_ok-judge-in-Spelled-clause-writes c =
    ap (λ (writes : UnitFacts). writes ∷ []) c.in_ok-judge-in-Spelled.ensures.writes ∙ ap (added c.args.env.now) (sym c.in-Spelled.is)

pub returns-in_ok-boundary-in-Entered-clause-behind : goal.returns-in_ok-boundary-in-Entered-clause-behind
returns-in_ok-boundary-in-Entered-clause-behind c =
    let self = c.args.self.now in
    let before = units_before self c.args.env.now c.args.unit.number in
    subst (IsBehind self self before) (sym c.in-Entered.is) (behind-same self before _ refl refl)

pub returns-in_ok-boundary-in-Left-clause-behind : goal.returns-in_ok-boundary-in-Left-clause-behind
returns-in_ok-boundary-in-Left-clause-behind c =
    let self = c.args.self.now in
    let before = units_before self c.args.env.now c.args.unit.number in
    subst (IsBehind self self before) (sym c.in-Left.is) (behind-same self before _ refl refl)

pub returns-in-End-clause-behind : goal.returns-in-End-clause-behind
returns-in-End-clause-behind c =
    let self = c.args.self.now in
    let before = units_before self c.args.env.now c.args.unit.number in
    subst (IsBehind self self before) (sym c.in-End.is) (behind-same self before _ refl refl)
