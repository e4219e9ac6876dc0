use Rattle.std.proofs.Common.{rules, subst, sym}
use Rattle.idl_root.specs.AsBefore.{IsBehindSame}
use Rattle.idl_root.proofs.BesideLemmas.{behind-entered, behind-left, behind-spelled}
use Rattle.idl_root.proofs.TakenLemmas.{some-weaker}
use Rattle.idl_root.proofs.kept.course.Course.behind_same.Goals as goal

pub returns-in_ok-first_of-in-Spelled : goal.returns-in_ok-first_of-in-Spelled
returns-in_ok-first_of-in-Spelled c =
    let lists = c.args.kept.now.lists in
    let course = c.args.self in
    some-weaker c.behind.result _ _
    (λ next b.
    subst (λ u. IsBehindSame lists course u next) (sym c.in-Spelled.is)
    (behind-spelled lists course next c.in-Spelled.text c.in-Spelled._sites c.in_ok-first_of-in-Spelled.field-0.now (search rules) (search rules) b))
    c.behind.ensures

pub returns-in-Entered : goal.returns-in-Entered
returns-in-Entered c =
    some-weaker c.behind-in-Entered.result _ _
    (λ next b. subst (λ u. IsBehindSame c.args.kept.now.lists c.args.self u next) (sym c.in-Entered.is) (behind-entered c.args.kept.now.lists c.args.self next _ _ b))
    c.behind-in-Entered.ensures

pub returns-in-Left : goal.returns-in-Left
returns-in-Left c =
    some-weaker c.behind-in-Left.result _ _
    (λ next b. subst (λ u. IsBehindSame c.args.kept.now.lists c.args.self u next) (sym c.in-Left.is) (behind-left c.args.kept.now.lists c.args.self next _ _ b))
    c.behind-in-Left.ensures
