use Rattle.std.proofs.Common.{◌∙◌, ap}
use Rattle.std.specs.Option.{option_eq}
use Rattle.idl_base.specs.Exact.{same_option}
use Rattle.idl_memo.proofs.FreshTasks.{option_eq-itself, is_alike-class, fresh-none, fresh-one, fresh-split, fresh-aside, Among-there}
use Rattle.idl_memo.proofs.keeping.fresh.freshness.Goals as goal

pub returns-clause-class : goal.returns-clause-class
returns-clause-class g c = λ here task.
    let eq = g.B.Answer.PartialEq.eq in
    let class =
    is_alike-class g.T.Text.PartialEq.eq g.met.T.Text.Eq.laws (option_eq eq) (option_eq-itself eq g.met.B.Answer.Eq.laws.refl) (same_option eq g.met.B.Answer.Datum.same)
    g.T.Task.query (λ x y is. ap g.T.Task.query (g.met.T.Text.Datum.same x y is))
    g.B.Key.PartialEq.eq g.met.B.Key.Eq.laws.refl g.met.B.Key.Datum.same here task in (
      λ is. (let both = class.0 is in (g.met.T.Text.Datum.same here.0 task.0 both.0, both.1)),
      λ both. class.1 (ap (λ t. g.T.Text.PartialEq.eq t task.0) both.0 ∙ g.met.T.Text.Eq.laws.refl task.0, both.1),
    )

pub returns-clause-none : goal.returns-clause-none
returns-clause-none g c =
    let eq = g.B.Answer.PartialEq.eq in
    fresh-none g.T.Text.PartialEq.eq g.met.T.Text.Eq.laws (option_eq eq) (option_eq-itself eq g.met.B.Answer.Eq.laws.refl) (same_option eq g.met.B.Answer.Datum.same)
    g.T.Task.query (λ x y is. ap g.T.Task.query (g.met.T.Text.Datum.same x y is))
    g.B.Key.PartialEq.eq g.met.B.Key.Eq.laws.refl g.met.B.Key.Datum.same

pub returns-clause-one : goal.returns-clause-one
returns-clause-one g c =
    let eq = g.B.Answer.PartialEq.eq in
    fresh-one g.T.Text.PartialEq.eq g.met.T.Text.Eq.laws (option_eq eq) (option_eq-itself eq g.met.B.Answer.Eq.laws.refl) (same_option eq g.met.B.Answer.Datum.same)
    g.T.Task.query (λ x y is. ap g.T.Task.query (g.met.T.Text.Datum.same x y is))
    g.B.Key.PartialEq.eq g.met.B.Key.Eq.laws.refl g.met.B.Key.Datum.same

pub returns-clause-split : goal.returns-clause-split
returns-clause-split g c =
    let eq = g.B.Answer.PartialEq.eq in
    fresh-split g.T.Text.PartialEq.eq g.met.T.Text.Eq.laws (option_eq eq) (option_eq-itself eq g.met.B.Answer.Eq.laws.refl) (same_option eq g.met.B.Answer.Datum.same)
    g.T.Task.query (λ x y is. ap g.T.Task.query (g.met.T.Text.Datum.same x y is))
    g.B.Key.PartialEq.eq g.met.B.Key.Eq.laws.refl g.met.B.Key.Datum.same

pub returns-clause-aside : goal.returns-clause-aside
returns-clause-aside g c =
    let eq = g.B.Answer.PartialEq.eq in
    fresh-aside g.T.Text.PartialEq.eq g.met.T.Text.Eq.laws (option_eq eq) (option_eq-itself eq g.met.B.Answer.Eq.laws.refl) (same_option eq g.met.B.Answer.Datum.same)
    g.T.Task.query (λ x y is. ap g.T.Task.query (g.met.T.Text.Datum.same x y is))
    g.B.Key.PartialEq.eq g.met.B.Key.Eq.laws.refl g.met.B.Key.Datum.same

pub returns-clause-there : goal.returns-clause-there
returns-clause-there g c =
    let eq = g.B.Answer.PartialEq.eq in
    Among-there g.T.Text.PartialEq.eq g.met.T.Text.Eq.laws (option_eq eq) (option_eq-itself eq g.met.B.Answer.Eq.laws.refl) (same_option eq g.met.B.Answer.Datum.same)
    g.T.Task.query (λ x y is. ap g.T.Task.query (g.met.T.Text.Datum.same x y is))
    g.B.Key.PartialEq.eq g.met.B.Key.Eq.laws.refl g.met.B.Key.Datum.same
