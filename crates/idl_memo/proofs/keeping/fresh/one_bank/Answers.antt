use Rattle.std.proofs.Common.{ap}
use Rattle.std.specs.Option.{option_eq}
use Rattle.idl_base.specs.Exact.{same_option}
use Rattle.idl_memo.proofs.FreshTasks.{option_eq-itself, fresh-same_places, fresh-one_more, fresh-fewer}
use Rattle.idl_memo.proofs.keeping.fresh.one_bank.Goals as goal

pub returns-clause-same_places : goal.returns-clause-same_places
returns-clause-same_places g c =
    let eq = g.B.Answer.PartialEq.eq in
    fresh-same_places g.T.Text.PartialEq.eq g.met.T.Text.Eq.laws (option_eq eq) (option_eq-itself eq g.met.B.Answer.Eq.laws.refl) (same_option eq g.met.B.Answer.Datum.same)
    g.T.Task.query (λ x y is. ap g.T.Task.query (g.met.T.Text.Datum.same x y is))
    g.B.Key.PartialEq.eq g.met.B.Key.Eq.laws.refl g.met.B.Key.Datum.same

pub returns-clause-one_more : goal.returns-clause-one_more
returns-clause-one_more g c =
    let eq = g.B.Answer.PartialEq.eq in
    fresh-one_more g.T.Text.PartialEq.eq g.met.T.Text.Eq.laws (option_eq eq) (option_eq-itself eq g.met.B.Answer.Eq.laws.refl) (same_option eq g.met.B.Answer.Datum.same)
    g.T.Task.query (λ x y is. ap g.T.Task.query (g.met.T.Text.Datum.same x y is))
    g.B.Key.PartialEq.eq g.met.B.Key.Eq.laws.refl g.met.B.Key.Datum.same

pub returns-clause-fewer : goal.returns-clause-fewer
returns-clause-fewer g c =
    let eq = g.B.Answer.PartialEq.eq in
    fresh-fewer g.T.Text.PartialEq.eq g.met.T.Text.Eq.laws (option_eq eq) (option_eq-itself eq g.met.B.Answer.Eq.laws.refl) (same_option eq g.met.B.Answer.Datum.same)
    g.T.Task.query (λ x y is. ap g.T.Task.query (g.met.T.Text.Datum.same x y is))
    g.B.Key.PartialEq.eq g.met.B.Key.Eq.laws.refl g.met.B.Key.Datum.same
