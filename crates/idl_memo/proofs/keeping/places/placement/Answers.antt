use Rattle.std.specs.Option.{option_eq}
use Rattle.idl_base.specs.Exact.{same_option}
use Rattle.idl_memo.proofs.FreshTasks.{option_eq-itself}
use Rattle.idl_memo.proofs.Placing.{fresh_at-none, fresh_at-some}
use Rattle.idl_memo.proofs.keeping.places.placement.Goals as goal

pub returns-clause-none : goal.returns-clause-none
returns-clause-none g c known here =
    let eq = g.B.Answer.PartialEq.eq in
    fresh_at-none g.B.Key.PartialEq.eq g.T.Task.query g.met.B.Key.Eq.laws.refl g.met.B.Key.Datum.same
    g.T.Text.PartialEq.eq g.met.T.Text.Eq.laws g.met.T.Text.Datum.same
    (option_eq eq) (option_eq-itself eq g.met.B.Answer.Eq.laws.refl) (same_option eq g.met.B.Answer.Datum.same) here known

pub returns-clause-some : goal.returns-clause-some
returns-clause-some g c known here =
    let eq = g.B.Answer.PartialEq.eq in
    fresh_at-some g.B.Key.PartialEq.eq g.T.Task.query g.met.B.Key.Eq.laws.refl g.met.B.Key.Datum.same
    g.T.Text.PartialEq.eq g.met.T.Text.Eq.laws g.met.T.Text.Datum.same
    (option_eq eq) (option_eq-itself eq g.met.B.Answer.Eq.laws.refl) (same_option eq g.met.B.Answer.Datum.same) here known
