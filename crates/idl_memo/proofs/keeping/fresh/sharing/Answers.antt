use Rattle.std.proofs.Common.{ap}
use Rattle.std.specs.Option.{option_eq}
use Rattle.idl_base.specs.Exact.{same_option}
use Rattle.idl_memo.proofs.FreshTasks.{option_eq-itself, shared-none, shared-one, shared-split, shared-known, shared-aside, shared-most}
use Rattle.idl_memo.proofs.keeping.fresh.sharing.Goals as goal

pub returns-clause-none : goal.returns-clause-none
returns-clause-none g c =
    let eq = g.B.Answer.PartialEq.eq in
    shared-none g.T.Text.PartialEq.eq g.met.T.Text.Eq.laws (option_eq eq) (option_eq-itself eq g.met.B.Answer.Eq.laws.refl) (same_option eq g.met.B.Answer.Datum.same)
    g.T.Task.query (λ x y is. ap g.T.Task.query (g.met.T.Text.Datum.same x y is))
    g.B.Key.PartialEq.eq g.met.B.Key.Eq.laws.refl g.met.B.Key.Datum.same

pub returns-clause-one : goal.returns-clause-one
returns-clause-one g c =
    let eq = g.B.Answer.PartialEq.eq in
    shared-one g.T.Text.PartialEq.eq g.met.T.Text.Eq.laws (option_eq eq) (option_eq-itself eq g.met.B.Answer.Eq.laws.refl) (same_option eq g.met.B.Answer.Datum.same)
    g.T.Task.query (λ x y is. ap g.T.Task.query (g.met.T.Text.Datum.same x y is))
    g.B.Key.PartialEq.eq g.met.B.Key.Eq.laws.refl g.met.B.Key.Datum.same

pub returns-clause-split : goal.returns-clause-split
returns-clause-split g c =
    let eq = g.B.Answer.PartialEq.eq in
    shared-split g.T.Text.PartialEq.eq g.met.T.Text.Eq.laws (option_eq eq) (option_eq-itself eq g.met.B.Answer.Eq.laws.refl) (same_option eq g.met.B.Answer.Datum.same)
    g.T.Task.query (λ x y is. ap g.T.Task.query (g.met.T.Text.Datum.same x y is))
    g.B.Key.PartialEq.eq g.met.B.Key.Eq.laws.refl g.met.B.Key.Datum.same

pub returns-clause-known : goal.returns-clause-known
returns-clause-known g c =
    let eq = g.B.Answer.PartialEq.eq in
    shared-known g.T.Text.PartialEq.eq g.met.T.Text.Eq.laws (option_eq eq) (option_eq-itself eq g.met.B.Answer.Eq.laws.refl) (same_option eq g.met.B.Answer.Datum.same)
    g.T.Task.query (λ x y is. ap g.T.Task.query (g.met.T.Text.Datum.same x y is))
    g.B.Key.PartialEq.eq g.met.B.Key.Eq.laws.refl g.met.B.Key.Datum.same

pub returns-clause-aside : goal.returns-clause-aside
returns-clause-aside g c =
    let eq = g.B.Answer.PartialEq.eq in
    shared-aside g.T.Text.PartialEq.eq g.met.T.Text.Eq.laws (option_eq eq) (option_eq-itself eq g.met.B.Answer.Eq.laws.refl) (same_option eq g.met.B.Answer.Datum.same)
    g.T.Task.query (λ x y is. ap g.T.Task.query (g.met.T.Text.Datum.same x y is))
    g.B.Key.PartialEq.eq g.met.B.Key.Eq.laws.refl g.met.B.Key.Datum.same

pub returns-clause-most : goal.returns-clause-most
returns-clause-most g c =
    let eq = g.B.Answer.PartialEq.eq in
    shared-most g.T.Text.PartialEq.eq g.met.T.Text.Eq.laws (option_eq eq) (option_eq-itself eq g.met.B.Answer.Eq.laws.refl) (same_option eq g.met.B.Answer.Datum.same)
    g.T.Task.query (λ x y is. ap g.T.Task.query (g.met.T.Text.Datum.same x y is))
    g.B.Key.PartialEq.eq g.met.B.Key.Eq.laws.refl g.met.B.Key.Datum.same
