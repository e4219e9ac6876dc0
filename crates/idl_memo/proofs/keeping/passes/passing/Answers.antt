-- By the laws of fresh places, and of the results of places.
use Rattle.std.specs.Option.{option_eq}
use Rattle.idl_memo.proofs.PassLaws.{IsPass-none, IsPass-one, IsPass-both}
use Rattle.idl_memo.proofs.keeping.passes.passing.Goals as goal

pub returns-clause-none : goal.returns-clause-none
returns-clause-none g c = IsPass-none g.B.Key.PartialEq.eq g.T.Text.PartialEq.eq (option_eq g.B.Answer.PartialEq.eq) g.T.Task.query c.freshness.ensures.none

pub returns-clause-one : goal.returns-clause-one
returns-clause-one g c =
    IsPass-one g.B.Key.PartialEq.eq g.T.Text.PartialEq.eq (option_eq g.B.Answer.PartialEq.eq) g.T.Task.query
    c.freshness.ensures.one c.placement.ensures.none c.placement.ensures.some

pub returns-clause-both : goal.returns-clause-both
returns-clause-both g c = IsPass-both g.B.Key.PartialEq.eq g.T.Text.PartialEq.eq (option_eq g.B.Answer.PartialEq.eq) g.T.Task.query c.freshness.ensures.split
