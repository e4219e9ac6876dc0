-- One is taken, and one fewer are left.
use Rattle.std.proofs.Common.{refl, sym, ◌∙◌}
use Rattle.idl_memo.proofs.RunLaws.{first-taken, none-taken, zero-taken}
use Rattle.idl_memo.proofs.run.StepsLeft.split_first.Goals as goal

pub returns-then-count-eq0-clause-none : goal.returns-then-count-eq0-clause-none
returns-then-count-eq0-clause-none g c = λ _. sym c.self.view_is ∙ zero-taken c.self.inside.count c.self.inside.steps c.if-count-eq0.true

pub returns-in_err-first-clause-none : goal.returns-in_err-first-clause-none
returns-in_err-first-clause-none g c = λ _. sym c.self.view_is ∙ none-taken c.self.inside.count c.self.inside.steps (c.in_err-first.ensures.none refl)

pub returns-clause-some : goal.returns-clause-some
returns-clause-some g c = sym c.self.view_is ∙ first-taken c.self.inside.count c.self.inside.steps c.in_ok-first.first.now c.in_ok-first.others c.in_ok-first.ensures.some c.if-count-eq0.false
