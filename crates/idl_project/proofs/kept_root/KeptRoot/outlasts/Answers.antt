-- It asked for no cause, or for one.
use Rattle.std.proofs.Common.{◌∙◌, sym}
use Rattle.idl_inputs.proofs.CauseLemmas.{false-by-not}
use Rattle.idl_project.proofs.CauseLemmas.{alike-unless, class-of, over-beside}
use Rattle.idl_project.proofs.kept_root.KeptRoot.outlasts.Goals as goal

pub returns-clause-over : goal.returns-clause-over
returns-clause-over c = λ before after are kept yes.
    over-beside (λ text bank. (c.reliance.ensures.log text bank).answers) c.reliance.ensures.again before after c.args.causes.now are c.args.self.now.result.value kept.over
    (sym c.asks_one_of.ensures ∙ false-by-not c.asks_one_of.result yes)

pub returns-clause-alike : goal.returns-clause-alike
returns-clause-alike c = λ before after are kept.
    alike-unless (λ text bank. (c.reliance.ensures.log text bank).answers) c.reliance.ensures.again before after c.args.causes.now are c.args.self.now.result.value kept.over
    (class-of c.freshness.ensures.class) c.asks_one_of.result (sym c.asks_one_of.ensures)
