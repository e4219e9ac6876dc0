use Rattle.std.proofs.Common.{sym}
use Rattle.idl_env.specs.Turns.{most_turns}
use Rattle.idl_root.proofs.OutlineLemmas.{listed-told, rows-told}
use Rattle.idl_root.proofs.compiling.laws.outline.Goals as goal

pub returns-clause-verdict : goal.returns-clause-verdict
returns-clause-verdict c = λ facts text v enough fits.
    let only = c.judging.ensures.is facts most_turns text v enough fits in
    (λ is. only.1 (sym is), λ h. sym (only.0 h))

pub returns-clause-listed : goal.returns-clause-listed
returns-clause-listed c = listed-told

pub returns-clause-rows : goal.returns-clause-rows
returns-clause-rows c = rows-told
