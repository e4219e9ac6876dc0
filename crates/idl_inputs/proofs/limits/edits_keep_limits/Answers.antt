use Rattle.idl_inputs.proofs.LimitLemmas.{none-within, after-within}
use Rattle.idl_inputs.proofs.limits.edits_keep_limits.Goals as goal

pub returns-clause-first : goal.returns-clause-first
returns-clause-first c = none-within

pub returns-clause-kept : goal.returns-clause-kept
returns-clause-kept c = after-within
