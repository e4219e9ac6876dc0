use Rattle.idl_inputs.proofs.FormLemmas.{none-formed, after-formed}
use Rattle.idl_inputs.proofs.limits.edits_keep_form.Goals as goal

pub returns-clause-first : goal.returns-clause-first
returns-clause-first c = none-formed

pub returns-clause-kept : goal.returns-clause-kept
returns-clause-kept c = after-formed
