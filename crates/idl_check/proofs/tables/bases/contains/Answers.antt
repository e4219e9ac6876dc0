use Rattle.std.proofs.Common.{◌∙◌}
use Rattle.idl_env.proofs.AnswerLaws.QueueLemmas.{contains-list_any}
use Rattle.idl_check.proofs.tables.bases.contains.Goals as goal

pub returns : goal.returns
returns c = c.contains.ensures ∙ contains-list_any c.args.paths.now c.args.path.now
