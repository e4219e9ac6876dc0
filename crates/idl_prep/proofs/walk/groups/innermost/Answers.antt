use Rattle.std.proofs.Common.{◌∙◌}
use Rattle.idl_prep.proofs.GroupLemmas.{innermost-first}
use Rattle.idl_prep.proofs.walk.groups.innermost.Goals as goal

pub returns : goal.returns
returns c = c.top.ensures ∙ innermost-first c.args.groups.now
