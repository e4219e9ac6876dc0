use Rattle.std.proofs.Common.{sym, ap, ◌∙◌}
use Rattle.std.specs.Option.{option_copied}
use Rattle.idl_prep.proofs.GroupLemmas.{walked-none, walked-some}
use Rattle.idl_prep.proofs.walk.groups.is_walked.Goals as goal

pub returns-in-None : goal.returns-in-None
returns-in-None c = walked-none c.args.groups.now (ap option_copied (sym c.in-None.is) ∙ c.top.ensures)

pub returns-in-Some : goal.returns-in-Some
returns-in-Some c = walked-some c.args.groups.now c.in-Some.group.now (ap option_copied (sym c.in-Some.is) ∙ c.top.ensures)
