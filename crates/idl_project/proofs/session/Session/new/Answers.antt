use Rattle.idl_project.proofs.RootLemmas.{none-up_to_date}
use Rattle.idl_project.proofs.session.Session.new.Goals as goal

pub invariant_of-result : goal.invariant_of-result
invariant_of-result c = none-up_to_date _ _ _ c.new-2.ensures c.new-3.ensures c.new.ensures.texts c.new.ensures.entries
