use Rattle.idl_server.proofs.PlaceLemmas.{none-of_project}
use Rattle.idl_server.proofs.places.CountedFiles.new.Goals as goal

pub invariant_of-result : goal.invariant_of-result
invariant_of-result c = rw c.new.ensures.empty (none-of_project c.args.session.now.project)
