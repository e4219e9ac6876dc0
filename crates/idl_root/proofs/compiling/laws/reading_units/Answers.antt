use Rattle.idl_root.proofs.VerdictLemmas.{reads}
use Rattle.idl_root.proofs.compiling.laws.reading_units.Goals as goal

pub returns : goal.returns
returns c = reads c.acceptance.ensures.tree c.stopping.ensures.place
