use Rattle.idl_root.proofs.PlacedLemmas.{details-placed}
use Rattle.idl_root.proofs.compiling.laws.placing.Goals as goal

pub returns : goal.returns
returns c = λ events.
    details-placed c.names.ensures.first c.names.ensures.index c.refusal.ensures.tokens c.refusal.ensures.pragma c.acceptance.ensures.pragma events
