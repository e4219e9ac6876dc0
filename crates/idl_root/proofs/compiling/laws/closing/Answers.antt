use Rattle.idl_root.proofs.ClosingLemmas.{closings-first}
use Rattle.idl_root.proofs.compiling.laws.closing.Goals as goal

pub returns : goal.returns
returns c = λ events.
    closings-first c.names.ensures.first c.names.ensures.index c.refusal.ensures.tokens c.refusal.ensures.pragma c.acceptance.ensures.pragma c.ahead.ensures.known c.ahead.ensures.fresh
    c.ahead.ensures.ahead c.ahead.ensures.pragma c.listed_row.ensures.declared c.listed_row.ensures.unknown events
