use Rattle.idl_root.proofs.VerdictLemmas.{verdict-once, verdict-only}
use Rattle.idl_root.proofs.compiling.laws.judging.Goals as goal

pub returns-clause-is : goal.returns-clause-is
returns-clause-is c = verdict-only c.least.ensures.is c.refusal.ensures.tokens c.acceptance.ensures.sound c.reading_units.ensures c.more_turns.ensures

pub returns-clause-once : goal.returns-clause-once
returns-clause-once c = verdict-once c.reading_units.ensures
