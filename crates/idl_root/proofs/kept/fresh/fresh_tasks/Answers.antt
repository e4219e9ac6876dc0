-- By the laws of fresh places.
use Rattle.idl_root.proofs.kept.fresh.fresh_tasks.Goals as goal

pub returns-clause-declarations_none : goal.returns-clause-declarations_none
returns-clause-declarations_none c = c.freshness.ensures.none

pub returns-clause-declarations_split : goal.returns-clause-declarations_split
returns-clause-declarations_split c = c.freshness.ensures.split

pub returns-clause-declarations_aside : goal.returns-clause-declarations_aside
returns-clause-declarations_aside c old front stay rest there = c.freshness.ensures.aside old front stay rest (c.freshness.ensures.there stay old there)

pub returns-clause-entries_none : goal.returns-clause-entries_none
returns-clause-entries_none c = c.freshness-2.ensures.none

pub returns-clause-entries_split : goal.returns-clause-entries_split
returns-clause-entries_split c = c.freshness-2.ensures.split

pub returns-clause-entries_aside : goal.returns-clause-entries_aside
returns-clause-entries_aside c old front stay rest there = c.freshness-2.ensures.aside old front stay rest (c.freshness-2.ensures.there stay old there)
