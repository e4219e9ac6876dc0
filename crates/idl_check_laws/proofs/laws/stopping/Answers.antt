use Rattle.idl_check.proofs.Visits.VerdictLaws.{stopped-tree, tree-stops, verdict-tells}
use Rattle.idl_check.proofs.IdlParse.Stops.{stops-once}
use Rattle.idl_check_laws.proofs.laws.stopping.Goals as goal

pub returns-clause-place : goal.returns-clause-place
returns-clause-place c = λ tokens place. (tree-stops tokens place, stopped-tree tokens place)

pub returns-clause-once : goal.returns-clause-once
returns-clause-once c = stops-once

pub returns-clause-told : goal.returns-clause-told
returns-clause-told c = λ turns tokens answers. verdict-tells turns answers tokens
