use Rattle.std.proofs.Common.{◌∙◌, ap}
use Rattle.std.specs.List.{enumerate_from}
use Rattle.idl_event.specs.Apart.{tokens_in}
use Rattle.idl_unit.specs.Parts.{joined}
use Rattle.idl_unit.proofs.HeldLemmas.{others-units, sites-units, texts-units, tokens-cut}
use Rattle.idl_unit.proofs.laws.nothing_lost.Goals as goal

pub returns-clause-units : goal.returns-clause-units
returns-clause-units c = texts-units

pub returns-clause-tokens : goal.returns-clause-tokens
returns-clause-tokens c = λ events. ap joined (texts-units events) ∙ (tokens-cut (tokens_in (enumerate_from 0 events))).0

pub returns-clause-sites : goal.returns-clause-sites
returns-clause-sites c = sites-units

pub returns-clause-others : goal.returns-clause-others
returns-clause-others c = others-units
