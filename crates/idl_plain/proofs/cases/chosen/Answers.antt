use Rattle.idl_plain.proofs.CaseLaws.{back-told, count-told, local-told, mark-told, text-told, truth-told, word-told}
use Rattle.idl_plain.proofs.cases.chosen.Goals as goal

pub returns-clause-truths : goal.returns-clause-truths
returns-clause-truths c = truth-told

pub returns-clause-words : goal.returns-clause-words
returns-clause-words c = word-told

pub returns-clause-counts : goal.returns-clause-counts
returns-clause-counts c = count-told

pub returns-clause-marks : goal.returns-clause-marks
returns-clause-marks c = mark-told

pub returns-clause-locals : goal.returns-clause-locals
returns-clause-locals c = local-told

pub returns-clause-back : goal.returns-clause-back
returns-clause-back c = back-told

pub returns-clause-texts : goal.returns-clause-texts
returns-clause-texts c = text-told
