use Rattle.idl_plain.proofs.PairLaws.{pairs-told}
use Rattle.idl_plain.proofs.SpellingLaws.{bodies-told, floats-told, good-told, literals-told, lone-told, others-told, words-told, zeros-told}
use Rattle.idl_plain.proofs.lexemes.spellings.Goals as goal

pub returns-clause-words : goal.returns-clause-words
returns-clause-words c = words-told

pub returns-clause-others : goal.returns-clause-others
returns-clause-others c = others-told

pub returns-clause-literals : goal.returns-clause-literals
returns-clause-literals c = literals-told

pub returns-clause-values : goal.returns-clause-values
returns-clause-values c = good-told

pub returns-clause-lone : goal.returns-clause-lone
returns-clause-lone c = lone-told

pub returns-clause-pairs : goal.returns-clause-pairs
returns-clause-pairs c = pairs-told

pub returns-clause-bodies : goal.returns-clause-bodies
returns-clause-bodies c = bodies-told

pub returns-clause-zeros : goal.returns-clause-zeros
returns-clause-zeros c = zeros-told

pub returns-clause-floats : goal.returns-clause-floats
returns-clause-floats c = floats-told
