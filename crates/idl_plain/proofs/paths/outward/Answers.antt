use Rattle.idl_plain.proofs.OutwardLaws.{arrays-told, names-told, slashes-told, texts-told, words-told}
use Rattle.idl_plain.proofs.paths.outward.Goals as goal

pub returns-clause-slashes : goal.returns-clause-slashes
returns-clause-slashes c = slashes-told

pub returns-clause-texts : goal.returns-clause-texts
returns-clause-texts c = texts-told

pub returns-clause-words : goal.returns-clause-words
returns-clause-words c = words-told

pub returns-clause-arrays : goal.returns-clause-arrays
returns-clause-arrays c = arrays-told

pub returns-clause-names : goal.returns-clause-names
returns-clause-names c = names-told
