use Rattle.idl_editor.proofs.MessageLemmas.{heads-unique}
use Rattle.idl_editor.proofs.frames.laws.heads.Goals as goal

pub returns : goal.returns
returns c = heads-unique
