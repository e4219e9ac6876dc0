use Rattle.idl_editor.proofs.MessageLemmas.{bodies-unique}
use Rattle.idl_editor.proofs.frames.laws.bodies_of_an_input.Goals as goal

pub returns : goal.returns
returns c = bodies-unique
