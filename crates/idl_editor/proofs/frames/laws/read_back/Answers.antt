use Rattle.idl_editor.proofs.WrittenLemmas.{message-reads}
use Rattle.idl_editor.proofs.frames.laws.read_back.Goals as goal

pub returns : goal.returns
returns c = message-reads
