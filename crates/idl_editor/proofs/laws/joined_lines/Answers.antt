use Rattle.idl_editor.proofs.CutLemmas.{cut-ended}
use Rattle.idl_editor.proofs.laws.joined_lines.Goals as goal

pub returns : goal.returns
returns c = cut-ended
