use Rattle.std.proofs.Common.{rules}
use Rattle.idl_editor.specs.frames.Message.{is_length}
use Rattle.idl_editor.proofs.frames.head.is_length.Goals as goal

pub returns : goal.returns
unfolding is_length
returns c = search rules
