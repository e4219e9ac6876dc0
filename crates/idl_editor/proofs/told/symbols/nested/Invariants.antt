use Rattle.std.proofs.Common.{vec_len}
use Rattle.idl_editor.proofs.told.symbols.nested.Given as goal

abbrev pub decreases-backwards : goal.decreases-backwards
decreases-backwards l = vec_len l.symbols

abbrev pub decreases-inside : goal.decreases-inside
decreases-inside l = vec_len l.outermost

abbrev pub decreases-outermost : goal.decreases-outermost
decreases-outermost l = vec_len l.outermost
