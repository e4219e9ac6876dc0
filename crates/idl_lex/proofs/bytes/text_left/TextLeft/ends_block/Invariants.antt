use Rattle.std.proofs.Common.{◌≡◌, false, length}
use Rattle.idl_lex.specs.bytes.Columns.{bytes_in}
use Rattle.idl_lex.specs.bytes.Context.{ends_block}
use Rattle.idl_lex.proofs.bytes.text_left.TextLeft.ends_block.Given as goal

abbrev pub invariant-bytes : goal.invariant-bytes
invariant-bytes l = ends_block l.is_after_star (bytes_in l.left) ≡ ends_block false (bytes_in l.fn.self)

abbrev pub decreases-bytes : goal.decreases-bytes
decreases-bytes l = length l.left
