use Rattle.std.proofs.Common.{◌≡◌, drop, length}
use Rattle.idl_lex.specs.bytes.Columns.{bytes_in}
use Rattle.idl_lex.specs.bytes.Scan.{taken}
use Rattle.idl_lex.proofs.bytes.text_left.TextLeft.behind_piece.Given as goal

abbrev pub invariant-bytes : goal.invariant-bytes
invariant-bytes l = drop (taken l.now (bytes_in l.left)) l.left ≡ drop (taken l.fn.state (bytes_in l.fn.self)) l.fn.self

abbrev pub decreases-bytes : goal.decreases-bytes
decreases-bytes l = length l.left
