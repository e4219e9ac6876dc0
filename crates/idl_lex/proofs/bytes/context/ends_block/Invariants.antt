use Rattle.std.proofs.Common.{◌≡◌, false, drop}
use Rattle.idl_lex.specs.bytes.Context.{ends_block}
use Rattle.idl_lex.proofs.bytes.context.ends_block.Given as goal

abbrev pub invariant-loop-b : goal.invariant-loop-b
invariant-loop-b l = ends_block l.is_after_star (drop l.b-index l.bytes) ≡ ends_block false l.bytes
