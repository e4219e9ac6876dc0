use Rattle.std.proofs.Common.{◌≡◌, ◌≤◌, ◌<◌, ◌-◌, length}
use Rattle.idl_text.specs.Chunk.{AreChunks, lines_in_chunks, tokens_in_chunks}
use Rattle.idl_text.proofs.tokens.lexed.lex.Given as goal

abbrev pub invariant-cut : goal.invariant-cut
invariant-cut l = record {
  within : l.count ≤ length l.lines;
  chunks : AreChunks l.lines 0 0 l.placed.items;
  lines : l.count ≡ lines_in_chunks l.placed.items;
  room : l.tokens < 18446744073709551616;
  tokens : l.tokens ≡ length (tokens_in_chunks l.placed.items);
}

abbrev pub decreases-cut : goal.decreases-cut
decreases-cut l = length l.lines - l.count
