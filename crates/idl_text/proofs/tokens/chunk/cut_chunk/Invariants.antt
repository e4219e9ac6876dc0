use Rattle.std.proofs.Common.{◌≡◌, ◌≤◌, ◌++◌, ◌+◌, ◌-◌, ℕ, List, length, take}
use Rattle.idl_lex.specs.tokens.Lexer.{coming}
use Rattle.idl_lex.specs.bytes.Text.{joined}
use Rattle.idl_lex.specs.tokens.Tokens.{tokens_of}
use Rattle.idl_text.specs.Chunk.{IsEnded}
use Rattle.idl_text.proofs.ChunkLemmas.{IsClosed}
use Rattle.idl_text.proofs.tokens.chunk.cut_chunk.Given as goal

abbrev pub invariant-lines : goal.invariant-lines
invariant-lines l = record {
  within : l.count ≤ length l.lines;
  ends : IsEnded l.lines l.count;
  tokens : (rest : List (List ℕ)) → IsClosed l.lines l.count rest
      → l.tokens ++ coming l.before (joined (l.count + 1) rest) ≡ tokens_of (take l.count l.lines ++ rest);
}

abbrev pub decreases-lines : goal.decreases-lines
decreases-lines l = length l.lines - l.count
