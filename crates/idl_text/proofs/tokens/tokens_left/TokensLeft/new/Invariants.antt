use Rattle.std.proofs.Common.{◌≡◌, ◌+◌, ◌-◌, length, take}
use Rattle.idl_text.specs.Chunk.{tokens_in_chunks}
use Rattle.idl_text.proofs.tokens.tokens_left.TokensLeft.new.Given as goal

abbrev pub invariant-on : goal.invariant-on
invariant-on l = l.before ≡ length (tokens_in_chunks (take l.chunk l.chunks)) + l.place

abbrev pub decreases-on : goal.decreases-on
decreases-on l = length l.chunks - l.chunk
