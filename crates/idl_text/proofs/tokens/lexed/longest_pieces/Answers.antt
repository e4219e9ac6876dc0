use Rattle.idl_lex.specs.bytes.Context.{line_start}
use Rattle.idl_lex.specs.bytes.Text.{joined}
use Rattle.idl_lex.specs.tokens.Tokens.{tokens_of}
use Rattle.idl_text.proofs.CutLemmas.{AreTokensOf-tokens_after}
use Rattle.idl_text.proofs.tokens.lexed.longest_pieces.Goals as goal

pub returns : goal.returns
unfolding tokens_of
returns c lines tokens = AreTokensOf-tokens_after line_start (joined 1 lines) tokens
