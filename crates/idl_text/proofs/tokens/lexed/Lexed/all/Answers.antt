use Rattle.std.proofs.Common.{◌≡◌, ◌∙◌, List, ap, arith, length}
use Rattle.idl_lex.specs.tokens.Tokens.{tokens_of}
use Rattle.idl_lex.specs.declared.tokens.token.PlacedToken.{PlacedToken}
use Rattle.idl_text.specs.Chunk.{tokens_in_chunks}
use Rattle.idl_text.proofs.ChunkLemmas.{AreChunksOf-tokens}
use Rattle.idl_text.proofs.tokens.lexed.Lexed.all.Goals as goal

pub returns-clause-tokens : goal.returns-clause-tokens
returns-clause-tokens c =
    let it = c.self.inside.chunks in
    c.new.ensures ∙ ap tokens_in_chunks c.deref.ensures.value ∙ AreChunksOf-tokens it.file it.placed.items c.self.invariant ∙ ap tokens_of c.self.view_is

pub returns-clause-room : goal.returns-clause-room
returns-clause-room c =
    let it = c.self.inside.chunks in
    let same : tokens_in_chunks it.placed.items ≡ tokens_of c.args.self.now = AreChunksOf-tokens it.file it.placed.items c.self.invariant ∙ ap tokens_of c.self.view_is in
    omega (arith, c.self.invariant.countable, ap (λ (ts : List PlacedToken). length ts) same)
