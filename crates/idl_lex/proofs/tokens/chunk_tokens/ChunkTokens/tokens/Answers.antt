use Rattle.std.proofs.Common.{◌∙◌, ap, sym}
use Rattle.idl_lex.specs.tokens.Tokens.{tokens_in}
use Rattle.idl_lex.proofs.ApartLemmas.{tokens_in-placed}
use Rattle.idl_lex.proofs.tokens.chunk_tokens.ChunkTokens.tokens.Goals as goal

pub returns : goal.returns
returns c =
    let it = c.self.inside in
    sym (tokens_in-placed it.tokens.value.items it.places.items c.self.invariant) ∙ ap tokens_in c.self.view_is
