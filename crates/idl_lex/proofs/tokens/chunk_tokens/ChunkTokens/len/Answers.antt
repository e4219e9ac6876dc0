use Rattle.std.proofs.Common.{ap, arith, length}
use Rattle.idl_lex.proofs.ApartLemmas.{length-placed}
use Rattle.idl_lex.proofs.tokens.chunk_tokens.ChunkTokens.len.Goals as goal

pub returns : goal.returns
returns c =
    let it = c.self.inside in
    omega (arith, c.len.ensures, c.self.invariant, length-placed it.tokens.value.items it.places.items c.self.invariant, ap length c.self.view_is)
