use Rattle.std.proofs.Common.{◌∙◌, ap, map, sym}
use Rattle.idl_lex.specs.tokens.Apart.{place_of}
use Rattle.idl_lex.proofs.ApartLemmas.{places_in-placed}
use Rattle.idl_lex.proofs.tokens.chunk_tokens.ChunkTokens.places.Goals as goal

pub returns : goal.returns
returns c =
    let it = c.self.inside in
    c.deref.ensures.value ∙ sym (places_in-placed it.tokens.value.items it.places.items c.self.invariant) ∙ ap (map place_of) c.self.view_is
