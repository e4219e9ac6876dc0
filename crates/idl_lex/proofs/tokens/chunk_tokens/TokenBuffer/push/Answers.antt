use Rattle.std.proofs.Common.{◌≡◌, ◌∙◌, ◌++◌, ◌∷◌, [], ap}
use Rattle.idl_lex.specs.tokens.Apart.{place_of, placed}
use Rattle.idl_lex.proofs.ApartLemmas.{placed-push}
use Rattle.idl_lex.proofs.tokens.chunk_tokens.TokenBuffer.push.Goals as goal

pub returns : goal.returns
returns c =
    let it = c.self.inside in
    let token = c.args.placed in
    let places : c.push_reserved.new.self.items ≡ it.places.items ++ place_of token ∷ [] =
    c.push_reserved.ensures.items ∙ ap (λ ps. ps ++ place_of token ∷ []) c.in_ok-reserve.ensures.items in
    (λ i. placed (c.in_ok-push.ensures.items i) (places i))
    ∙ placed-push it.tokens.items it.places.items token c.self.invariant
    ∙ ap (λ ts. ts ++ token ∷ []) c.self.view_is
