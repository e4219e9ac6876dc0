use Rattle.std.proofs.Common.{◌≡◌, ◌∙◌, ap, sym}
use Rattle.std.specs.List.{slice_range}
use Rattle.idl_lex.specs.tokens.Tokens.{tokens_in}
use Rattle.idl_lex.specs.declared.tokens.token.PlacedToken.{PlacedToken}
use Rattle.idl_text.proofs.MovedLemmas.{tokens_in-moved}
use Rattle.idl_base.proofs.PartLemmas.{part-map}
use Rattle.idl_text.proofs.tokens.file_tokens.FileTokens.as_slice.Goals as goal

pub returns : goal.returns
returns c =
    let it = c.self.inside in
    let all = it.tokens.now in
    let same : c.as_slice.result.now ≡ tokens_in all = c.as_slice.ensures.value ∙ ap (λ v. v.items) c.deref.ensures ∙ c.tokens.ensures in
    ap (λ ts. slice_range ts it.from it.to) same
    ∙ part-map (λ (t : PlacedToken). t.token) all it.from it.to
    ∙ sym (tokens_in-moved it.lines_before (slice_range all it.from it.to))
    ∙ ap tokens_in c.self.view_is
