use Rattle.std.proofs.Common.{◌≡◌, ◌∙◌, ap, subst, sym, IfOk}
use Rattle.std.specs.List.{slice_range}
use Rattle.idl_lex.specs.tokens.Tokens.{tokens_in}
use Rattle.idl_lex.specs.declared.tokens.token.PlacedToken.{PlacedToken}
use Rattle.idl_text.proofs.MovedLemmas.{tokens_in-moved}
use Rattle.idl_base.proofs.PartLemmas.{part-map}
use Rattle.idl_text.proofs.tokens.file_tokens.FileTokens.shared.Goals as goal

pub returns : goal.returns
returns c =
    let it = c.self.inside in
    let all = it.tokens.now in
    subst (λ ts. IfOk c.new.result (λ range. range ≡ ts))
    (ap (λ v. slice_range v.items it.from it.to) c.in_ok-clone.ensures.cases
    ∙ ap (λ ts. slice_range ts it.from it.to) c.tokens.ensures
    ∙ part-map (λ (t : PlacedToken). t.token) all it.from it.to
    ∙ sym (tokens_in-moved it.lines_before (slice_range all it.from it.to))
    ∙ ap tokens_in c.self.view_is)
    c.new.ensures
