use Rattle.std.proofs.Common.{Some, slice_range, sym, ap, ◌∙◌}
use Rattle.idl_lex.proofs.KindLaws.KindLemmas.{unescaped-behind, unescaped-none}
use Rattle.idl_lex.proofs.tokens.token.unescaped.Goals as goal

pub returns-then-end-eq0 : goal.returns-then-end-eq0
returns-then-end-eq0 c = unescaped-none c.args.spelling.now (sym c.len-end.ensures ∙ c.if-end-eq0.true)

pub returns : goal.returns
returns c =
    let bytes = c.args.spelling.now in
    ap Some (c.in_ok-part.ensures ∙ ap (slice_range bytes 1) c.len-end.ensures)
    ∙ unescaped-behind bytes (λ none. c.if-end-eq0.false (c.len-end.ensures ∙ none))
