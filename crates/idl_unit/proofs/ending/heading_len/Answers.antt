use Rattle.std.proofs.Common.{inl, inr, ap, sym, ◌∙◌, arith}
use Rattle.idl_unit.specs.Ending.{closes, edge, opens, is_semicolon, role}
use Rattle.idl_unit.proofs.EndingLemmas.{is_at, heading-through, heading-step, not_opens, not_closes, not_semicolon, edge_open, edge_semicolon}
use Rattle.idl_unit.proofs.ending.heading_len.Goals as goal

pub returns-in-OpenBrace-clause-cut : goal.returns-in-OpenBrace-clause-cut
returns-in-OpenBrace-clause-cut c =
    let tokens = c.args.tokens.now in
    let i = c.loop-index.index in
    let t = c.index-tokens-index.result in
    let r = edge_open (role t) (sym c.edge_of.ensures ∙ c.in-OpenBrace.is) in
    heading-through tokens i t c.requires.rule (is_at tokens i t (omega arith) c.index-tokens-index.is) c.loop-index.invariant (ap closes r) (inl (ap opens r))

pub returns-in-Semicolon-clause-cut : goal.returns-in-Semicolon-clause-cut
returns-in-Semicolon-clause-cut c =
    let tokens = c.args.tokens.now in
    let i = c.loop-index.index in
    let t = c.index-tokens-index.result in
    let r = edge_semicolon (role t) (sym c.edge_of.ensures ∙ c.in-Semicolon.is) in
    heading-through tokens i t c.requires.rule (is_at tokens i t (omega arith) c.index-tokens-index.is) c.loop-index.invariant (ap closes r) (inr (ap is_semicolon r))

pub loop-index-preserved : goal.loop-index-preserved
loop-index-preserved c =
    let tokens = c.args.tokens.now in
    let i = c.loop-index.index in
    let t = c.index-tokens-index.result in
    let r = c.edge_of.ensures in
    heading-step tokens i t c.requires.rule (is_at tokens i t (omega arith) c.index-tokens-index.is) c.loop-index.invariant
    (not_closes _ (λ e. c.in_default.not-CloseBrace (r ∙ ap edge e))) (not_opens _ (λ e. c.in_default.not-OpenBrace (r ∙ ap edge e))) (not_semicolon _ (λ e. c.in_default.not-Semicolon (r ∙ ap edge e)))
