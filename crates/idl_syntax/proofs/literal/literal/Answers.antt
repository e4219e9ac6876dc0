use Rattle.std.proofs.Common.{sym, ap, ◌∙◌}
use Rattle.std.proofs.lemmas.Result.{err_from_is_err_and}
use Rattle.idl_syntax.proofs.Literals.{as_text, as_wide_text, literal_alone, literal_text, literal_wide_text, text_fails, wide_text_fails}
use Rattle.idl_syntax.proofs.literal.literal.Goals as goal

pub returns-in_ok-pieces-clause-reads : goal.returns-in_ok-pieces-clause-reads
returns-in_ok-pieces-clause-reads c = literal_text c.args.tokens.now (sym c.is_at_text.ensures ∙ c.if-is_at_text.true) ∙ ap as_text c.in_ok-pieces.ensures.reads

pub returns-in_err-pieces-clause-reads : goal.returns-in_err-pieces-clause-reads
returns-in_err-pieces-clause-reads c =
    let why = err_from_is_err_and c.from_residual.result c.from_residual.ensures.1 in
    rw (why.1, why.2, literal_text c.args.tokens.now (sym c.is_at_text.ensures ∙ c.if-is_at_text.true)) (text_fails _ _ c.in_err-pieces.ensures.reads)

pub returns-in_ok-pieces-2-clause-reads : goal.returns-in_ok-pieces-2-clause-reads
returns-in_ok-pieces-2-clause-reads c = literal_wide_text c.args.tokens.now (sym c.is_at_wide_text.ensures ∙ c.if-is_at_wide_text.true) ∙ ap as_wide_text c.in_ok-pieces-2.ensures.reads

pub returns-in_err-pieces-2-clause-reads : goal.returns-in_err-pieces-2-clause-reads
returns-in_err-pieces-2-clause-reads c =
    let why = err_from_is_err_and c.from_residual-in_err-pieces-2.result c.from_residual-in_err-pieces-2.ensures.1 in
    rw (why.1, why.2, literal_wide_text c.args.tokens.now (sym c.is_at_wide_text.ensures ∙ c.if-is_at_wide_text.true)) (wide_text_fails _ _ c.in_err-pieces-2.ensures.reads)

pub returns-else-is_at_wide_text-clause-reads : goal.returns-else-is_at_wide_text-clause-reads
returns-else-is_at_wide_text-clause-reads c =
    rw (literal_alone c.args.tokens.now (sym c.is_at_text.ensures ∙ c.if-is_at_text.false) (sym c.is_at_wide_text.ensures ∙ c.if-is_at_wide_text.false)) c.single_literal.ensures.reads
