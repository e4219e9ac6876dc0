use Rattle.std.proofs.Common.{◌∙◌, sym}
use Rattle.std.proofs.lemmas.Bool.{eqb-false, false≢true}
use Rattle.idl_lex.proofs.KindLaws.AlikeLemmas.{folded-other}
use Rattle.idl_lex.proofs.kinds.keyword_table.are_alike.Goals as goal

pub returns-then-not-eq_ignore_ascii_case : goal.returns-then-not-eq_ignore_ascii_case
returns-then-not-eq_ignore_ascii_case c =
    let other = eqb-false _ _ (sym c.eq_ignore_ascii_case.ensures ∙ c.if-not-eq_ignore_ascii_case.true) in
    (λ e. absurd (false≢true e), λ same. absurd (folded-other c.args.a.now c.args.b.now c.loop-i.i other same))
