use Rattle.std.proofs.Common.{◌∙◌, sym}
use Rattle.idl_lex.proofs.ColumnLemmas.{taken-no_more, taken-on}
use Rattle.idl_lex.proofs.bytes.text_left.TextLeft.behind_piece.Goals as goal

pub returns-in_default-step : goal.returns-in_default-step
returns-in_default-step c = sym (taken-no_more c.bytes.now c.bytes.left c.in-Some.first c.in-Some.rest c.in-Some.ensures (sym c.in_default-step.ensures)) ∙ c.bytes.invariant

pub bytes-preserved : goal.bytes-preserved
bytes-preserved c = taken-on c.bytes.now c.in-Some-step.next c.bytes.left c.in-Some.first c.in-Some.rest c.in-Some.ensures (sym c.in-Some-step.ensures) ∙ c.bytes.invariant
