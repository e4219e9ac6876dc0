use Rattle.idl_lex.proofs.KindLaws.MarkLemmas.{mark_kind-empty, mark_kind-long}
use Rattle.idl_lex.proofs.kinds.mark_table.mark_kind.Goals as goal

pub returns-in_default : goal.returns-in_default
returns-in_default c = mark_kind-empty c.args.spelling.now c.in_default.len_below

pub returns-in_default-2 : goal.returns-in_default-2
returns-in_default-2 c = mark_kind-long c.args.spelling.now c.in_default.len_at_least
