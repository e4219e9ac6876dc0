use Rattle.std.proofs.Common.{◌∙◌, nat_eq, ap, arith}
use Rattle.idl_lex.proofs.ByteLemmas.{lone_mark_told}
use Rattle.idl_lex.proofs.kinds.mark_table.is_lone_mark.Goals as goal

pub returns : goal.returns
returns c = ap (λ n. nat_eq n 2) c.class.ensures ∙ lone_mark_told c.args.b (omega (arith, c.ranges.b))
