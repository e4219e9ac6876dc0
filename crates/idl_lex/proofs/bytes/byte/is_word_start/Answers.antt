use Rattle.std.proofs.Common.{◌∙◌, nat_eq, ap, arith}
use Rattle.idl_lex.proofs.ByteLemmas.{word_start_told}
use Rattle.idl_lex.proofs.bytes.byte.is_word_start.Goals as goal

pub returns : goal.returns
returns c = ap (λ n. nat_eq n 4) c.class.ensures ∙ word_start_told c.args.b (omega (arith, c.ranges.b))
