use Rattle.std.proofs.Common.{◌∙◌, nat_eq, ap, arith}
use Rattle.idl_lex.proofs.ByteLemmas.{space_told}
use Rattle.idl_lex.proofs.bytes.byte.is_space.Goals as goal

pub returns : goal.returns
returns c = ap (λ n. nat_eq n 1) c.class.ensures ∙ space_told c.args.b (omega (arith, c.ranges.b))
