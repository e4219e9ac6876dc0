use Rattle.std.proofs.Common.{◌∙◌, ap, arith}
use Rattle.std.specs.Prelude.{nat_le}
use Rattle.idl_lex.proofs.ByteLemmas.{word_byte_told}
use Rattle.idl_lex.proofs.bytes.byte.is_word_byte.Goals as goal

pub returns : goal.returns
returns c = ap (λ n. nat_le 3 n) c.class.ensures ∙ word_byte_told c.args.b (omega (arith, c.ranges.b))
