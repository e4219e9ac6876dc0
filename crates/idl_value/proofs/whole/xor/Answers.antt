use Rattle.std.proofs.Common.{ap, ◌∙◌}
use Rattle.idl_value.specs.integers.Bits.{bit_of}
use Rattle.idl_value.proofs.BitLemmas.{xor_is, bit_of_xor}
use Rattle.idl_value.proofs.whole.xor.Goals as goal

pub returns-clause-value : goal.returns-clause-value
returns-clause-value c = xor_is c.args.a c.args.b c.ranges.a c.ranges.b

pub returns-clause-bits : goal.returns-clause-bits
returns-clause-bits c i = ap (λ z. bit_of z i) (xor_is c.args.a c.args.b c.ranges.a c.ranges.b) ∙ bit_of_xor c.args.a c.args.b i
