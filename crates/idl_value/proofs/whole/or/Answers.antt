use Rattle.std.proofs.Common.{ap, ◌∙◌}
use Rattle.idl_value.specs.integers.Bits.{bit_of}
use Rattle.idl_value.proofs.BitLemmas.{or_is, bit_of_or}
use Rattle.idl_value.proofs.whole.or.Goals as goal

pub returns-clause-value : goal.returns-clause-value
returns-clause-value c = or_is c.args.a c.args.b c.ranges.a c.ranges.b

pub returns-clause-bits : goal.returns-clause-bits
returns-clause-bits c i = ap (λ z. bit_of z i) (or_is c.args.a c.args.b c.ranges.a c.ranges.b) ∙ bit_of_or c.args.a c.args.b i
