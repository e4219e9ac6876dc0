use Rattle.std.proofs.Common.{ap, ◌∙◌}
use Rattle.idl_value.specs.integers.Bits.{bit_of}
use Rattle.idl_value.proofs.BitLemmas.{and_is, bit_of_and}
use Rattle.idl_value.proofs.whole.and.Goals as goal

pub returns-clause-value : goal.returns-clause-value
returns-clause-value c = and_is c.args.a c.args.b c.ranges.a c.ranges.b

pub returns-clause-bits : goal.returns-clause-bits
returns-clause-bits c i = ap (λ z. bit_of z i) (and_is c.args.a c.args.b c.ranges.a c.ranges.b) ∙ bit_of_and c.args.a c.args.b i
