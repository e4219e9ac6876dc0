use Rattle.std.proofs.Common.{arith, ap}
use Rattle.std.proofs.Math.ListN.{get_or}
use Rattle.idl_lex.proofs.ByteLemmas.{classes-length}
use Rattle.idl_lex.proofs.bytes.byte.class.Goals as goal

pub bounds-classes-b : goal.bounds-classes-b
bounds-classes-b c = rw c.classes.ensures (omega (arith, classes-length, c.ranges.b))

pub returns : goal.returns
returns c = ap (λ xs. get_or xs c.args.b 0) c.classes.ensures
