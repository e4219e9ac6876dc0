use Rattle.std.proofs.Common.{ap, arith, length}
use Rattle.idl_root.proofs.CompiledLemmas.{compiles-once, compiles-to, units-short}
use Rattle.idl_root.proofs.compiling.laws.compiled.Goals as goal
use Rattle.idl_unit.specs.Units.{units_of}

pub returns-clause-is : goal.returns-clause-is
returns-clause-is c = λ end events compiled within small.
    let all = ap length (c.nothing_lost.ensures.tokens events) in
    compiles-to c.judging.ensures.once c.judging.ensures.is end events compiled within (units-short (units_of events) (omega (arith, all, small)))

pub returns-clause-once : goal.returns-clause-once
returns-clause-once c = compiles-once c.judging.ensures.once
