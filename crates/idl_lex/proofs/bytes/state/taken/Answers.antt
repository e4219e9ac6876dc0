use Rattle.std.proofs.Common.{arith, sym}
use Rattle.idl_lex.proofs.PieceLemmas.{taken-more, taken-stop, taken-end}
use Rattle.idl_lex.proofs.bytes.state.taken.Goals as goal

pub returns-in-None-clause-len : goal.returns-in-None-clause-len
returns-in-None-clause-len c =
    let e = taken-stop c.loop-i.now c.args.bytes.now c.loop-i.i 0 c.loop-i-test.true (sym c.in-None.ensures) in
    let inv = c.loop-i.invariant in
    omega (arith, e, inv)

pub loop-i-preserved : goal.loop-i-preserved
loop-i-preserved c =
    let e = taken-more c.loop-i.now c.in-Some.next c.args.bytes.now c.loop-i.i 0 c.loop-i-test.true (sym c.in-Some.ensures) in
    let inv = c.loop-i.invariant in
    omega (arith, e, inv)

pub returns-clause-len : goal.returns-clause-len
returns-clause-len c =
    let e = taken-end c.loop-i.now c.args.bytes.now c.loop-i.i c.loop-i-test.false in
    let inv = c.loop-i.invariant in
    omega (arith, e, inv)
