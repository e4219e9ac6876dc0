use Rattle.std.proofs.Common.{◌<◌, ◌∙◌, ap, arith}
use Rattle.idl_source.specs.names.Path.{Path}
use Rattle.idl_source.proofs.PathLemmas.{steps-over}
use Rattle.idl_source.proofs.names.path.Trail.write_steps_up.Goals as goal

pub returns-in_err-write_before-clause-none : goal.returns-in_err-write_before-clause-none
returns-in_err-write_before-clause-none c =
    let up = ap (λ (p : Path). p.up) c.self.view_is in
    let lt : c.loop.counter < c.args.self.now.up = omega (arith, up, c.loop-test.true) in
    rw c.from_residual.ensures (steps-over c.args.self.now c.loop.counter c.loop.self.down lt c.loop.invariant.down c.in_err-write_before.ensures.none)
