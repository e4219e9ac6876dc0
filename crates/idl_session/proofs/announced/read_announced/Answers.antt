use Rattle.std.proofs.Common.{◌∙◌, refl, arith}
use Rattle.idl_session.proofs.AnnouncedLemmas.{gathering-none, gathering-more}
use Rattle.idl_loader.proofs.ReplyLemmas.{on_err}
use Rattle.idl_session.proofs.StreamLemmas.{fails-later}
use Rattle.idl_session.proofs.announced.read_announced.Goals as goal

pub loop-i-init : goal.loop-i-init
loop-i-init g c = record {
  gathering = gathering-none c.args.count _ c.first_announced-announced.result c.first_announced-announced.ensures;
  nearer = omega arith;
  failures = refl;
}

pub loop-i-preserved : goal.loop-i-preserved
loop-i-preserved g c =
    let took = rw c.if-not-branch.false at c.in_ok-take_next.ensures.taken in
    record {
      gathering = gathering-more c.args.count c.loop-i.i _ _ _ c.loop-i.announced c.take_next.new.announced c.loop-i.invariant.gathering took;
      nearer = omega (arith, c.in_ok-take_next.ensures.nearer);
      failures = c.in_ok-take_next.ensures.ok ∙ c.loop-i.invariant.failures;
    }

pub returns-in_err-take_next-clause-fails : goal.returns-in_err-take_next-clause-fails
returns-in_err-take_next-clause-fails g c =
    let gathering = c.loop-i.invariant.gathering in
    on_err c.from_residual.result (fails-later _ _ _ gathering.lines 1 c.args.count gathering.taken c.in_err-take_next.ensures.fails (omega (arith, gathering.many)))
