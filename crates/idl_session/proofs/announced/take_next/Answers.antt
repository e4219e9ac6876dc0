use Rattle.std.proofs.Common.{◌≡◌, true, None, subst}
use Rattle.idl_session.proofs.AnnouncedLemmas.{gathers-kept}
use Rattle.idl_loader.proofs.ReplyLemmas.{on_err}
use Rattle.idl_session.specs.replies.Announced.{Gathers}
use Rattle.idl_session.specs.Streams.{Fed, stream_of, IsOver, FailsWithin}
use Rattle.idl_session.specs.declared.announced.Announced.{Announced}
use Rattle.idl_session.proofs.announced.take_next.Goals as goal

pub returns-clause-taken : goal.returns-clause-taken
returns-clause-taken g c =
    let still = rw c.if-take_whole.false at (c.take_whole.ensures.taken None) in
    let took = rw c.if-not-branch.false at c.in_ok-read_line.ensures.line in
    let rest = g.S.Source.remaining c.args.source.now in
    let new = stream_of (g.S.Source.remaining c.read_line.new.source) c.read_line.new.feed in
    let after = c.take_line.new.announced in
    let gathers = gathers-kept _ new c.read_line.new.line _ c.take_whole.new.announced after took c.get.ensures.same c.take_line.ensures in
    subst (λ (f : Fed). Gathers (stream_of rest f) new c.args.announced.now after) still.0
    (subst (λ (a : Announced). Gathers (stream_of rest c.take_whole.new.feed) new a after) still.1 gathers)

pub returns-then-take_whole-clause-nearer : goal.returns-then-take_whole-clause-nearer
returns-then-take_whole-clause-nearer g c = c.take_whole.ensures.nearer (g.S.Source.reads_left c.args.source.now)

pub returns-then-not-branch-clause-taken : goal.returns-then-not-branch-clause-taken
returns-then-not-branch-clause-taken g c =
    let still = rw c.if-take_whole.false at (c.take_whole.ensures.taken None) in
    let over = rw c.if-not-branch.true at c.in_ok-read_line.ensures.line in
    let rest = g.S.Source.remaining c.args.source.now in
    let new = stream_of (g.S.Source.remaining c.read_line.new.source) c.read_line.new.feed in
    subst (λ (f : Fed). (new ≡ record (stream_of rest f) { ended = true }) × IsOver (stream_of rest f).bytes) still.0 over

pub returns-in_err-read_line-clause-fails : goal.returns-in_err-read_line-clause-fails
returns-in_err-read_line-clause-fails g c =
    let still = rw c.if-take_whole.false at (c.take_whole.ensures.taken None) in
    let rest = g.S.Source.remaining c.args.source.now in
    on_err c.from_residual.result
    (subst (λ (f : Fed). FailsWithin 1 (stream_of rest f) (g.S.Source.remaining c.read_line.new.source)) still.0 c.in_err-read_line.ensures.fails)
