use Rattle.std.proofs.Common.{◌≡◌, ◌∙◌, IfErr, IfSome, rules, refl, subst, sym}
use Rattle.std.proofs.lemmas.Result.{IfErr-weaker}
use Rattle.idl_session.specs.Serving.{Standing, Served, moment_of}
use Rattle.idl_session.specs.Stopping.{Moment, IsLeft}
use Rattle.idl_session.specs.Streams.{Fed}
use Rattle.idl_loader.specs.declared.stop.Stop.{Stop}
use Rattle.idl_loader.specs.declared.stop.Stop.TheVariants.{ReadFailed}
use Rattle.idl_session.proofs.RunLemmas.{served-none, served-more, left-line, left-cut, start}
use Rattle.idl_session.proofs.commands.run.Goals as goal

pub commands-init : goal.commands-init
commands-init g c = record { served = served-none _; reads = refl; writes = refl }

pub commands-preserved : goal.commands-preserved
commands-preserved g c =
    let took = rw c.if-not-branch.false at c.in_ok-read_line.ensures.line in
    let written = g.K.Sink.written c.commands.sink in
    let mid : Standing = record { left = g.S.Source.remaining c.commands.source; fed = c.commands.input.feed; written = written; state = c.commands.session } in
    let next : Standing = record { left = g.S.Source.remaining c.read_line.new.source; fed = c.read_line.new.feed; written = written; state = c.commands.session } in
    let new : Standing = record { left = g.S.Source.remaining c.serve.new.source; fed = c.serve.new.input.feed; written = g.K.Sink.written c.serve.new.sink; state = c.serve.new.session } in
    record {
      served = served-more _ mid next new c.read_line.new.line c.commands.invariant.served took refl refl c.in_ok-serve.ensures.served;
      reads = c.in_ok-serve.ensures.reads ∙ c.in_ok-read_line.ensures.ok ∙ c.commands.invariant.reads;
      writes = c.in_ok-serve.ensures.writes ∙ c.commands.invariant.writes;
    }

pub returns-in_err-read_line-clause-left : goal.returns-in_err-read_line-clause-left
returns-in_err-read_line-clause-left g c =
    let r = c.from_residual.result in
    let left = g.S.Source.remaining c.args.source.now in
    let before = g.K.Sink.written c.args.sink.now in
    let state = c.args.session.now in
    let mid : Standing = record { left = g.S.Source.remaining c.commands.source; fed = c.commands.input.feed; written = g.K.Sink.written c.commands.sink; state = c.commands.session } in
    let new : Moment = record { left = g.S.Source.remaining c.read_line.new.source; written = g.K.Sink.written c.commands.sink; state = c.commands.session } in
    let why : IfErr r (λ stop. stop ≡ ReadFailed) = search rules in
    let done = subst (λ (fed : Fed). Served (record (start left before state) { fed = fed }) mid) c.new-input.ensures c.commands.invariant.served in
    let is = left-line left before state mid new done c.in_err-read_line.ensures.fails refl refl in
    IfErr-weaker r (λ stop. stop ≡ ReadFailed) (λ stop. IfSome left (λ input. IsLeft stop input (moment_of (start left before state)) new))
    (λ stop same. subst (λ (x : Stop). IfSome left (λ input. IsLeft x input (moment_of (start left before state)) new)) (sym same) is)
    why

pub returns-in_err-serve-clause-left : goal.returns-in_err-serve-clause-left
returns-in_err-serve-clause-left g c =
    let took = rw c.if-not-branch.false at c.in_ok-read_line.ensures.line in
    let r = c.from_residual-in_err-serve.result in
    let failed = c.in_err-serve.field-0.0 in
    let left = g.S.Source.remaining c.args.source.now in
    let before = g.K.Sink.written c.args.sink.now in
    let state = c.args.session.now in
    let written = g.K.Sink.written c.commands.sink in
    let mid : Standing = record { left = g.S.Source.remaining c.commands.source; fed = c.commands.input.feed; written = written; state = c.commands.session } in
    let next : Standing = record { left = g.S.Source.remaining c.read_line.new.source; fed = c.read_line.new.feed; written = written; state = c.commands.session } in
    let new : Standing = record { left = g.S.Source.remaining c.serve.new.source; fed = c.serve.new.input.feed; written = g.K.Sink.written c.serve.new.sink; state = c.serve.new.session } in
    let why : IfErr r (λ stop. stop ≡ failed) = search rules in
    let done = subst (λ (fed : Fed). Served (record (start left before state) { fed = fed }) mid) c.new-input.ensures c.commands.invariant.served in
    let is = left-cut failed left before state mid next new c.read_line.new.line done took refl refl c.in_err-serve.ensures.cut in
    IfErr-weaker r (λ stop. stop ≡ failed) (λ stop. IfSome left (λ input. IsLeft stop input (moment_of (start left before state)) (moment_of new)))
    (λ stop same. subst (λ (x : Stop). IfSome left (λ input. IsLeft x input (moment_of (start left before state)) (moment_of new))) (sym same) is)
    why
