use Rattle.std.proofs.Common.{◌≡◌, List, ℕ, Option, IfErr, refl, subst, rules}
use Rattle.idl_source.specs.devices.Device.{append, WritesPart}
use Rattle.idl_source.specs.declared.refusal.Refusal.TheVariants as refusal
use Rattle.idl_project.specs.declared.work.Work.{Work}
use Rattle.idl_session.specs.Headings.{edit_by}
use Rattle.idl_session.specs.replies.Replies.{refused_reply, edit_reply, query_reply, work_reply}
use Rattle.idl_session.specs.Requests.{Malformed, Make, Ask, TellWork, request_kept}
use Rattle.idl_session.specs.replies.Rows.{rows_for}
use Rattle.idl_session.specs.Serving.{Standing}
use Rattle.idl_loader.specs.declared.stop.Stop.TheVariants.{WriteFailed}
use Rattle.idl_session.proofs.ServeLemmas.{serves-alone, cut-write}
use Rattle.idl_session.proofs.serve.serve.Goals as goal

pub returns-in_err-write_refused-in-Malformed-clause-cut : goal.returns-in_err-write_refused-in-Malformed-clause-cut
returns-in_err-write_refused-in-Malformed-clause-cut g c =
    let old : Standing = record { left = g.S.Source.remaining c.args.source.now; fed = c.args.input.now.feed; written = g.K.Sink.written c.args.sink.now; state = c.args.session.now } in
    let new : Standing = record { left = g.S.Source.remaining c.args.source.now; fed = c.args.input.now.feed; written = g.K.Sink.written c.write_refused.new.sink; state = c.args.session.now } in
    let r = c.from_residual.result in
    let reply = refused_reply refusal.Malformed in
    let why : IfErr r (λ stop. stop ≡ WriteFailed) = search rules in
    cut-write r (request_kept c.args.input.now.line) old new reply why c.in_err-write_refused-in-Malformed.ensures.part
    (serves-alone (request_kept c.args.input.now.line) Malformed old new reply c.in-Malformed.ensures.request refl refl (refl, refl))

pub returns-in_ok-write_refused-in-Malformed-clause-served : goal.returns-in_ok-write_refused-in-Malformed-clause-served
returns-in_ok-write_refused-in-Malformed-clause-served g c =
    let old : Standing = record { left = g.S.Source.remaining c.args.source.now; fed = c.args.input.now.feed; written = g.K.Sink.written c.args.sink.now; state = c.args.session.now } in
    let new : Standing = record { left = g.S.Source.remaining c.args.source.now; fed = c.args.input.now.feed; written = g.K.Sink.written c.write_refused.new.sink; state = c.args.session.now } in
    let reply = refused_reply refusal.Malformed in
    (reply, c.in_ok-write_refused-in-Malformed.ensures.written, serves-alone (request_kept c.args.input.now.line) Malformed old new reply c.in-Malformed.ensures.request refl refl (refl, refl))

pub returns-in_err-write_edit-in-Make-clause-cut : goal.returns-in_err-write_edit-in-Make-clause-cut
returns-in_err-write_edit-in-Make-clause-cut g c =
    let old : Standing = record { left = g.S.Source.remaining c.args.source.now; fed = c.args.input.now.feed; written = g.K.Sink.written c.args.sink.now; state = c.args.session.now } in
    let new : Standing = record { left = g.S.Source.remaining c.args.source.now; fed = c.args.input.now.feed; written = g.K.Sink.written c.write_edit-in-Make.new.sink; state = c.make-outcome.new.session } in
    let r = c.from_residual-in_err-write_edit-in-Make.result in
    let why : IfErr r (λ stop. stop ≡ WriteFailed) = search rules in
    cut-write r (request_kept c.args.input.now.line) old new (edit_reply c.make-outcome.result) why c.in_err-write_edit-in-Make.ensures.part
    (serves-alone (request_kept c.args.input.now.line) (Make (edit_by c.in-Make.change)) old new (edit_reply c.make-outcome.result) c.in-Make.ensures.request refl refl (c.make-outcome.result, c.make-outcome.ensures, refl))

pub returns-in_ok-write_edit-in-Make-clause-served : goal.returns-in_ok-write_edit-in-Make-clause-served
returns-in_ok-write_edit-in-Make-clause-served g c =
    let old : Standing = record { left = g.S.Source.remaining c.args.source.now; fed = c.args.input.now.feed; written = g.K.Sink.written c.args.sink.now; state = c.args.session.now } in
    let new : Standing = record { left = g.S.Source.remaining c.args.source.now; fed = c.args.input.now.feed; written = g.K.Sink.written c.write_edit-in-Make.new.sink; state = c.make-outcome.new.session } in (
      edit_reply c.make-outcome.result,
      c.in_ok-write_edit-in-Make.ensures.written,
      serves-alone (request_kept c.args.input.now.line) (Make (edit_by c.in-Make.change)) old new (edit_reply c.make-outcome.result) c.in-Make.ensures.request refl refl (c.make-outcome.result, c.make-outcome.ensures, refl),
    )

pub returns-in_err-write_query-in-Ask-clause-cut : goal.returns-in_err-write_query-in-Ask-clause-cut
returns-in_err-write_query-in-Ask-clause-cut g c =
    let name = c.in-Ask.name.now in
    let question = c.in-Ask.question in
    let reply = query_reply name (rows_for c.args.session.now.project question name) in
    let old : Standing = record { left = g.S.Source.remaining c.args.source.now; fed = c.args.input.now.feed; written = g.K.Sink.written c.args.sink.now; state = c.args.session.now } in
    let new : Standing = record { left = g.S.Source.remaining c.args.source.now; fed = c.args.input.now.feed; written = g.K.Sink.written c.write_query.new.sink; state = c.args.session.now } in
    let r = c.from_residual-in_err-write_query-in-Ask.result in
    let why : IfErr r (λ stop. stop ≡ WriteFailed) = search rules in
    cut-write r (request_kept c.args.input.now.line) old new reply why
    (subst (λ (rows : Option (List (List ℕ))). WritesPart old.written (query_reply name rows) new.written) c.ask-rows.ensures c.in_err-write_query-in-Ask.ensures.part)
    (serves-alone (request_kept c.args.input.now.line) (Ask question name) old new reply c.in-Ask.ensures.request refl refl (refl, refl))

pub returns-in_ok-write_query-in-Ask-clause-served : goal.returns-in_ok-write_query-in-Ask-clause-served
returns-in_ok-write_query-in-Ask-clause-served g c =
    let name = c.in-Ask.name.now in
    let question = c.in-Ask.question in
    let reply = query_reply name (rows_for c.args.session.now.project question name) in
    let old : Standing = record { left = g.S.Source.remaining c.args.source.now; fed = c.args.input.now.feed; written = g.K.Sink.written c.args.sink.now; state = c.args.session.now } in
    let new : Standing = record { left = g.S.Source.remaining c.args.source.now; fed = c.args.input.now.feed; written = g.K.Sink.written c.write_query.new.sink; state = c.args.session.now } in (
      reply,
      subst (λ (rows : Option (List (List ℕ))). new.written ≡ append old.written (query_reply name rows)) c.ask-rows.ensures c.in_ok-write_query-in-Ask.ensures.written,
      serves-alone (request_kept c.args.input.now.line) (Ask question name) old new reply c.in-Ask.ensures.request refl refl (refl, refl),
    )

pub returns-in_err-write_work-in-Work-clause-cut : goal.returns-in_err-write_work-in-Work-clause-cut
returns-in_err-write_work-in-Work-clause-cut g c =
    let reply = work_reply c.args.session.now.work in
    let old : Standing = record { left = g.S.Source.remaining c.args.source.now; fed = c.args.input.now.feed; written = g.K.Sink.written c.args.sink.now; state = c.args.session.now } in
    let new : Standing = record { left = g.S.Source.remaining c.args.source.now; fed = c.args.input.now.feed; written = g.K.Sink.written c.write_work.new.sink; state = c.args.session.now } in
    let r = c.from_residual-in_err-write_work-in-Work.result in
    let why : IfErr r (λ stop. stop ≡ WriteFailed) = search rules in
    cut-write r (request_kept c.args.input.now.line) old new reply why
    (subst (λ (work : Work). WritesPart old.written (work_reply work) new.written) c.work.ensures c.in_err-write_work-in-Work.ensures.part)
    (serves-alone (request_kept c.args.input.now.line) TellWork old new reply c.in-Work.ensures.request refl refl (refl, refl))

pub returns-in_ok-write_work-in-Work-clause-served : goal.returns-in_ok-write_work-in-Work-clause-served
returns-in_ok-write_work-in-Work-clause-served g c =
    let reply = work_reply c.args.session.now.work in
    let old : Standing = record { left = g.S.Source.remaining c.args.source.now; fed = c.args.input.now.feed; written = g.K.Sink.written c.args.sink.now; state = c.args.session.now } in
    let new : Standing = record { left = g.S.Source.remaining c.args.source.now; fed = c.args.input.now.feed; written = g.K.Sink.written c.write_work.new.sink; state = c.args.session.now } in (
      reply,
      subst (λ (work : Work). new.written ≡ append old.written (work_reply work)) c.work.ensures c.in_ok-write_work-in-Work.ensures.written,
      serves-alone (request_kept c.args.input.now.line) TellWork old new reply c.in-Work.ensures.request refl refl (refl, refl),
    )
