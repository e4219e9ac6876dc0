use Rattle.std.proofs.Common.{◌≡◌, ◌++◌, ◌∙◌, ◌+◌, List, ℕ, subst, codes, length, take, arith, sym}
use Rattle.std.specs.List.{flat_map}
use Rattle.std.proofs.lemmas.Result.{on_err_weaker}
use Rattle.std.proofs.lemmas.List.{take_all}
use Rattle.std.proofs.lemmas.Option.{get_or_from_slice_get}
use Rattle.idl_source.specs.devices.Device.{WritesPart}
use Rattle.idl_loader.specs.Gathering.{Sends}
use Rattle.idl_loader.specs.Lines.{number_line, whole_line}
use Rattle.idl_session.specs.replies.Replies.{rows_reply}
use Rattle.idl_session.specs.replies.Rows.{rows_of}
use Rattle.idl_loader.proofs.ReplyLemmas.{on_err, part-front, sends-more, sends-part, sends-end-part, lines-more, lines-part}
use Rattle.idl_session.proofs.reply.write_rows.Goals as goal

pub returns-in_err-push_counted-clause-part : goal.returns-in_err-push_counted-clause-part
returns-in_err-push_counted-clause-part g c =
    let w = g.K.Sink.written c.args.sink.now in
    let v = g.K.Sink.written c.push_counted.new.sink in
    let heading = number_line (codes "rows ") (length (rows_of c.args.rows)) in
    let part : WritesPart w heading v = subst (λ (n : ℕ). WritesPart w (number_line (codes "rows ") n) v) c.len.ensures (subst (λ (r : List ℕ). WritesPart w (r ++ number_line (codes "rows ") c.len.result) v) c.new-reply.ensures c.in_err-push_counted.ensures.part) in
    on_err c.from_residual.result (part-front w v heading (flat_map whole_line (rows_of c.args.rows)) part)

pub returns-in_err-push_line-clause-part : goal.returns-in_err-push_line-clause-part
returns-in_err-push_line-clause-part g c =
    let rows = rows_of c.args.rows in
    let i = c.rows.i in
    let row = c.get.result.now in
    let w = g.K.Sink.written c.args.sink.now in
    let v = g.K.Sink.written c.rows.sink in
    let u = g.K.Sink.written c.push_line.new.sink in
    let heading = number_line (codes "rows ") (length rows) in
    let line = c.in_err-push_line.ensures.part in
    let first : WritesPart w (heading ++ flat_map whole_line (take (i + 1) rows)) u =
    subst (λ (bytes : List ℕ). WritesPart w (heading ++ bytes) u) (lines-more whole_line rows i row (omega arith) (sym (get_or_from_slice_get rows i row row c.get.ensures)))
    (sends-part w v u heading (flat_map whole_line (take i rows)) (whole_line row) c.rows.reply c.rows.invariant.sent line) in
    on_err c.from_residual-in_err-push_line.result (lines-part w u heading whole_line rows (i + 1) first)

pub rows-preserved : goal.rows-preserved
rows-preserved g c =
    let rows = rows_of c.args.rows in
    let i = c.rows.i in
    let row = c.get.result.now in
    let w = g.K.Sink.written c.args.sink.now in
    let v = g.K.Sink.written c.rows.sink in
    let u = g.K.Sink.written c.push_line.new.sink in
    let heading = number_line (codes "rows ") (length rows) in
    let line = c.in_ok-push_line.ensures.sent in
    record {
      sent = subst (λ (bytes : List ℕ). Sends w (heading ++ bytes) u c.push_line.new.self) (lines-more whole_line rows i row (omega arith) (sym (get_or_from_slice_get rows i row row c.get.ensures)))
          (sends-more w v u heading (flat_map whole_line (take i rows)) (whole_line row) c.rows.reply c.push_line.new.self c.rows.invariant.sent line);
      failures = c.in_ok-push_line.ensures.ok ∙ c.rows.invariant.failures;
    }

pub returns-clause-part : goal.returns-clause-part
returns-clause-part g c =
    let rows = rows_of c.args.rows in
    let w = g.K.Sink.written c.args.sink.now in
    let v = g.K.Sink.written c.rows.sink in
    let heading = number_line (codes "rows ") (length rows) in
    let all : take c.rows.i rows ≡ rows = take_all c.rows.i rows (omega arith) in
    on_err_weaker c.finish.result
    (λ part. sends-end-part w v (g.K.Sink.written c.finish.new.sink) (rows_reply rows) c.rows.reply
    (subst (λ (rs : List (List ℕ)). Sends w (heading ++ flat_map whole_line rs) v c.rows.reply) all c.rows.invariant.sent) part)
    c.finish.ensures.part
