use Rattle.std.proofs.Common.{◌≡◌, ◌++◌, ◌∙◌, ◌+◌, [], List, ℕ, subst, take, arith}
use Rattle.std.specs.List.{flat_map}
use Rattle.std.proofs.lemmas.Result.{on_err_weaker}
use Rattle.std.proofs.lemmas.List.{take_all}
use Rattle.idl_source.specs.devices.Device.{WritesPart}
use Rattle.idl_loader.specs.Gathering.{Sends}
use Rattle.idl_loader.specs.Lines.{whole_line}
use Rattle.idl_loader.proofs.ReplyLemmas.{on_err, sends-more, sends-part, sends-end-part, lines-more, lines-part}
use Rattle.idl_loader.proofs.reply.write_lines.Goals as goal

pub returns-in_err-push_line-clause-part : goal.returns-in_err-push_line-clause-part
returns-in_err-push_line-clause-part g c =
    let rows = c.args.rows.now in
    let i = c.rows.row-index in
    let row = c.row-item.result in
    let w = g.K.Sink.written c.args.sink.now in
    let v = g.K.Sink.written c.rows.sink in
    let u = g.K.Sink.written c.push_line.new.sink in
    let same : c.as_bytes.result.now ≡ row = cc in
    let line : WritesPart v (c.rows.reply ++ whole_line row) u = subst (λ (r : List ℕ). WritesPart v (c.rows.reply ++ whole_line r) u) same c.in_err-push_line.ensures.part in
    let first : WritesPart w ([] ++ flat_map whole_line (take (i + 1) rows)) u =
    subst (λ (bytes : List ℕ). WritesPart w ([] ++ bytes) u) (lines-more whole_line rows i row (omega arith) c.row-item.is)
    (sends-part w v u [] (flat_map whole_line (take i rows)) (whole_line row) c.rows.reply c.rows.invariant.sent line) in
    on_err c.from_residual.result (lines-part w u [] whole_line rows (i + 1) first)

pub rows-preserved : goal.rows-preserved
rows-preserved g c =
    let rows = c.args.rows.now in
    let i = c.rows.row-index in
    let row = c.row-item.result in
    let w = g.K.Sink.written c.args.sink.now in
    let v = g.K.Sink.written c.rows.sink in
    let u = g.K.Sink.written c.push_line.new.sink in
    let same : c.as_bytes.result.now ≡ row = cc in
    let line : Sends v (c.rows.reply ++ whole_line row) u c.push_line.new.self = subst (λ (r : List ℕ). Sends v (c.rows.reply ++ whole_line r) u c.push_line.new.self) same c.in_ok-push_line.ensures.sent in
    record {
      sent = subst (λ (bytes : List ℕ). Sends w ([] ++ bytes) u c.push_line.new.self) (lines-more whole_line rows i row (omega arith) c.row-item.is)
          (sends-more w v u [] (flat_map whole_line (take i rows)) (whole_line row) c.rows.reply c.push_line.new.self c.rows.invariant.sent line);
      failures = c.in_ok-push_line.ensures.ok ∙ c.rows.invariant.failures;
    }

pub returns-clause-part : goal.returns-clause-part
returns-clause-part g c =
    let rows = c.args.rows.now in
    let w = g.K.Sink.written c.args.sink.now in
    let v = g.K.Sink.written c.rows.sink in
    let all : take c.rows.row-index rows ≡ rows = take_all c.rows.row-index rows (omega arith) in
    on_err_weaker c.finish.result
    (λ part. sends-end-part w v (g.K.Sink.written c.finish.new.sink) (flat_map whole_line rows) c.rows.reply
    (subst (λ (rs : List (List ℕ)). Sends w ([] ++ flat_map whole_line rs) v c.rows.reply) all c.rows.invariant.sent) part)
    c.finish.ensures.part
