use Rattle.std.proofs.Common.{◌≡◌, ◌∙◌, ap, sym, true, false}
use Rattle.std.proofs.lemmas.Result.{IfOk-weaker, on_ok_weaker}
use Rattle.idl_source.specs.devices.Device.{append}
use Rattle.idl_tool.specs.Compared.{has_error, seen}
use Rattle.idl_tool.proofs.DiffLemmas.{append-none, shown-all, shown-none}
use Rattle.idl_tool.proofs.diff.write_between.Goals as goal

pub returns-then-has_error-clause-written : goal.returns-then-has_error-clause-written
returns-then-has_error-clause-written g c =
    let old = seen c.args.old.now in
    let new = seen c.args.new.now in
    let before = g.K.Sink.written c.args.output.now in
    let is : has_error old new ≡ true = sym c.has_error.ensures ∙ c.if-has_error.true in
    append-none before ∙ ap (append before) (sym (shown-none c.args.diff.now.fails old new c.args.diff.now.is_json is).0)

pub returns-then-has_error-clause-status : goal.returns-then-has_error-clause-status
returns-then-has_error-clause-status g c =
    let old = seen c.args.old.now in
    let new = seen c.args.new.now in
    let is : has_error old new ≡ true = sym c.has_error.ensures ∙ c.if-has_error.true in
    sym (shown-none c.args.diff.now.fails old new c.args.diff.now.is_json is).1

pub returns-clause-written : goal.returns-clause-written
returns-clause-written g c =
    let old = seen c.args.old.now in
    let new = seen c.args.new.now in
    let before = g.K.Sink.written c.args.output.now in
    let is : has_error old new ≡ false = sym c.has_error.ensures ∙ c.if-has_error.false in
    on_ok_weaker c.write_changes.result (λ e. e ∙ ap (append before) (sym (shown-all c.args.diff.now.fails old new c.args.diff.now.is_json is).0)) c.write_changes.ensures.written

pub returns-clause-status : goal.returns-clause-status
returns-clause-status g c =
    let old = seen c.args.old.now in
    let new = seen c.args.new.now in
    let is : has_error old new ≡ false = sym c.has_error.ensures ∙ c.if-has_error.false in
    IfOk-weaker c.write_changes.result _ _ (λ status e. e ∙ sym (shown-all c.args.diff.now.fails old new c.args.diff.now.is_json is).1) c.write_changes.ensures.status
