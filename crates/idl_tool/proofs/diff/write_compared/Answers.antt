use Rattle.std.proofs.Common.{◌∙◌, Err, IfOk, ℕ, List, Ok, OnOk, Result, ap, map, subst, sym}
use Rattle.idl_source.specs.devices.Device.{append}
use Rattle.idl_driver.specs.idl_sources.Compile.{compiled_root}
use Rattle.idl_loader.proofs.ReplyLemmas.{on_err}
use Rattle.idl_driver.proofs.ToldLemmas.{writes-more, writes-none, writes-part}
use Rattle.idl_tool.specs.Checked.{IsReportText}
use Rattle.idl_tool.proofs.diff.write_compared.Goals as goal

-- what holds where a call is well, of what it gives
of-both : {T E A : Type 0} {P Q : T → Type 0} (r : Result T E) → ((x : T) → A → P x → Q x) → OnOk r A → IfOk r P → IfOk r Q
of-both (Ok x) f a p = f x a p
of-both (Err e) f a p = tt

pub report_text-requires : goal.report_text-requires
report_text-requires g c = c.deref.ensures.value ∙ c.requires.first ∙ ap (map (compiled_root c.args.old.now.sources)) (sym c.as_slice.ensures.keys)

pub report_text-requires-2 : goal.report_text-requires-2
report_text-requires-2 g c = c.deref-2.ensures.value ∙ c.requires.second ∙ ap (map (compiled_root c.args.new.now.sources)) (sym c.as_slice-2.ensures.keys)

pub returns-clause-compared : goal.returns-clause-compared
returns-clause-compared g c =
    let old = c.args.old.now in
    let new = c.args.new.now in
    let first = c.in_ok-first.first.items in
    let second = c.in_ok-second.second.items in
    let told = c.in_ok-write_all.ensures.written ∙ ap (append (g.E.Sink.written c.args.devices.now.errors)) c.deref-3.ensures.value in
    of-both c.write_between.result
    (λ status output ending. record {
      reports_old = first;
      reported_old = subst (λ (rs : List (List ℕ)). IsReportText old.sources rs first) c.as_slice.ensures.keys c.in_ok-first.ensures;
      reports_new = second;
      reported_new = subst (λ (rs : List (List ℕ)). IsReportText new.sources rs second) c.as_slice-2.ensures.keys c.in_ok-second.ensures;
      errors = c.in_ok-write_all-2.ensures.written ∙ ap (append (g.E.Sink.written c.write_all.new.sink)) c.deref-4.ensures.value ∙ ap (λ before. append before second) told;
      output = output;
      ending = ending;
    }) c.write_between.ensures.written c.write_between.ensures.status

pub returns-clause-until : goal.returns-clause-until
returns-clause-until g c = on_err c.write_between.result (writes-more _ _ _ (_, c.in_ok-write_all.ensures.written) (_, c.in_ok-write_all-2.ensures.written))

pub returns-in_err-first-clause-until : goal.returns-in_err-first-clause-until
returns-in_err-first-clause-until g c = on_err c.from_residual.result (writes-none (g.E.Sink.written c.args.devices.now.errors))

pub returns-in_err-second-clause-until : goal.returns-in_err-second-clause-until
returns-in_err-second-clause-until g c = on_err c.from_residual-in_err-second.result (writes-none (g.E.Sink.written c.args.devices.now.errors))

pub returns-in_err-write_all-clause-until : goal.returns-in_err-write_all-clause-until
returns-in_err-write_all-clause-until g c = on_err c.from_residual-in_err-write_all.result (writes-part _ _ _ c.in_err-write_all.ensures.part)

pub returns-in_err-write_all-2-clause-until : goal.returns-in_err-write_all-2-clause-until
returns-in_err-write_all-2-clause-until g c =
    on_err c.from_residual-in_err-write_all-2.result (writes-more _ _ _ (_, c.in_ok-write_all.ensures.written) (writes-part _ _ _ c.in_err-write_all-2.ensures.part))
