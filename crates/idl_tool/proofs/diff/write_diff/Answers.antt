use Rattle.std.proofs.Common.{Bor, ◌∙◌, ℕ, List, ap, map, subst}
use Rattle.std.proofs.lemmas.Result.{IfOk-weaker}
use Rattle.idl_loader.specs.Holding.{Holding}
use Rattle.idl_loader.proofs.ReplyLemmas.{on_err}
use Rattle.idl_driver.proofs.ToldLemmas.{writes-none}
use Rattle.idl_tool.specs.Compared.{IsVersion, seen}
use Rattle.idl_tool.proofs.diff.write_diff.Goals as goal

pub write_compared-status-requires-clause-first : goal.write_compared-status-requires-clause-first
write_compared-status-requires-clause-first g c = c.in_ok-old.ensures.compiled

pub write_compared-status-requires-clause-second : goal.write_compared-status-requires-clause-second
write_compared-status-requires-clause-second g c = c.in_ok-new.ensures.compiled

pub returns-clause-compared : goal.returns-clause-compared
returns-clause-compared g c =
    let told = g.L.Loader.told c.args.devices.now.loader in
    let diff = c.args.diff.now in
    let now = λ (w : Bor (List ℕ)). w.now in
    let files = c.in_ok-old_files in
    let old = c.in_ok-old.old in
    let new = c.in_ok-new.new in
    let still = files.ensures.still in
    IfOk-weaker c.write_compared-status.result _ _
    (λ status are. record {
      old = seen old;
      new = seen new;
      old_files = map now files.old_files.items;
      new_files = map now files.new_files.items;
      there = files.ensures.there;
      old_is = subst (λ (fs : List (List ℕ)). IsVersion told diff.old fs (seen old)) (ap (map now) c.deref.ensures.value)
          (subst (λ (t : List ℕ → Holding). IsVersion t diff.old (map now c.deref.result.now) (seen old)) still c.in_ok-old.ensures.version);
      new_is = subst (λ (fs : List (List ℕ)). IsVersion told diff.new fs (seen new)) (ap (map now) c.deref-2.ensures.value)
          (subst (λ (t : List ℕ → Holding). IsVersion t diff.new (map now c.deref-2.result.now) (seen new)) (c.in_ok-old.ensures.still ∙ still) c.in_ok-new.ensures.version);
      compared = are;
    }) c.write_compared-status.ensures.compared

pub returns-in_err-old_files-clause-until : goal.returns-in_err-old_files-clause-until
returns-in_err-old_files-clause-until g c = on_err c.from_residual.result (writes-none (g.E.Sink.written c.args.devices.now.errors))

pub returns-in_err-old-clause-until : goal.returns-in_err-old-clause-until
returns-in_err-old-clause-until g c = on_err c.from_residual-in_err-old.result (writes-none (g.E.Sink.written c.args.devices.now.errors))

pub returns-in_err-new-clause-until : goal.returns-in_err-new-clause-until
returns-in_err-new-clause-until g c = on_err c.from_residual-in_err-new.result (writes-none (g.E.Sink.written c.args.devices.now.errors))
