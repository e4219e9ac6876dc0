use Rattle.std.proofs.Common.{ℕ, Bor, List, map, refl, subst}
use Rattle.idl_loader.proofs.ReplyLemmas.{on_err}
use Rattle.idl_driver.proofs.ToldLemmas.{writes-none}
use Rattle.idl_tool.specs.Answered.{IsExplained}
use Rattle.idl_tool.proofs.program.fulfil.Goals as goal

pub returns-in_err-write_all-in-Show-clause-until : goal.returns-in_err-write_all-in-Show-clause-until
returns-in_err-write_all-in-Show-clause-until g c = on_err c.from_residual.result (writes-none (g.E.Sink.written c.args.devices.now.errors))

pub returns-in_err-explain-in-Explain-clause-until : goal.returns-in_err-explain-in-Explain-clause-until
returns-in_err-explain-in-Explain-clause-until g c = on_err c.from_residual-in_err-explain-in-Explain.result (writes-none (g.E.Sink.written c.args.devices.now.errors))

pub returns-in_ok-explain-in-Explain-clause-done : goal.returns-in_ok-explain-in-Explain-clause-done
returns-in_ok-explain-in-Explain-clause-done g c =
    let before = g.O.Sink.written c.args.devices.now.output in
    let after = g.O.Sink.written c.explain.new.output in
    rw c.in-Explain.is (record {
      output = subst (λ (ws : List (Bor (List ℕ))). IsExplained (map (λ (w : Bor (List ℕ)). w.now) ws) before after) c.deref.ensures.value c.in_ok-explain-in-Explain.ensures.explained;
      errors = refl;
      sound = refl;
    })

pub returns-in_err-status-in-Serve-clause-until : goal.returns-in_err-status-in-Serve-clause-until
returns-in_err-status-in-Serve-clause-until g c = on_err c.from_residual-in_err-status-in-Serve.result (writes-none (g.E.Sink.written c.args.devices.now.errors))
